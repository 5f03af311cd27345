use mathlib.Core.Path.{sym, ◌∙◌}
use Prim.Native.Nat.{ℕ}
use Rattle.std.proofs.Common.{rules, tests}
use Rattle.std.specs.List.{zip}
use lib.Dec.{eqb}
use Rattle.ji.specs.Text.{lower}
use Rattle.std.proofs.lemmas.Iterator.{YieldsList-from_slice, YieldsList-from_zip}
use Rattle.std.proofs.lemmas.Iterator.Search.{YieldsList-from_take_while}
use Rattle.std.proofs.lemmas.Iterator.Consumers.{count_from_yields_List}
use Rattle.std.proofs.lemmas.List.Folds.{length-prefix_len}
use Rattle.khiin_records.proofs.Prefixes.{shared_zip}
use Rattle.khiin_records.proofs.alignment.shared_prefix.Goals as goal

pub returns : goal.returns
returns c =
    count_from_yields_List _ _ c.count.ensures.ran
    (YieldsList-from_take_while _ (λ (p : ℕ × ℕ). eqb (lower p.0) (lower p.1)) (YieldsList-from_zip (YieldsList-from_slice c.args.keys.now cc) (YieldsList-from_slice c.args.s.now cc)) (search rules) (search rules) (λ x b q k. search (rules, tests)))
    ∙ length-prefix_len {X = ℕ × ℕ} (λ (p : ℕ × ℕ). eqb (lower p.0) (lower p.1)) (zip c.args.keys.now c.args.s.now)
    ∙ sym (shared_zip c.args.keys.now c.args.s.now)
