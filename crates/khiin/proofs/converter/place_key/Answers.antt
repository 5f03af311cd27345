use mathlib.Core.Path.{ap, ◌∙◌}
use mathlib.Core.List.{List}
use Prim.Native.Nat.{ℕ}
use Rattle.ji.specs.Reply.{placed}
use Rattle.khiin.proofs.converter.Laws.{key_stored}
use Rattle.khiin.proofs.converter.place_key.Goals as goal

pub returns : goal.returns
returns c =
    c.place_bytes.ensures ∙ ap (λ (l : List ℕ). placed 0 l c.args.out.now) (key_stored c.args.bytes.now c.args.at c.args.key c.requires)
