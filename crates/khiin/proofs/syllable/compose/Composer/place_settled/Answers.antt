use mathlib.Core.Path.{sym, ap, ◌∙◌}
use mathlib.Core.List.{List}
use Rattle.ji.specs.Unicode.{unicode16}
use Rattle.ji.specs.Utf8.{encode}
use Rattle.ji.specs.Reply.{placed}
use lib.ListN.{take}
use Prim.Native.Nat.{ℕ}
use Rattle.ji.specs.declared.lomaji.khin.Khin.{Khin}
use Rattle.ji.specs.declared.lomaji.khin.Khin.TheVariants.{No}
use Rattle.khiin.specs.Syllable.{mark_of, compose, composed_with}
use Rattle.khiin.proofs.syllable.compose.Laws.{composed_is}
use Rattle.khiin.proofs.syllable.compose.Composer.place_settled.Goals as goal

pub returns-in-No : goal.returns-in-No
returns-in-No c =
    λ body f.
    c.place_spelled.ensures
    ∙ ap (λ (u : List ℕ). placed 0 (encode u) c.args.out.now)
    (ap (λ (u : List ℕ). composed_with unicode16 c.args.self.input.points u (mark_of c.args.self.tone)) c.put_dot-m.ensures.0.is
    ∙ composed_is c.args.self.input.points body (take c.args.settled.len c.args.s.now) c.args.self.tone No f
    ∙ ap (λ (h : Khin). compose unicode16 c.args.self.input.points body c.args.self.tone h) (sym c.in-No.is))
