use mathlib.Core.Path.{ap, ◌∙◌}
use mathlib.Core.List.{List}
use Prim.Native.Nat.{ℕ}
use Rattle.ji.specs.Unicode.{unicode16}
use Rattle.ji.specs.Utf8.{encode}
use Rattle.ji.specs.Reply.{placed}
use Rattle.khiin.specs.Syllable.{mark_of, composed_with}
use Rattle.khiin.proofs.syllable.compose.Laws.{composed_is}
use native.Mathlib.Omega.{arith}
use Rattle.khiin.proofs.syllable.compose.Composer.place_dotted.Goals as goal

pub place_spelled-requires : goal.place_spelled-requires
place_spelled-requires c =
    omega (arith, c.write_whole-n.ensures.1, c.requires, c.write_whole-n.auto.out)

pub returns : goal.returns
returns c =
    λ body f.
    c.place_spelled.ensures
    ∙ ap (λ (u : List ℕ). placed 0 (encode u) c.args.out.now)
    (ap (λ (u : List ℕ). composed_with unicode16 c.args.self.input.points u (mark_of c.args.self.tone)) c.write_whole-n.ensures.0.is
    ∙ composed_is c.args.self.input.points body c.args.s.now c.args.self.tone c.args.self.khin f)
