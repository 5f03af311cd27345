use mathlib.Core.Path.{◌≡◌, sym, ap, ◌∙◌}
use mathlib.Core.List.{List}
use Prim.Native.Nat.{ℕ}
use lib.ListN.{take, length-take}
use Rattle.ji.specs.Lomaji.ToneLetter.{tone_letter, place_of}
use Rattle.std.specs.Prelude.{Option}
use Rattle.ji.specs.declared.unicode.CharLen.{CharLen}
use Rattle.ji.proofs.lomaji.tone_letter.Laws.{tone_letter_below}
use native.Mathlib.Omega.{arith}
use Rattle.khiin.proofs.syllable.compose.Composer.place_spelled.Goals as goal

-- the place of the tone letter, as the answer has it
found : (s : List ℕ) {p x : Option CharLen} → p ≡ x → place_of p ≡ tone_letter s → tone_letter s ≡ place_of x
found s e h = sym h ∙ ap place_of e

pub place_marked-requires : goal.place_marked-requires
place_marked-requires c =
    let s = take c.args.n c.args.s.now in
    (omega (arith, tone_letter_below s _ (found s c.in-Some-tone_position.is c.tone_position.ensures), length-take c.args.n c.args.s.now), c.requires.0, c.requires.1)
