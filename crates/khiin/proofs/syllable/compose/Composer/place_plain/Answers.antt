use mathlib.Core.Path.{sym, ap, ◌∙◌}
use mathlib.Core.List.{List}
use Prim.Native.Nat.{ℕ}
use Rattle.ji.specs.Unicode.{unicode16}
use Rattle.ji.specs.Utf8.{encode}
use Rattle.ji.specs.Reply.{placed}
use Rattle.ji.proofs.lomaji.tone_letter.Laws.{tone_letter_below}
use Rattle.khiin.specs.Syllable.{composed_with}
use Rattle.khiin.proofs.syllable.marking.Letters.{mark_told}
use Rattle.khiin.proofs.syllable.plain.Laws.{ascii_encoded, byte_place_told}
use Rattle.khiin.proofs.syllable.compose.Composer.place_plain.Goals as goal

pub place_joined-requires : goal.place_joined-requires
place_joined-requires c =
    (tone_letter_below c.args.s.now _ (byte_place_told c.args.s.now c.in-Some-ascii_tone_position.is c.ascii_tone_position.ensures), c.requires)

pub returns-in_default : goal.returns-in_default
returns-in_default c =
    let s = c.args.s.now in
    c.place_bytes.ensures
    ∙ ap (λ (u : List ℕ). placed 0 u c.args.out.now) (sym (ascii_encoded s c.requires) ∙ ap (λ (mark : List ℕ). encode (composed_with unicode16 c.args.self.input.points s mark)) (mark_told c.args.self.tone c.in_default.is c.mark_of.ensures))
