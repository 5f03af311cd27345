use Rattle.std.proofs.lemmas.Result.{err_from_is_err_and}
use mathlib.Core.Path.{ap, ◌∙◌}
use mathlib.Core.Bool.{false}
use mathlib.Core.List.{List}
use Prim.Native.Nat.{ℕ}
use Rattle.ucd.specs.Unicode16.{unicode16}
use Rattle.ji.specs.Unicode.{spread}
use Rattle.ji.specs.Lomaji.ToneLetter.{tone_letter, letter_at}
use Rattle.ji.proofs.Writing.{written_take}
use Rattle.ji.proofs.Replies.{check_within_law}
use Rattle.ji.proofs.Readings.{told}
use Rattle.ji.proofs.lomaji.tone_letter.Laws.{letter_refused, letter_good}
use Rattle.ji.proofs.lomaji.tone_letter.letter_with.Goals as goal

pub returns-in_err-len : goal.returns-in_err-len
returns-in_err-len g c =
    let p = err_from_is_err_and c.from_residual.result c.from_residual.ensures.1 in
    rw (p.1, p.2) (letter_refused unicode16 c.args.text.now _ (check_within_law unicode16 c.args.text.now c.requires.0 ∙ (told unicode16 _ _ _ false c.in_err-len.was c.read_points.ensures).0))

pub returns : goal.returns
unfolding spread
returns g c =
    let h = told unicode16 _ _ _ false c.in_ok-len.was c.read_points.ensures in
    c.letter_in.ensures ∙ ap (λ (s : List ℕ). letter_at s (tone_letter s)) (written_take h.2) ∙ letter_good unicode16 c.args.text.now h.0 (check_within_law unicode16 c.args.text.now c.requires.0 ∙ h.1)
