use Rattle.std.proofs.lemmas.Result.{err_from_is_err_and}
use mathlib.Core.Path.{ap, ◌∙◌}
use mathlib.Core.List.{List}
use Prim.Native.Nat.{ℕ}
use Rattle.ucd.specs.Unicode16.{unicode16}
use Rattle.ji.specs.Lomaji.ToneLetter.{tone_letter, is_some, has_letter_reply}
use Rattle.ji.proofs.Writing.{written_take}
use Rattle.ji.proofs.Readings.{nfd_told}
use Rattle.ji.proofs.lomaji.tone_letter.Laws.{has_refused, has_good, has_reply}
use Rattle.ji.proofs.lomaji.tone_letter.has_tone_letter.Goals as goal

pub returns-in_err-len : goal.returns-in_err-len
returns-in_err-len c =
    let p = err_from_is_err_and c.from_residual.result c.from_residual.ensures.1 in
    rw (p.1, p.2) (let a = c.args in
    has_refused unicode16 a.text.now _ (nfd_told unicode16 _ _ _ c.in_err-len.was c.read_nfd.ensures).0)

pub returns : goal.returns
returns c =
    let a = c.args in
    let h = nfd_told unicode16 _ _ _ c.in_ok-len.was c.read_nfd.ensures in
    has_reply c.holds_letter.result
    ∙ ap has_letter_reply c.holds_letter.ensures
    ∙ ap (λ (s : List ℕ). has_letter_reply (is_some (tone_letter s))) (written_take h.2)
    ∙ has_good unicode16 a.text.now h.0 h.1
