use mathlib.Core.Path.{sym, ap, ◌∙◌}
use mathlib.Core.List.{[]}
use Rattle.std.specs.Prelude.{Ok}
use Rattle.ji.specs.Lomaji.ToneLetter.{tone_letter_reply}
use Rattle.robinflint.proofs.rf_tone_letter.Goals as goal

pub returns-in-Err : goal.returns-in-Err
returns-in-Err c = c.refuse.ensures [] ∙ ap tone_letter_reply (sym c.in-Err.is) ∙ c.tone_letter.ensures

pub returns-in-Ok-None : goal.returns-in-Ok-None
returns-in-Ok-None c = c.found.ensures ∙ ap tone_letter_reply (ap Ok (sym c.in-Ok-None.field-0-is) ∙ sym c.in-Ok-None.is) ∙ c.tone_letter.ensures

pub returns-in-Ok-Some : goal.returns-in-Ok-Some
returns-in-Ok-Some c = c.found-in-Ok-Some.ensures ∙ ap tone_letter_reply (ap Ok (sym c.in-Ok-Some.field-0-is) ∙ sym c.in-Ok-Some.is) ∙ c.tone_letter.ensures
