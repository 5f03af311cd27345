use mathlib.Core.Path.{sym, ap, ◌∙◌}
use mathlib.Core.List.{[]}
use Rattle.std.specs.Prelude.{Ok}
use Rattle.ji.specs.Lomaji.ToneLetter.{has_tone_letter_reply}
use Rattle.workbench.proofs.wb_has_tone_letter.Goals as goal

pub returns-in-Err : goal.returns-in-Err
returns-in-Err c = c.refuse.ensures [] ∙ ap has_tone_letter_reply (sym c.in-Err.is) ∙ c.has_tone_letter.ensures

pub returns-in-Ok-true : goal.returns-in-Ok-true
returns-in-Ok-true c = c.found.ensures ∙ ap has_tone_letter_reply (ap Ok (sym c.in-Ok-true.field-0-test) ∙ sym c.in-Ok-true.is) ∙ c.has_tone_letter.ensures

pub returns-in-Ok-false : goal.returns-in-Ok-false
returns-in-Ok-false c = c.found-in-Ok-false.ensures ∙ ap has_tone_letter_reply (ap Ok (sym c.in-Ok-false.field-0-test) ∙ sym c.in-Ok-false.is) ∙ c.has_tone_letter.ensures
