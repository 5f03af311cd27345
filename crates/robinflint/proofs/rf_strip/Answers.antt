use mathlib.Core.Path.{◌∙◌}
use Rattle.robinflint.proofs.rf_strip.Goals as goal

pub returns : goal.returns
returns c = let call = c.strip_tone_diacritic in c.to_reply.ensures call.new.out ∙ call.ensures
