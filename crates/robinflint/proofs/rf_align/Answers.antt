use mathlib.Core.Path.{◌∙◌}
use Rattle.robinflint.proofs.rf_align.Goals as goal

pub returns : goal.returns
returns c = let call = c.from_conversion_alignment in c.to_reply.ensures call.new.out ∙ call.ensures
