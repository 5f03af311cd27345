use mathlib.Core.Path.{◌∙◌}
use Rattle.robinflint.proofs.rf_from_raw.Goals as goal

pub returns : goal.returns
returns c = let call = c.from_raw in c.to_reply.ensures call.new.out ∙ call.ensures
