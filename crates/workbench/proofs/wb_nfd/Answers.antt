use mathlib.Core.Path.{◌∙◌}
use Rattle.workbench.proofs.wb_nfd.Goals as goal

pub returns : goal.returns
returns c = let call = c.to_nfd in c.to_reply.ensures call.new.out ∙ call.ensures
