use mathlib.Core.Path.{◌∙◌}
use Rattle.workbench.proofs.wb_nfc.Goals as goal

pub returns : goal.returns
returns c = let call = c.to_nfc in c.to_reply.ensures call.new.out ∙ call.ensures
