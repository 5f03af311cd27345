-- `ji::nfd::is_ordered` meets its contract. The loop's invariant: the text is in order just if what is left is, behind the class before.
use Rattle.ucd.specs.Unicode16.{unicode16}
use Rattle.ji.proofs.OrderLoops.{checking_start}
use Rattle.ji.proofs.nfd.is_ordered.Goals as goal

pub loop-c-init : goal.loop-c-init
loop-c-init c = checking_start unicode16 c.args.s.now
