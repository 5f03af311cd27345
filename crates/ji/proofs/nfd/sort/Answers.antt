-- `ji::nfd::sort` meets its contract. The loop's invariant: what stands before i is as it was, and what follows is in order.
use Rattle.ucd.specs.Unicode16.{unicode16}
use Rattle.ji.proofs.OrderLoops.{sorting_start, sorting_more}
use Rattle.ji.proofs.nfd.sort.Goals as goal

pub loop-i-init : goal.loop-i-init
loop-i-init c = sorting_start unicode16 c.args.s.now

pub loop-i-preserved : goal.loop-i-preserved
loop-i-preserved c =
    sorting_more unicode16 c.loop-i.invariant c.insert.new.s c.loop-i-test.true c.insert.ensures c.insert.auto.s
