-- `ji::nfd::sort` meets its contract. The loop's invariant: what stands before i is as it was, and what follows is in order.
use Rattle.ucd.specs.Unicode16.{unicode16}
use Rattle.ji.proofs.OrderLoops.{Sorting}
use Rattle.ji.proofs.nfd.sort.Given as goal

abbrev pub invariant-loop-i : goal.invariant-loop-i
invariant-loop-i l = Sorting unicode16 l.initial.s l.s l.i
