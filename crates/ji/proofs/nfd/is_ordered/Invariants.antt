-- `ji::nfd::is_ordered` meets its contract. The loop's invariant: the text is in order just if what is left is, behind the class before.
use Rattle.ucd.specs.Unicode16.{unicode16}
use Rattle.ji.proofs.OrderLoops.{Checking}
use Rattle.ji.proofs.nfd.is_ordered.Given as goal

abbrev pub invariant-loop-c : goal.invariant-loop-c
invariant-loop-c l = Checking unicode16 l.s l.before l.c-index
