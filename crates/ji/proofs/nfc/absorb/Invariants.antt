-- `ji::nfc::absorb` meets its contract. The loop's invariant: R1 and R2 on the whole text are R1 and R2 on what stands before i.
use Rattle.ucd.specs.Unicode16.{unicode16}
use Rattle.ji.proofs.ComposeLoops.{Searching}
use Rattle.ji.proofs.nfc.absorb.Given as goal

abbrev pub invariant-loop-i : goal.invariant-loop-i
invariant-loop-i l = Searching unicode16 l.initial.s l.c l.s l.i
