use Prim.Native.Nat.{◌-◌}
use lib.ListN.{length}
use Rattle.ji.proofs.lomaji.quick.Laws.{Walking}
use Rattle.ji.proofs.lomaji.quick.walk.Given as goal

abbrev pub invariant-loop-i : goal.invariant-loop-i
invariant-loop-i l = Walking l.s l.initial.out l.out l.i l.n l.marks

abbrev pub decreases-loop-i : goal.decreases-loop-i
decreases-loop-i l = length l.s - l.i
