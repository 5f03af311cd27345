use Prim.Native.Nat.{◌-◌}
use lib.ListN.{length}
use Rattle.ucd.specs.Unicode16.{unicode16}
use Rattle.ji.proofs.unicode.Reader.{Read}
use Rattle.ji.proofs.unicode.decode.Given as goal

abbrev pub invariant-loop-i : goal.invariant-loop-i
invariant-loop-i l = Read unicode16 l.decomposed l.s l.initial.out l.out l.i l.n

abbrev pub decreases-loop-i : goal.decreases-loop-i
decreases-loop-i l = length l.s - l.i
