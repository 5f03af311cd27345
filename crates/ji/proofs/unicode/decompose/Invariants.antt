use Prim.Native.Nat.{◌*◌, ◌≤◌}
use Rattle.ucd.specs.Full.{full}
use Rattle.ucd.specs.Unicode16.{unicode16}
use Rattle.ji.proofs.Underway.{Underway}
use Rattle.ji.proofs.unicode.decompose.Given as goal

abbrev pub invariant-loop-c : goal.invariant-loop-c
invariant-loop-c l = Underway (full unicode16) l.s l.initial.out l.out l.c-index l.n × (l.n ≤ 3 * l.c-index)
