use mathlib.Core.Path.{◌≡◌}
use lib.ListN.{length}
use Rattle.ji.proofs.OrderLoops.{moved}
use Rattle.ji.proofs.nfd.insert.Given as goal

abbrev pub invariant-loop-j : goal.invariant-loop-j
invariant-loop-j l = (length l.s ≡ length l.initial.s) × (l.s ≡ moved l.initial.s l.i l.j)
