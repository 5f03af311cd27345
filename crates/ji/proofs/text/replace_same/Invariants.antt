-- `text::replace_same` meets its contract. The loop's invariant: what replace-all makes of the text up to i stands in its place, and behind i
-- the text is as it was.
use Prim.Native.Nat.{◌-◌}
use lib.ListN.{length}
use Rattle.ji.specs.Text.{replace_all}
use Rattle.ji.proofs.Underway.{Underway}
use Rattle.ji.proofs.text.replace_same.Given as goal

abbrev pub invariant-loop-i : goal.invariant-loop-i
invariant-loop-i l = Underway (replace_all l.pattern l.by) l.initial.s l.initial.s l.s l.i l.i

abbrev pub decreases-loop-i : goal.decreases-loop-i
decreases-loop-i l = length l.initial.s - l.i
