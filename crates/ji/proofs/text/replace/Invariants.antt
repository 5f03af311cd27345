-- `text::replace` meets its contract. The loop's invariant: what replace-all makes of the text up to i is written up to j.
use Prim.Native.Nat.{◌-◌}
use lib.ListN.{length}
use Rattle.ji.specs.Text.{replace_all}
use Rattle.ji.proofs.Underway.{Underway}
use Rattle.ji.proofs.text.replace.Given as goal

abbrev pub invariant-loop-i : goal.invariant-loop-i
invariant-loop-i l = Underway (replace_all l.pattern l.by) l.src l.initial.out l.out l.i l.j

abbrev pub decreases-loop-i : goal.decreases-loop-i
decreases-loop-i l = length l.src - l.i
