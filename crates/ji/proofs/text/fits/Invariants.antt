-- `text::fits` meets its contract. The loop's invariant: what replace-all makes of the whole text fits the room just where what it makes of
-- the text from i on fits what is left.
use mathlib.Core.Path.{◌≡◌}
use Prim.Native.Nat.{◌+◌, ◌-◌, ◌≤◌}
use lib.ListN.{length, drop}
use Rattle.ji.specs.Text.{replace_all}
use Rattle.ji.proofs.text.fits.Given as goal

abbrev pub invariant-loop-i : goal.invariant-loop-i
invariant-loop-i l = (l.i ≤ length l.s) × (length (replace_all l.pattern l.by l.s) + l.left ≡ l.room + length (replace_all l.pattern l.by (drop l.i l.s)))

abbrev pub decreases-loop-i : goal.decreases-loop-i
decreases-loop-i l = length l.s - l.i
