use mathlib.Core.Path.{◌≡◌}
use Prim.Native.Nat.{◌-◌, ◌≤◌, ◌<◌}
use lib.ListN.{length}
use Rattle.khiin.proofs.syllable.compose.Laws.{shifted}
use Rattle.khiin.proofs.syllable.marking.insert_mark.Given as goal

abbrev pub invariant-loop-i : goal.invariant-loop-i
invariant-loop-i l = (l.k < l.i) × (l.i ≤ length l.initial.s) × (length l.s ≡ length l.initial.s) × (l.s ≡ shifted l.initial.s (l.i - 1))
