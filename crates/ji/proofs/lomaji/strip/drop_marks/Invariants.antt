use mathlib.Core.Path.{◌≡◌}
use mathlib.Core.List.{List, ◌++◌}
use Prim.Native.Nat.{ℕ, ◌≤◌}
use lib.ListN.{drop}
use Rattle.ji.specs.Written.{Written}
use Rattle.ji.specs.Lomaji.Strip.{without_marks, dropped_marks, last_tone}
use Rattle.ji.specs.declared.tone.Tone.TheVariants.{None}
use Rattle.ji.proofs.lomaji.strip.drop_marks.Given as goal

abbrev pub invariant-loop-i : goal.invariant-loop-i
invariant-loop-i l = (l.left ≤ l.i) × (w : List ℕ) × Written l.initial.s l.s l.left w × (w ++ without_marks (drop l.i l.initial.s) ≡ without_marks l.initial.s) × (last_tone l.tone (dropped_marks (drop l.i l.initial.s)) ≡ last_tone None (dropped_marks l.initial.s))
