use mathlib.Core.Path.{◌≡◌}
use mathlib.Core.List.{List}
use Prim.Native.Nat.{ℕ, ◌-◌, ◌≤◌}
use lib.ListN.{length}
use Rattle.ucd.specs.Unicode16.{unicode16}
use Rattle.ji.proofs.unicode.Reader.{Taken}
use Rattle.ji.proofs.unicode.count_points.Given as goal

-- the first i bytes are read, and n code points of them counted
abbrev pub Counted : List ℕ → ℕ → ℕ → Type 0
Counted s i n = (u : List ℕ) × Taken unicode16 s u i × (length u ≡ n) × (n ≤ i)

abbrev pub invariant-loop-i : goal.invariant-loop-i
invariant-loop-i l = Counted l.s l.i l.n

abbrev pub decreases-loop-i : goal.decreases-loop-i
decreases-loop-i l = length l.s - l.i
