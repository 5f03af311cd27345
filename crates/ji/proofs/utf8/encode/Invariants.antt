use mathlib.Core.Path.{◌≡◌}
use mathlib.Core.List.{List, ◌++◌}
use Prim.Native.Nat.{ℕ}
use lib.ListN.{drop}
use Rattle.ji.specs.Written.{Written}
use Rattle.ji.specs.Utf8.{encode}
use Rattle.ji.proofs.utf8.encode.Given as goal

abbrev pub invariant-loop-c : goal.invariant-loop-c
invariant-loop-c l = (w : List ℕ) × Written l.initial.out l.out l.n w × (w ++ encode (drop l.c-index l.s) ≡ encode l.s)
