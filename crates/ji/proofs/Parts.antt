-- The part of a text from a place on, as a slice from there has it.
use mathlib.Core.Path.{◌≡◌}
use mathlib.Core.List.{List}
use Prim.Native.Nat.{ℕ, ◌-◌, ◌<◌}
use lib.ListN.{length, take, drop, length-drop}
use lib.Seq.{take_all}
use native.Mathlib.Omega.{arith}

abbrev pub part : List ℕ → ℕ → List ℕ
part s i = take (length s - i) (drop i s)

pub part_is : (s : List ℕ) (i : ℕ) → part s i ≡ drop i s
part_is s i = take_all (length s - i) (drop i s) (omega (arith, length-drop i s))

pub part_some : (s : List ℕ) (i : ℕ) → i < length s → 0 < length (part s i)
part_some s i h = rw part_is (omega (arith, length-drop i s))
