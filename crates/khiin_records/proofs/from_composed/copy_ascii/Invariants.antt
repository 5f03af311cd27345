use Prim.Native.Nat.{ℕ}
use Rattle.khiin_records.specs.RawBytes.{Walking}
use Rattle.khiin_records.proofs.from_composed.copy_ascii.Given as goal

abbrev pub invariant-loop-i : goal.invariant-loop-i
invariant-loop-i l = (vowel : ℕ) → Walking vowel l.s l.initial.out l.out l.i l.i 1
