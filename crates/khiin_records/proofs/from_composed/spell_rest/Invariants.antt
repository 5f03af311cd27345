use Prim.Native.Nat.{◌-◌, ◌≤◌}
use lib.ListN.{length}
use Rattle.khiin_records.specs.RawBytes.{Walking}
use Rattle.khiin_records.proofs.from_composed.spell_rest.Given as goal

abbrev pub invariant-loop-i : goal.invariant-loop-i
invariant-loop-i l = (l.start ≤ l.n) × Walking l.vowel l.s l.initial.out l.out l.i l.n l.count

abbrev pub decreases-loop-i : goal.decreases-loop-i
decreases-loop-i l = length l.s - l.i
