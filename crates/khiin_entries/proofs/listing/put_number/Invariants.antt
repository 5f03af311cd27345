-- `listing::put_number` meets its contract: the digits go in front of each other, from the last to the first.
use Rattle.std.proofs.Common.{◌-◌}
use Rattle.khiin_entries.specs.Listing.{last_digits}
use Rattle.khiin_entries.proofs.key_sequence.Backward.{Backward}
use Rattle.khiin_entries.proofs.listing.put_number.Given as goal

abbrev pub invariant-loop-i : goal.invariant-loop-i
invariant-loop-i l = Backward l.initial.out l.out (last_digits (l.end - l.at) l.n) (last_digits (l.i - l.at) l.left) l.i l.end
