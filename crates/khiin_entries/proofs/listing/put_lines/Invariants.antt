-- `listing::put_lines` meets its contract.
use Rattle.std.proofs.Common.{◌≤◌, max}
use Rattle.khiin_entries.specs.Lines.{lines_in}
use Rattle.khiin_entries.proofs.listing.Putting.{Showing}
use Rattle.khiin_entries.proofs.listing.put_lines.Given as goal

abbrev pub invariant-loop-i : goal.invariant-loop-i
invariant-loop-i l = (l.i ≤ max l.from l.count) × Showing (lines_in l.letter l.layout) l.from l.at l.initial.out l.out l.i l.end
