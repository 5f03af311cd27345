-- `listing::put_header` meets its contract: each number has at most 20 digits.
use Rattle.std.proofs.Common.{ℕ, ◌*◌, ◌≤◌, List, take}
use Rattle.khiin_entries.specs.Lines.{Put}
use Rattle.khiin_entries.proofs.listing.Texts.{numbered}
use Rattle.khiin_entries.proofs.listing.put_header.Given as goal

-- the numbers that are passed stand at the front of the line
abbrev pub invariant-loop-count : goal.invariant-loop-count
invariant-loop-count l = (l.count-index ≤ l.end) × (l.end ≤ 21 * l.count-index) × ((before : List ℕ) × Put before l.line 0 (numbered (take l.count-index l.count-items)) l.end)
