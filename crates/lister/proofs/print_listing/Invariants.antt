use Rattle.std.proofs.Common.{◌-◌, ◌≡◌, ◌≤◌, length, take}
use Rattle.std.specs.Io.KnownBytes.{Appends}
use Rattle.ji.specs.Unicode.{unicode16}
use Rattle.khiin_entries.specs.Listing.{listing, together}
use Rattle.lister.proofs.print_listing.Given as goal

-- the lines up to `next` were written
abbrev pub invariant-loop-after : goal.invariant-loop-after
invariant-loop-after g l =
    record {
      size : length l.block ≡ 65536;
      inside : l.next ≤ length (listing unicode16 l.entry);
      written : Appends (g.W.Write.contents l.fn.writer) (g.W.Write.contents l.writer) (together (take l.next (listing unicode16 l.entry)));
    }

abbrev pub decreases-loop-after : goal.decreases-loop-after
decreases-loop-after g l = length (listing unicode16 l.entry) - l.next
