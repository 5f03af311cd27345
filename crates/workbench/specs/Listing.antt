-- The lines of a listing from number `from` on, laid out in numbers: how many bytes and how many lines they are, and the number of the next line.
use Rattle.std.specs.Prelude.{List, ℕ, ◌+◌, length}
use Rattle.ji.specs.Unicode.{unicode16}
use Rattle.ji.specs.Reply.{Reply, over}
use Rattle.khiin_entries.specs.Listing.{together, shown}

abbrev pub lines_call : List (List ℕ) → ℕ → List ℕ → Reply
lines_call lines from buffer =
    record {
      code = 0;
      length = length (together lines);
      count = length lines;
      body = 0;
      tone = 0;
      khin = 0;
      position = from + length lines;
      buffer = over (together lines) buffer;
    }

abbrev pub listing_call : List ℕ → ℕ → List ℕ → Reply
listing_call entry from buffer = lines_call (shown unicode16 entry from (length buffer)) from buffer
