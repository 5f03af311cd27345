-- The numbers of a record's header, which is the first 36 bytes of the record.
use Rattle.std.specs.Prelude.{Bool, ◌&&◌, List, ℕ, ◌+◌, ◌*◌, leb, get_or}
use Rattle.replay.specs.declared.record.Header.{Header}

-- the number in two bytes, the low one first
abbrev pub pair_at : List ℕ → ℕ → ℕ
pair_at s i = get_or s i 0 + 256 * get_or s (i + 1) 0

-- the number that eight bytes are, the lowest one first
abbrev pub eight : ℕ → ℕ → ℕ → ℕ → ℕ → ℕ → ℕ → ℕ → ℕ
eight a b c d e f g h = a + 256 * (b + 256 * (c + 256 * (d + 256 * (e + 256 * (f + 256 * (g + 256 * h))))))

-- the number in eight bytes
abbrev pub eight_at : List ℕ → ℕ → ℕ
eight_at s i =
    eight (get_or s i 0) (get_or s (i + 1) 0) (get_or s (i + 2) 0) (get_or s (i + 3) 0) (get_or s (i + 4) 0) (get_or s (i + 5) 0) (get_or s (i + 6) 0)
    (get_or s (i + 7) 0)

unfoldable pub header_of : List ℕ → Header
header_of s =
    record {
      call = get_or s 0 0;
      first = get_or s 1 0;
      second = get_or s 2 0;
      code = get_or s 3 0;
      input = pair_at s 4;
      other = pair_at s 6;
      lent = pair_at s 8;
      length = pair_at s 10;
      body = pair_at s 12;
      tone = get_or s 14 0;
      khin = get_or s 15 0;
      position = pair_at s 16;
      wanted = pair_at s 18;
      asked = eight_at s 20;
      count = eight_at s 28;
    }

-- the calls that there are
abbrev pub known : ℕ → Bool
known call = leb call 12

-- there is such a call, and no length is above 3,072
abbrev pub replayable : Header → Bool
replayable h = known h.call && leb h.input 3072 && leb h.other 3072 && leb h.lent 3072 && leb h.wanted 3072
