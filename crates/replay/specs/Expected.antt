-- What a record says that its call replies, and how the call is to leave the buffer.
use Rattle.std.specs.Prelude.{◌≡◌, Bool, ◌&&◌, ◌||◌, cond, List, ◌++◌, ℕ, ◌-◌, leb, eqb, length, replicate}
use Rattle.ji.specs.Reply.{Reply}
use Rattle.replay.specs.declared.record.Header.{Header}

-- n bytes as they are before a call
unfoldable pub untouched : ℕ → List ℕ
untouched n = replicate n 0xA5

-- the calls to which a buffer is lent: all but 1, 4 and 5
abbrev pub lends : ℕ → Bool
lends call = eqb call 0 || eqb call 2 || eqb call 3 || leb 6 call

-- how many bytes the call is to write: as many as its length says, and none where it refuses or has no buffer
abbrev pub written : Header → ℕ
written h = cond (eqb h.code 0 && lends h.call) h.length 0

-- the reply that the header says, with a buffer
abbrev pub said : Header → List ℕ → Reply
said h buffer =
    record {
      code = h.code;
      length = h.length;
      count = h.count;
      body = h.body;
      tone = h.tone;
      khin = h.khin;
      position = h.position;
      buffer = buffer;
    }

-- the numbers of two replies are the same
abbrev pub same_numbers : Reply → Reply → Bool
same_numbers a b =
    eqb a.code b.code && eqb a.length b.length && eqb a.count b.count && eqb a.body b.body && eqb a.tone b.tone
    && eqb a.khin b.khin
    && eqb a.position b.position

-- a reply is as the record says: it has the header's numbers, and its buffer begins with the bytes of the record and is untouched
-- behind them
unfoldable pub AsSaid : Header → List ℕ → Reply → Type 0
AsSaid h wanted reply =
    (length wanted ≡ written h) × (reply ≡ said h (wanted ++ untouched (length reply.buffer - length wanted)))
