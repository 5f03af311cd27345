-- The calls by their numbers, and what each replies.
use Rattle.std.specs.Prelude.{cond, List, [], ◌∷◌, ◌++◌, ℕ, eqb, length, get_or, take, drop, replicate}
use Rattle.ji.specs.Unicode.{unicode16}
use Rattle.ji.specs.Reply.{Reply, pick_reply, text_call}
use Rattle.ji.specs.Nfd.{nfd}
use Rattle.ji.specs.Nfc.{nfc}
use Rattle.ji.specs.Lomaji.Strip.{strip_call}
use Rattle.ji.specs.Lomaji.ToneLetter.{tone_letter_call, has_tone_letter_call}
use Rattle.khiin_records.specs.Syllable.{from_raw_call, candidate_call}
use Rattle.khiin_records.specs.Alignment.{align_call}
use Rattle.robinflint.specs.Arguments.{compose_numbered, keying_numbered, telex_numbered}
use Rattle.workbench.specs.Khin.{khin_call}
use Rattle.workbench.specs.Keys.{keys_call}
use Rattle.replay.specs.declared.record.Header.{Header}

-- a reply, with more bytes behind those of its buffer
abbrev pub beside : Reply → List ℕ → Reply
beside r rest =
    record {
      code = r.code;
      length = r.length;
      count = r.count;
      body = r.body;
      tone = r.tone;
      khin = r.khin;
      position = r.position;
      buffer = r.buffer ++ rest;
    }

-- a call to which the first n bytes of a buffer are lent
abbrev pub lend : (List ℕ → Reply) → ℕ → List ℕ → Reply
lend call n buffer = beside (call (take n buffer)) (drop n buffer)

-- the tone keys in a text of seven bytes. Any other text counts as seven zeros
abbrev pub seven_of : List ℕ → List ℕ
seven_of s =
    cond (eqb (length s) 7) (get_or s 0 0 ∷ get_or s 1 0 ∷ get_or s 2 0 ∷ get_or s 3 0 ∷ get_or s 4 0 ∷ get_or s 5 0 ∷ get_or s 6 0 ∷ [])
    (replicate 7 0)

-- what a call from 7 on replies to its texts, with the buffer that is lent to it. A call that there is not replies as the last one
unfoldable pub syllable_answer : Header → List ℕ → List ℕ → List ℕ → Reply
syllable_answer h text other buffer =
    pick_reply (eqb h.call 7) (from_raw_call text buffer)
    (pick_reply (eqb h.call 8) (compose_numbered text other h.first h.second buffer)
    (pick_reply (eqb h.call 9) (candidate_call unicode16 text h.asked buffer)
    (pick_reply (eqb h.call 10) (keying_numbered text h.first h.asked buffer)
    (pick_reply (eqb h.call 11) (telex_numbered text h.second h.first (seven_of other) buffer) (align_call unicode16 text other buffer)))))

-- of replies, one for each call up to 6 in the order of their numbers and one for the others, that of the call n
unfoldable pub choose : ℕ → Reply → Reply → Reply → Reply → Reply → Reply → Reply → Reply → Reply
choose n r0 r1 r2 r3 r4 r5 r6 r7 =
    pick_reply (eqb n 0) r0
    (pick_reply (eqb n 1) r1
    (pick_reply (eqb n 2) r2 (pick_reply (eqb n 3) r3 (pick_reply (eqb n 4) r4 (pick_reply (eqb n 5) r5 (pick_reply (eqb n 6) r6 r7))))))

-- what the call of a header replies to its texts, with the whole buffer, of which the first bytes were lent to it
unfoldable pub answer_of : Header → List ℕ → List ℕ → List ℕ → Reply
answer_of h text other buffer =
    choose h.call
    (lend (strip_call unicode16 text) h.lent buffer)
    (beside (tone_letter_call unicode16 text) buffer)
    (lend (text_call unicode16 (nfd unicode16) text) h.lent buffer)
    (lend (text_call unicode16 (nfc unicode16) text) h.lent buffer)
    (beside (khin_call text) buffer)
    (beside (has_tone_letter_call unicode16 text) buffer)
    (lend (keys_call h.first h.second text) h.lent buffer)
    (lend (syllable_answer h text other) h.lent buffer)
