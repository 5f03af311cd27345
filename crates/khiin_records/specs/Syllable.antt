-- Syllable records (document 01, "khiin: Syllable", `from_raw` and `from_composed`). Texts are code points; what the calls hand over are their bytes.
use Rattle.std.specs.Prelude.{Bool, true, false, List, [], ◌∷◌, ◌++◌, ℕ, zero, suc, ◌+◌, leb, length}
use Rattle.ji.specs.Unicode.{Table, pick_text, listed}
use Rattle.ji.specs.Text.{points, marked, point, last, but_last, all_ascii}
use Rattle.ji.specs.Utf8.{encode}
use Rattle.ji.specs.Tone.{tone_number, is_tone}
use Rattle.ji.specs.Reply.{Reply, refused, over, pick_reply, Checked, good, bad, pick_checked, check_text}
use Rattle.ji.specs.Lomaji.Strip.{tone_in, strip}
use Rattle.ji.specs.Lomaji.Khin.{khin_number, without_khin, khin_in}
use Rattle.ji.specs.Lomaji.Keys.{respell}
use Rattle.ji.specs.declared.reply.Refusal.TheVariants.{TooLong, OutsideTable, Position, NoRoom}
use Rattle.ji.specs.declared.tone.Tone.{Tone}
use Rattle.ji.specs.declared.tone.Tone.TheVariants.{None, T1, T2, T3, T4, T5, T6, T7, T8, T9}
use Rattle.ji.specs.declared.lomaji.khin.Khin.{Khin}
use Rattle.ji.specs.declared.lomaji.khin.Khin.TheVariants.{No, Yes}
use Rattle.std.specs.Prelude.{Result, Ok, Err}
use Rattle.ji.specs.declared.reply.Refusal.{Refusal}
use Rattle.khiin_records.specs.declared.Record.{Record}

-- "A syllable record comes back as its raw input .., with the body's length (the body is always its beginning), tone and khin as numbers":
-- the raw input is the body and the keys behind it
pub record Syllable : Type 0 where
  pub body : List ℕ
  pub keys : List ℕ
  pub tone : Tone
  pub khin : Khin

abbrev pub raw : Syllable → List ℕ
raw s = s.body ++ s.keys

abbrev pub pick_syllable : Bool → Syllable → Syllable → Syllable
pick_syllable true a b = a
pick_syllable false a b = b

-- "the default (tone 0)"
abbrev pub default : Syllable
default = record { body = []; keys = []; tone = None; khin = No }

-- ── from_raw
-- "a last key 1–9 is the tone and leaves the body; 0 is no tone"
abbrev pub tone_digits : List (ℕ × Tone)
tone_digits =
    (point "1", T1) ∷ (point "2", T2) ∷ (point "3", T3) ∷ (point "4", T4) ∷ (point "5", T5) ∷ (point "6", T6) ∷ (point "7", T7) ∷ (point "8", T8) ∷ (point "9", T9) ∷ []

unfoldable pub key_tone : ℕ → Tone
key_tone key = tone_in tone_digits key

-- "`from_raw`: empty gives the default (tone 0); a last key 1–9 is the tone and leaves the body .. Khin, the neutral-tone flag, is false."
unfoldable pub from_raw : List ℕ → Syllable
from_raw s =
    let tone : Tone = key_tone (last s) in
    let toned : Syllable = record { body = but_last 1 s; keys = last s ∷ []; tone = tone; khin = No } in
    pick_syllable (is_tone tone) toned (record { body = s; keys = []; tone = None; khin = No })

-- ── from_composed
-- "u, U, o, O with 0324 become eu, Eu, eo, Eo"
abbrev pub below_rules : List (List ℕ × List ℕ)
below_rules =
    (marked "u" 0x0324, points "eu") ∷ (marked "U" 0x0324, points "Eu") ∷ (marked "o" 0x0324, points "eo") ∷ (marked "O" 0x0324, points "Eo") ∷ []

-- "207F nn; 0358 u", and of the second candidate o
abbrev pub sign_rules : List ℕ → List (List ℕ × List ℕ)
sign_rules vowel = (0x0358 ∷ [], vowel) ∷ (points "ⁿ", points "nn") ∷ []

-- "The raw input adds the tone digit, then 0 for khin"
abbrev pub khin_key : Khin → List ℕ
khin_key No = []
khin_key Yes = points "0"

abbrev pub tone_digit : Tone → List ℕ
tone_digit tone = pick_text (is_tone tone) ((point "0" + tone_number tone) ∷ []) []

-- the candidate that writes 0358 as `vowel`; s is the stripped text behind khin
abbrev pub candidate : Tone → Khin → List ℕ → List ℕ → Syllable
candidate tone khin s vowel =
    record { body = respell (sign_rules vowel) (respell below_rules s); keys = tone_digit tone ++ khin_key khin; tone = tone; khin = khin }

abbrev pub pick_syllables : Bool → List Syllable → List Syllable → List Syllable
pick_syllables true a b = a
pick_syllables false a b = b

-- "and if 0358 occurs a second candidate with o"
abbrev pub candidates_of : Tone → Khin → List ℕ → List Syllable
candidates_of tone khin s =
    let u : Syllable = candidate tone khin s (points "u") in
    let o : Syllable = candidate tone khin s (points "o") in
    pick_syllables (listed s 0x0358) (u ∷ o ∷ []) (u ∷ [])

-- `from_composed`: "empty gives one default. Otherwise strip; `strip_khin`; .."
unfoldable pub from_composed : Table → List ℕ → List Syllable
from_composed t [] = default ∷ []
from_composed t (c ∷ s) =
    candidates_of (strip t (c ∷ s)).tone (khin_in (strip t (c ∷ s)).rest) (without_khin (strip t (c ∷ s)).rest)

-- ── the calls
-- the reply that gives a record, one of `count`; "7: the whole output is longer than the lent buffer"
abbrev pub recorded : ℕ → Syllable → List ℕ → Reply
recorded count s buffer =
    record {
      code = 0;
      length = length (encode (raw s));
      count = count;
      body = length (encode s.body);
      tone = tone_number s.tone;
      khin = khin_number s.khin;
      position = 0;
      buffer = over (encode (raw s)) buffer;
    }

abbrev pub placed_record : ℕ → Syllable → List ℕ → Reply
placed_record count s buffer = pick_reply (leb (length (encode (raw s))) (length buffer)) (recorded count s buffer) (refused NoRoom buffer)

-- the code's answer, and what it leaves in the buffer, as a reply
abbrev pub record_reply : Result Record Refusal → List ℕ → Reply
record_reply (Ok r) buffer =
    record {
      code = 0;
      length = r.len.0;
      count = r.count;
      body = r.body.0;
      tone = tone_number r.tone;
      khin = khin_number r.khin;
      position = 0;
      buffer = buffer;
    }
record_reply (Err why) buffer = refused why buffer

-- "A raw-key text .. is checked for bytes above 7F instead; that is 4, and 3 is never given for it"
unfoldable pub check_keys : List ℕ → Checked
check_keys s = pick_checked (leb (length s) 256) (pick_checked (all_ascii s) (good s) (bad OutsideTable)) (bad TooLong)

abbrev pub from_raw_of : Checked → List ℕ → Reply
from_raw_of (good s) buffer = placed_record 0 (from_raw s) buffer
from_raw_of (bad why) buffer = refused why buffer

unfoldable pub from_raw_call : List ℕ → List ℕ → Reply
from_raw_call keys buffer = from_raw_of (check_keys keys) buffer

-- "6: candidate .. position not below the count"
abbrev pub candidate_at : ℕ → List Syllable → ℕ → List ℕ → Reply
candidate_at count [] position buffer = refused Position buffer
candidate_at count (s ∷ ss) zero buffer = placed_record count s buffer
candidate_at count (s ∷ ss) (suc position) buffer = candidate_at count ss position buffer

abbrev pub candidate_in : List Syllable → ℕ → List ℕ → Reply
candidate_in ss position buffer = candidate_at (length ss) ss position buffer

abbrev pub candidate_of : Table → Checked → ℕ → List ℕ → Reply
candidate_of t (good s) position buffer = candidate_in (from_composed t s) position buffer
candidate_of t (bad why) position buffer = refused why buffer

unfoldable pub candidate_call : Table → List ℕ → ℕ → List ℕ → Reply
candidate_call t text position buffer = candidate_of t (check_text t text) position buffer
