-- The answers of from_composed: of a text that is refused and of one that is stripped; which candidate a vowel stands for; and the record of one
-- that the quick way wrote.
use mathlib.Core.Path.{◌≡◌, refl, sym, ap, ap₂, ◌∙◌, subst}
use mathlib.Core.Bool.{Bool, true, false}
use mathlib.Core.List.{List, [], ◌∷◌, ◌++◌}
use Prim.Native.Nat.{ℕ, zero, suc, ◌+◌, ◌≤◌, ◌<◌}
use native.Mathlib.Omega.{arith}
use lib.Dec.{eqb}
use lib.ListN.{length, length-append}
use lib.Seq.{paste}
use Rattle.ji.specs.Unicode.{Table, unicode16, members, listed}
use Rattle.ji.specs.Text.{point}
use Rattle.ji.specs.Utf8.{encode}
use Rattle.ji.specs.Written.{Written}
use Rattle.ji.specs.Tone.{tone_number, is_tone, pick_tone}
use Rattle.ji.specs.Nfd.{nfd}
use Rattle.ji.specs.Reply.{refused, Checked, good, check_text}
use Rattle.ji.specs.Lomaji.Khin.{without_khin, khin_in}
use Rattle.ji.specs.Lomaji.Strip.{tone_marks, tone_in, mark_in, mark_tone, is_tone_mark, dropped_marks, last_tone, unmarked_tone, stripped, strip, ends_in_any, stop_endings}
use Rattle.ji.specs.declared.reply.Refusal.TheVariants.{Position}
use Rattle.ji.specs.declared.tone.Tone.{Tone}
use Rattle.ji.specs.declared.tone.Tone.TheVariants.{T1, T4}
use Rattle.ji.specs.declared.lomaji.khin.Khin.{Khin}
use Rattle.ji.specs.declared.lomaji.khin.Khin.TheVariants.{No, Yes}
use Rattle.ji.proofs.Bools.{either, false_true, or_no, text_yes, text_no}
use Rattle.ji.proofs.Replies.{placed_written}
use Rattle.ji.proofs.Writing.{written_run}
use Rattle.ji.proofs.unicode.Bytes.{encode_nil, encode_append}
use Rattle.ji.proofs.unicode.Checked.{check_passes}
use Rattle.khiin_records.specs.Syllable.{Syllable, raw, tone_digit, khin_key, candidate, from_composed, candidates_of, candidate_in, candidate_of, candidate_call, placed_record, record_reply}
use Rattle.khiin_records.specs.Records.{RecordOf}
use Rattle.ji.specs.Lomaji.Dot.{dot_in}
use Rattle.khiin_records.specs.RawBytes.{Body, body_of, count_of, vowel_at}
use Rattle.khiin_records.specs.declared.Record.{Record}
use Rattle.ji.proofs.lomaji.dot.Laws.{dot_listed}
use Rattle.ji.proofs.unicode.Ascii.{ascii_bytes}
use Rattle.khiin_records.proofs.Records.{digit_ascii, khin_ascii, record_done, candidates_two, candidates_one}
use Rattle.khiin_records.proofs.RawBytes.{body_is}
use Rattle.std.specs.Prelude.{Ok, Some, None}

-- ── the call, once the text is checked
pub candidate_good : (text : List ℕ) (position : ℕ) (buffer u : List ℕ) → check_text unicode16 text ≡ good u → 0 < length u
    → candidate_in (candidates_of (strip unicode16 u).tone (khin_in (strip unicode16 u).rest) (without_khin (strip unicode16 u).rest)) position buffer ≡ candidate_call unicode16 text position buffer
unfolding candidate_call from_composed
candidate_good text position buffer [] e h = absurd (omega arith)
candidate_good text position buffer (c ∷ s) e h = sym (ap (λ (k : Checked). candidate_of unicode16 k position buffer) e)

-- a text without bytes is good and empty
nothing_good : check_text unicode16 [] ≡ good []
unfolding check_text members
nothing_good = ap (check_text unicode16) (sym encode_nil) ∙ check_passes 256 [] refl (omega (arith, ap length encode_nil))

pub empty_good : (text : List ℕ) → length text ≡ 0 → check_text unicode16 text ≡ good []
empty_good [] h = nothing_good
empty_good (b ∷ text) h = absurd (omega (arith, h))

-- a text that has bytes has code points
pub some_points : (text u : List ℕ) → encode u ≡ text → 0 < length text → 0 < length u
some_points text [] e h = absurd (omega (arith, ap length (sym encode_nil ∙ e)))
some_points text (c ∷ u) e h = omega arith

-- ── the quick way
vowel_low : (dotted : Bool) (n vowel : ℕ) → vowel_at dotted n ≡ Some vowel → vowel < 0x80
vowel_low dotted zero vowel e = let f : point "u" ≡ vowel = cc in omega arith
vowel_low true (suc zero) vowel e = let f : point "o" ≡ vowel = cc in omega arith
vowel_low false (suc zero) vowel e = cc
vowel_low dotted (suc (suc n)) vowel e = cc

module _ (t : Tone) (k : Khin) (u : List ℕ) (buffer : List ℕ) where
  -- without a vowel there is no candidate at the position
  pub no_vowel : (dotted : Bool) → listed u 0x0358 ≡ dotted → (n : ℕ) → vowel_at dotted n ≡ None → refused Position buffer ≡ candidate_in (candidates_of t k u) n buffer
  no_vowel dotted e zero h = cc
  no_vowel true e (suc zero) h = cc
  no_vowel false e (suc zero) h = rw (candidates_one t k u e) refl
  no_vowel true e (suc (suc n)) h = rw (candidates_two t k u e) refl
  no_vowel false e (suc (suc n)) h = rw (candidates_one t k u e) refl

  -- with one there is
  pub by_vowel : (dotted : Bool) → listed u 0x0358 ≡ dotted → (n vowel : ℕ) → vowel_at dotted n ≡ Some vowel
      → placed_record (count_of dotted) (candidate t k u (vowel ∷ [])) buffer ≡ candidate_in (candidates_of t k u) n buffer
  by_vowel true e zero vowel h = let f : vowel ≡ point "u" = cc in rw (candidates_two t k u e, f) refl
  by_vowel false e zero vowel h = let f : vowel ≡ point "u" = cc in rw (candidates_one t k u e, f) refl
  by_vowel true e (suc zero) vowel h = let f : vowel ≡ point "o" = cc in rw (candidates_two t k u e, f) refl
  by_vowel false e (suc zero) vowel h = cc
  by_vowel dotted e (suc (suc n)) vowel h = cc

-- the bytes of a candidate's body, and of its raw input
module _ (t : Tone) (k : Khin) (u : List ℕ) (vowel : ℕ) (low : vowel < 0x80) where
  body_bytes : (body_of vowel (encode u)).text ≡ encode (candidate t k u (vowel ∷ [])).body
  body_bytes = ap (λ (b : Body). b.text) (body_is vowel low u)

  pub raw_bytes : (body_of vowel (encode u)).text ++ (tone_digit t ++ khin_key k) ≡ encode (raw (candidate t k u (vowel ∷ [])))
  raw_bytes =
      ap₂ ◌++◌ body_bytes (sym (encode_append (tone_digit t) (khin_key k) ∙ ap₂ ◌++◌ (ascii_bytes (tone_digit t) (digit_ascii t)) (ascii_bytes (khin_key k) (khin_ascii k))))
      ∙ sym (encode_append (candidate t k u (vowel ∷ [])).body (tone_digit t ++ khin_key k))

-- a body and the keys behind it were written
module _ (t : Tone) (k : Khin) (u : List ℕ) (vowel : ℕ) (low : vowel < 0x80) (buffer mid : List ℕ) (n : ℕ) (w : Written buffer mid n (body_of vowel (encode u)).text) where
  abbrev made : Syllable
  made = candidate t k u (vowel ∷ [])

  abbrev keys : List ℕ
  keys = tone_digit t ++ khin_key k

  module _ (after : List ℕ) (is : after ≡ paste mid n keys (length keys)) (room : n + length keys ≤ length buffer) where
    raw_written : Written buffer after (n + length keys) (encode (raw made))
    raw_written =
        subst (Written buffer after (n + length keys)) (raw_bytes t k u vowel low) (rw is (written_run w keys room))

    pub quick_done : (count : ℕ) (r : Record) → RecordOf count made (n + length keys) r → record_reply (Ok r) after ≡ placed_record count made buffer
    quick_done count r h =
        record_done count made (encode (raw made)) buffer refl (n + length keys) after r (placed_written 0 (encode (raw made)) buffer (n + length keys) after raw_written) h

  pub body_length : n ≡ length (encode made.body)
  body_length = sym w.size ∙ ap length (body_bytes t k u vowel low)

pub keys_few : (t : Tone) (k : Khin) → length (tone_digit t ++ khin_key k) ≤ 2
keys_few t k =
    let digit : length (tone_digit t) ≤ 1 = either (is_tone t)
    (λ e. omega (arith, ap length (text_yes (is_tone t) ((point "0" + tone_number t) ∷ []) [] e)))
    (λ e. omega (arith, ap length (text_no (is_tone t) ((point "0" + tone_number t) ∷ []) [] e))) in
    omega (arith, length-append (tone_digit t) (khin_key k), khin_one k)
  where
    khin_one : (k : Khin) → length (khin_key k) ≤ 1
    khin_one No = omega arith
    khin_one Yes = omega arith

-- the answer, once the vowel is found and the body and the keys are written
module _ (t : Tone) (k : Khin) (u s : List ℕ) (e : s ≡ encode u) (buffer mid after : List ℕ) (position vowel n count len : ℕ) where
  abbrev given : Record
  given = record { len = record { 0 = len }; count = count; body = record { 0 = n }; tone = t; khin = k }

  pub quick_answer : vowel_at (dot_in s) position ≡ Some vowel → Written buffer mid n (body_of vowel s).text → n ≤ length s → count ≡ count_of (body_of vowel s).dotted
      → len ≡ n + length (tone_digit t ++ khin_key k) → after ≡ paste mid n (tone_digit t ++ khin_key k) (length (tone_digit t ++ khin_key k)) → length s + 2 ≤ length buffer
      → record_reply (Ok given) after ≡ candidate_in (candidates_of t k u) position buffer
  quick_answer is w short counted size pasted room =
      let dotted : listed u 0x0358 ≡ dot_in s = sym (ap dot_in e ∙ dot_listed u) in
      let low : vowel < 0x80 = vowel_low (dot_in s) position vowel is in
      let w' = subst (λ (l : List ℕ). Written buffer mid n (body_of vowel l).text) e w in
      let met : count ≡ count_of (dot_in s) = counted ∙ ap (λ (l : List ℕ). count_of (body_of vowel l).dotted) e ∙ ap (λ (b : Body). count_of b.dotted) (body_is vowel low u) ∙ ap count_of dotted in
      quick_done t k u vowel low buffer mid n w' after pasted (omega (arith, keys_few t k)) count given
      (record { len = size; count_is = refl; body = body_length t k u vowel low buffer mid n w'; tone = refl; khin = refl })
      ∙ ap (λ (c : ℕ). placed_record c (candidate t k u (vowel ∷ [])) buffer) met
      ∙ by_vowel t k u buffer (dot_in s) dotted position vowel is

-- ── stripping always gives a tone
abbrev Tones : List (ℕ × Tone) → Type 0
Tones [] = Unit {0}
Tones (m ∷ ms) = (is_tone m.1 ≡ true) × Tones ms

mark_some : (ms : List (ℕ × Tone)) → Tones ms → (c : ℕ) → mark_in ms c ≡ true → is_tone (tone_in ms c) ≡ true
mark_some [] h c e = absurd (false_true e)
mark_some (m ∷ ms) h c e =
    either (eqb m.0 c)
    (λ f. ap (λ (b : Bool). is_tone (pick_tone b m.1 (tone_in ms c))) f ∙ h.0)
    (λ f. ap (λ (b : Bool). is_tone (pick_tone b m.1 (tone_in ms c))) f ∙ mark_some ms h.1 c (sym (or_no (eqb m.0 c) (mark_in ms c) f) ∙ e))

last_some : (o : Tone) → is_tone o ≡ true → (s : List ℕ) → is_tone (last_tone o (dropped_marks s)) ≡ true
unfolding last_tone dropped_marks is_tone_mark mark_tone
last_some o h [] = h
last_some o h (c ∷ s) =
    either (is_tone_mark c)
    (λ e. rw (text_yes (is_tone_mark c) (c ∷ dropped_marks s) (dropped_marks s) e) (last_some (mark_tone c) (mark_some tone_marks (refl, (refl, (refl, (refl, (refl, (refl, (refl, tt))))))) c e) s))
    (λ e. rw (text_no (is_tone_mark c) (c ∷ dropped_marks s) (dropped_marks s) e) (last_some o h s))

unmarked_some : (s : List ℕ) → is_tone (unmarked_tone s) ≡ true
unfolding unmarked_tone
unmarked_some s =
    either (ends_in_any stop_endings s) (λ e. ap (λ (b : Bool). is_tone (pick_tone b T4 T1)) e) (λ e. ap (λ (b : Bool). is_tone (pick_tone b T4 T1)) e)

pub tone_some : (t : Table) (s : List ℕ) → is_tone (strip t s).tone ≡ true
unfolding stripped
tone_some t s = last_some _ (unmarked_some _) (nfd t s)
