-- Records: what the code has of one is the reply that gives it, and from_raw's record of keys.
use mathlib.Core.Path.{◌≡◌, refl, sym, ap, ◌∙◌}
use mathlib.Core.Bool.{Bool, true, false}
use mathlib.Core.List.{List, [], ◌∷◌, append-nil}
use Prim.Native.Nat.{ℕ, zero, suc, ◌-◌, ◌<◌}
use native.Mathlib.Omega.{arith}
use lib.Dec.{leb}
use lib.ListN.{length, take, drop}
use lib.Seq.{length-take-le}
use Rattle.ji.specs.Unicode.{unicode16, member, members, listed, pick_text}
use Rattle.ji.specs.Text.{points, begins, all_ascii, but_last, last}
use Rattle.ji.specs.Utf8.{encode}
use Rattle.ji.specs.Tone.{is_tone}
use Rattle.ji.specs.Reply.{Reply, refused, over, pick_reply, answered, placed}
use Rattle.ji.specs.Lomaji.Khin.{without_khin}
use Rattle.ji.specs.declared.reply.Refusal.{Refusal}
use Rattle.ji.specs.declared.reply.Refusal.TheVariants.{NoRoom}
use Rattle.ji.specs.declared.tone.Tone.{Tone}
use Rattle.ji.specs.declared.tone.Tone.TheVariants.{None, T1, T2, T3, T4, T5, T6, T7, T8, T9}
use Rattle.ji.specs.declared.lomaji.khin.Khin.{Khin}
use Rattle.ji.specs.declared.lomaji.khin.Khin.TheVariants.{No, Yes}
use Rattle.ji.proofs.Bools.{either, false_true, and_right, text_yes, text_no}
use Rattle.ji.proofs.Replies.{refusal_some}
use Rattle.ji.proofs.unicode.Ascii.{ascii_bytes, ascii_take}
use Rattle.ji.proofs.unicode.Bytes.{but_last_law}
use Rattle.khiin_records.specs.Syllable.{Syllable, raw, pick_syllable, key_tone, from_raw, recorded, placed_record, record_reply, tone_digit, khin_key, candidate, pick_syllables, candidates_of}
use Rattle.khiin_records.specs.Records.{RecordOf}
use Rattle.khiin_records.specs.declared.Record.{Record}
use Rattle.std.specs.Prelude.{Ok}

-- ── what a writer of the raw input left is the record's reply
-- the reply that a text in the buffer makes
abbrev pub text_in : ℕ → List ℕ → Reply
text_in n buffer = record { code = 0; length = n; count = 0; body = 0; tone = 0; khin = 0; position = 0; buffer = buffer }

module _ (count : ℕ) (s : Syllable) (text buffer : List ℕ) (is_raw : encode (raw s) ≡ text) where
  abbrev fits : Bool
  fits = leb (length text) (length buffer)

  abbrev out_of : Bool → Reply
  out_of b = pick_reply b (answered 0 text buffer) (refused NoRoom buffer)

  is_placed : pick_reply fits (recorded count s buffer) (refused NoRoom buffer) ≡ placed_record count s buffer
  is_placed = ap (λ (l : List ℕ). pick_reply (leb (length l) (length buffer)) (recorded count s buffer) (refused NoRoom buffer)) (sym is_raw)

  pub record_refused : (why : Refusal) (after : List ℕ) → refused why after ≡ placed 0 text buffer → refused why after ≡ placed_record count s buffer
  record_refused why after e = by_room fits refl
    where
      by_room : (b : Bool) → fits ≡ b → refused why after ≡ placed_record count s buffer
      by_room true f = absurd (omega (arith, refusal_some why, ap (λ (r : Reply). r.code) (e ∙ ap out_of f)))
      by_room false f = e ∙ ap out_of f ∙ ap (λ (b : Bool). pick_reply b (recorded count s buffer) (refused NoRoom buffer)) (sym f) ∙ is_placed

  pub record_done : (n : ℕ) (after : List ℕ) (r : Record) → text_in n after ≡ placed 0 text buffer → RecordOf count s n r → record_reply (Ok r) after ≡ placed_record count s buffer
  record_done n after r e h = by_room fits refl
    where
      by_room : (b : Bool) → fits ≡ b → record_reply (Ok r) after ≡ placed_record count s buffer
      by_room true f =
          let k = e ∙ ap out_of f in
          let size : n ≡ length (encode (raw s)) = ap (λ (q : Reply). q.length) k ∙ ap length (sym is_raw) in
          let left : after ≡ over (encode (raw s)) buffer = ap (λ (q : Reply). q.buffer) k ∙ ap (λ (l : List ℕ). over l buffer) (sym is_raw) in
          (rw (h.len, h.count_is, h.body, h.tone, h.khin, size, left) refl)
          ∙ ap (λ (b : Bool). pick_reply b (recorded count s buffer) (refused NoRoom buffer)) (sym f)
          ∙ is_placed
      by_room false f = absurd (let z : ◌≡◌ {A = ℕ} 0 7 = ap (λ (q : Reply). q.code) (e ∙ ap out_of f) in omega arith)

-- a text that was written has the length that was told
pub written_size : (n : ℕ) (text after buffer : List ℕ) → text_in n after ≡ placed 0 text buffer → n ≡ length text
written_size n text after buffer e = by_room (leb (length text) (length buffer)) e
  where
    by_room : (b : Bool) → text_in n after ≡ pick_reply b (answered 0 text buffer) (refused NoRoom buffer) → n ≡ length text
    by_room true f = ap (λ (q : Reply). q.length) f
    by_room false f = absurd (let z : ◌≡◌ {A = ℕ} 0 7 = ap (λ (q : Reply). q.code) f in omega arith)

-- ── from_raw
-- where the last key is a tone there is one
pub toned_some : (s : List ℕ) → is_tone (key_tone (last s)) ≡ true → 0 < length s
unfolding key_tone last
toned_some [] h = absurd (false_true h)
toned_some (x ∷ s) h = omega arith

-- what is no tone is None
none_is : (t : Tone) → is_tone t ≡ false → t ≡ None
none_is None h = refl
none_is T1 h = absurd (false_true (sym h))
none_is T2 h = absurd (false_true (sym h))
none_is T3 h = absurd (false_true (sym h))
none_is T4 h = absurd (false_true (sym h))
none_is T5 h = absurd (false_true (sym h))
none_is T6 h = absurd (false_true (sym h))
none_is T7 h = absurd (false_true (sym h))
none_is T8 h = absurd (false_true (sym h))
none_is T9 h = absurd (false_true (sym h))

module _ (s : List ℕ) where
  -- the two cases of from_raw
  raw_toned : is_tone (key_tone (last s)) ≡ true → from_raw s ≡ record { body = but_last 1 s; keys = last s ∷ []; tone = key_tone (last s); khin = No }
  unfolding from_raw
  raw_toned h = ap (λ (b : Bool). pick_syllable b (record { body = but_last 1 s; keys = last s ∷ []; tone = key_tone (last s); khin = No }) (record { body = s; keys = []; tone = None; khin = No })) h

  raw_bare : is_tone (key_tone (last s)) ≡ false → from_raw s ≡ record { body = s; keys = []; tone = None; khin = No }
  unfolding from_raw
  raw_bare h = ap (λ (b : Bool). pick_syllable b (record { body = but_last 1 s; keys = last s ∷ []; tone = key_tone (last s); khin = No }) (record { body = s; keys = []; tone = None; khin = No })) h

  pub raw_is : raw (from_raw s) ≡ s
  raw_is =
      either (is_tone (key_tone (last s)))
      (λ h. ap raw (raw_toned h) ∙ but_last_law s (toned_some s h))
      (λ h. ap raw (raw_bare h) ∙ append-nil s)

  module _ (h : all_ascii s ≡ true) where
    pub toned_record : (t : Tone) → t ≡ key_tone (last s) → is_tone t ≡ true
        → RecordOf 0 (from_raw s) (length s) (record { len = record { 0 = length s }; count = 0; body = record { 0 = length s - 1 }; tone = t; khin = No })
    unfolding but_last
    toned_record t e k =
        let f = raw_toned (ap is_tone (sym e) ∙ k) in
        let n : length (take (length s - 1) s) ≡ length s - 1 = length-take-le (length s - 1) s (omega arith) in
        record {
          len = refl;
          count_is = refl;
          body = sym (ap (λ (r : Syllable). length (encode r.body)) f ∙ ap length (ascii_bytes (take (length s - 1) s) (ascii_take (length s - 1) s h)) ∙ n);
          tone = e ∙ sym (ap (λ (r : Syllable). r.tone) f);
          khin = sym (ap (λ (r : Syllable). r.khin) f);
        }

    pub bare_record : (t : Tone) → t ≡ key_tone (last s) → is_tone t ≡ false
        → RecordOf 0 (from_raw s) (length s) (record { len = record { 0 = length s }; count = 0; body = record { 0 = length s }; tone = t; khin = No })
    bare_record t e k =
        let f = raw_bare (ap is_tone (sym e) ∙ k) in
        record {
          len = refl;
          count_is = refl;
          body = sym (ap (λ (r : Syllable). length (encode r.body)) f ∙ ap length (ascii_bytes s h));
          tone = none_is t k ∙ sym (ap (λ (r : Syllable). r.tone) f);
          khin = sym (ap (λ (r : Syllable). r.khin) f);
        }

-- ── from_composed
pub digit_ascii : (t : Tone) → all_ascii (tone_digit t) ≡ true
unfolding all_ascii
digit_ascii None = refl
digit_ascii T1 = refl
digit_ascii T2 = refl
digit_ascii T3 = refl
digit_ascii T4 = refl
digit_ascii T5 = refl
digit_ascii T6 = refl
digit_ascii T7 = refl
digit_ascii T8 = refl
digit_ascii T9 = refl

pub khin_ascii : (k : Khin) → all_ascii (khin_key k) ≡ true
unfolding all_ascii
khin_ascii No = refl
khin_ascii Yes = refl

-- the candidates, with U+0358 and without
module _ (t : Tone) (k : Khin) (s : List ℕ) where
  pub candidates_two : listed s 0x0358 ≡ true → candidates_of t k s ≡ candidate t k s (points "u") ∷ candidate t k s (points "o") ∷ []
  candidates_two e = ap (λ (b : Bool). pick_syllables b (candidate t k s (points "u") ∷ candidate t k s (points "o") ∷ []) (candidate t k s (points "u") ∷ [])) e

  pub candidates_one : listed s 0x0358 ≡ false → candidates_of t k s ≡ candidate t k s (points "u") ∷ []
  candidates_one e = ap (λ (b : Bool). pick_syllables b (candidate t k s (points "u") ∷ candidate t k s (points "o") ∷ []) (candidate t k s (points "u") ∷ [])) e

-- ── the text behind khin
members_drop : (n : ℕ) (s : List ℕ) → members unicode16 s ≡ true → members unicode16 (drop n s) ≡ true
unfolding members
members_drop zero s h = h
members_drop (suc n) [] h = h
members_drop (suc n) (c ∷ s) h = members_drop n s (and_right (member unicode16 c) (members unicode16 s) h)

pub members_behind : (s : List ℕ) → members unicode16 s ≡ true → members unicode16 (without_khin s) ≡ true
unfolding without_khin
members_behind s h =
    either (begins (points "--") s)
    (λ e. rw (text_yes (begins (points "--") s) (drop 2 s) (pick_text (begins (points "·") s) (drop 1 s) s) e) (members_drop 2 s h))
    (λ e. rw (text_no (begins (points "--") s) (drop 2 s) (pick_text (begins (points "·") s) (drop 1 s) s) e)
    (either (begins (points "·") s)
    (λ f. rw (text_yes (begins (points "·") s) (drop 1 s) s f) (members_drop 1 s h))
    (λ f. rw (text_no (begins (points "·") s) (drop 1 s) s f) h)))
