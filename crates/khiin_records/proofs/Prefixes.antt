-- Alignment: the prefix that keys share with a raw input, turn by turn, and over the bytes as over the code points; which candidate is nearest; how many
-- keys are aligned; and the call, once the texts are checked.
use mathlib.Core.Path.{◌≡◌, refl, sym, ap, ap₂, ◌∙◌}
use mathlib.Core.Bool.{Bool, true, false, ◌&&◌}
use mathlib.Core.List.{List, [], ◌∷◌, ◌++◌, append_assoc, append-nil}
use Prim.Native.Nat.{ℕ, suc, ◌+◌, ◌≤◌, ◌<◌}
use native.Mathlib.Decide.{dec_le}
use native.Mathlib.Omega.{arith}
use borrow.Author.Tests.{eq-eqb, ne_eqb, eqb-true, eqb-false}
use lib.Dec.{leb, eqb}
use lib.ListN.{length, take, drop, get_or, drop_of_length-le}
use Rattle.ji.specs.Unicode.{Table, pick_number, same, listed}
use Rattle.ji.specs.Text.{point, begins, within, lower, all_ascii}
use Rattle.ji.specs.Utf8.{encode}
use Rattle.ji.specs.Tone.{tone_number, is_tone}
use Rattle.ji.specs.Reply.{refused, Checked, good, bad, check_text}
use Rattle.ji.specs.Lomaji.Dot.{dot_in}
use Rattle.ji.specs.Lomaji.Strip.{strip}
use Rattle.ji.specs.Lomaji.Khin.{without_khin, khin_in}
use Rattle.ji.specs.declared.reply.Refusal.{Refusal}
use Rattle.ji.specs.declared.tone.Tone.{Tone}
use Rattle.ji.specs.declared.lomaji.khin.Khin.{Khin}
use Rattle.ji.proofs.Bools.{either, false_true, and_no, and_yes, and_true, number_yes, number_no, text_yes, within_is}
use Rattle.ji.proofs.text.Laws.{drop_next}
use Rattle.ji.proofs.lomaji.dot.Laws.{dot_listed}
use Rattle.ji.proofs.unicode.Ascii.{ascii_low, ascii_rest}
use Rattle.ji.proofs.unicode.Bytes.{bytes_one, bytes_two, bytes_three, bytes_four, encode_nil, encode_cons}
use Rattle.khiin_records.specs.Syllable.{Syllable, raw, pick_syllable, default, tone_digit, khin_key, candidate, candidates_of, from_composed, from_raw, placed_record}
use Rattle.khiin_records.specs.RawBytes.{Body, body_from, body_of}
use Rattle.khiin_records.specs.Alignment.{shared_prefix, longer, nearest, nearest_of, grows, aligned_with, aligned, align_of}
use Rattle.khiin_records.specs.Endings.{keys_of}
use Rattle.khiin_records.specs.Prefixes.{NearestPrefix}
use Rattle.khiin_records.specs.declared.ending.Ending.{Ending}
use Rattle.khiin_records.proofs.RawBytes.{from_copy, body_is}
use Rattle.khiin_records.proofs.Records.{candidates_two, candidates_one}
use Rattle.khiin_records.proofs.Candidates.{raw_bytes}
use Rattle.std.specs.List.{prefix_len, zip}

-- ── the library's change of case
pub shared_zip : (keys s : List ℕ) → shared_prefix keys s ≡ prefix_len (λ (p : ℕ × ℕ). eqb (lower p.0) (lower p.1)) (zip keys s)
unfolding shared_prefix
shared_zip [] s = refl
shared_zip (k ∷ keys) [] = refl
shared_zip (k ∷ keys) (c ∷ s) =
    either (eqb (lower k) (lower c))
    (λ e. rw e (omega (arith, shared_zip keys s)))
    (λ e. rw e refl)

-- ── turn by turn
without_keys : (s : List ℕ) → shared_prefix [] s ≡ 0
unfolding shared_prefix
without_keys s = refl

pub with_nothing : (keys : List ℕ) → shared_prefix keys [] ≡ 0
unfolding shared_prefix
with_nothing [] = refl
with_nothing (k ∷ keys) = refl

pub prefix_fits : (keys s : List ℕ) → shared_prefix keys s ≤ length keys
unfolding shared_prefix
prefix_fits [] s = omega arith
prefix_fits (k ∷ keys) [] = omega arith
prefix_fits (k ∷ keys) (c ∷ s) =
    either (eqb (lower k) (lower c))
    (λ e. omega (arith, number_yes (eqb (lower k) (lower c)) (suc (shared_prefix keys s)) 0 e, prefix_fits keys s))
    (λ e. omega (arith, number_no (eqb (lower k) (lower c)) (suc (shared_prefix keys s)) 0 e))

-- a raw input in two parts: the prefix ends in the first part, or goes through it
prefix_within : (keys a b : List ℕ) → shared_prefix keys a < length a → shared_prefix keys (a ++ b) ≡ shared_prefix keys a
unfolding shared_prefix
prefix_within [] a b h = refl
prefix_within (k ∷ keys) [] b h = absurd (omega arith)
prefix_within (k ∷ keys) (c ∷ a) b h =
    either (eqb (lower k) (lower c))
    (λ e. ap (λ (n : ℕ). pick_number (eqb (lower k) (lower c)) (suc n) 0) (prefix_within keys a b (omega (arith, number_yes (eqb (lower k) (lower c)) (suc (shared_prefix keys a)) 0 e))))
    (λ e. number_no _ _ _ e ∙ sym (number_no _ _ _ e))

prefix_through : (keys a b : List ℕ) → length a ≤ shared_prefix keys a → shared_prefix keys (a ++ b) ≡ shared_prefix keys a + shared_prefix (drop (shared_prefix keys a) keys) b
unfolding shared_prefix
prefix_through [] [] b h = refl
prefix_through [] (c ∷ a) b h = absurd (omega arith)
prefix_through (k ∷ keys) [] b h = omega arith
prefix_through (k ∷ keys) (c ∷ a) b h =
    either (eqb (lower k) (lower c))
    (λ e. let f = prefix_through keys a b (omega (arith, number_yes (eqb (lower k) (lower c)) (suc (shared_prefix keys a)) 0 e)) in
    rw e (omega (arith, f)))
    (λ e. absurd (omega (arith, number_no (eqb (lower k) (lower c)) (suc (shared_prefix keys a)) 0 e)))

-- ── over the bytes as over the code points: a byte above 7F, like a code point above it, is no key
lower_low : (x : ℕ) → x ≤ 0x7F → lower x ≤ 0x7F
unfolding lower
lower_low x h =
    either (within (point "A") (point "Z") x)
    (λ e. omega (arith, number_yes (within (point "A") (point "Z") x) (x + 32) x e, (within_is (point "A") (point "Z") x e).1))
    (λ e. omega (arith, number_no (within (point "A") (point "Z") x) (x + 32) x e))

lower_high : (x : ℕ) → 0x7F < x → 0x7F < lower x
unfolding lower
lower_high x h =
    either (within (point "A") (point "Z") x)
    (λ e. omega (arith, number_yes (within (point "A") (point "Z") x) (x + 32) x e))
    (λ e. omega (arith, number_no (within (point "A") (point "Z") x) (x + 32) x e))

module _ (k : ℕ) (keys : List ℕ) (low : k ≤ 0x7F) where
  apart : (c : ℕ) (s : List ℕ) → 0x7F < c → shared_prefix (k ∷ keys) (c ∷ s) ≡ 0
  unfolding shared_prefix
  apart c s high = number_no _ _ _ (ne_eqb (lower k) (lower c) (λ e. omega (arith, e, lower_low k low, lower_high c high)))

  -- the first byte of a code point above 7F
  bytes_apart : (c : ℕ) (s : List ℕ) → 0x7F < c → shared_prefix (k ∷ keys) (encode (c ∷ s)) ≡ 0
  bytes_apart c s high = by_size (dec_le c 0x7FF) (dec_le c 0xFFFF)
    where
      first : (b : ℕ) (r : List ℕ) → encode (c ∷ s) ≡ b ∷ r → 0x7F < b → shared_prefix (k ∷ keys) (encode (c ∷ s)) ≡ 0
      first b r e h = ap (shared_prefix (k ∷ keys)) e ∙ apart b r h

      by_size : Dec (c ≤ 0x7FF) → Dec (c ≤ 0xFFFF) → shared_prefix (k ∷ keys) (encode (c ∷ s)) ≡ 0
      by_size (yes p) q = first _ _ (encode_cons c s ∙ ap (λ (l : List ℕ). l ++ encode s) (bytes_two c high p)) (omega arith)
      by_size (no p) (yes q) = first _ _ (encode_cons c s ∙ ap (λ (l : List ℕ). l ++ encode s) (bytes_three c (omega arith) q)) (omega arith)
      by_size (no p) (no q) = first _ _ (encode_cons c s ∙ ap (λ (l : List ℕ). l ++ encode s) (bytes_four c (omega arith))) (omega arith)

  bytes_turn : (c : ℕ) (s : List ℕ) → shared_prefix keys (encode s) ≡ shared_prefix keys s → shared_prefix (k ∷ keys) (encode (c ∷ s)) ≡ shared_prefix (k ∷ keys) (c ∷ s)
  unfolding shared_prefix
  bytes_turn c s e = by_size (dec_le c 0x7F)
    where
      by_size : Dec (c ≤ 0x7F) → shared_prefix (k ∷ keys) (encode (c ∷ s)) ≡ shared_prefix (k ∷ keys) (c ∷ s)
      by_size (yes p) =
          ap (shared_prefix (k ∷ keys)) (encode_cons c s ∙ ap (λ (l : List ℕ). l ++ encode s) (bytes_one c p))
          ∙ ap (λ (n : ℕ). pick_number (eqb (lower k) (lower c)) (suc n) 0) e
      by_size (no p) = bytes_apart c s (omega arith) ∙ sym (apart c s (omega arith))

pub prefix_bytes : (keys s : List ℕ) → all_ascii keys ≡ true → shared_prefix keys (encode s) ≡ shared_prefix keys s
prefix_bytes [] s h = without_keys (encode s) ∙ sym (without_keys s)
prefix_bytes (k ∷ keys) [] h = ap (shared_prefix (k ∷ keys)) encode_nil
prefix_bytes (k ∷ keys) (c ∷ s) h = bytes_turn k keys (ascii_low k keys h) c s (prefix_bytes keys s (ascii_rest k keys h))

-- ── the nearest candidate
module _ (keys : List ℕ) (t : Tone) (k : Khin) (u : List ℕ) where
  abbrev spelt : ℕ → Syllable
  spelt vowel = candidate t k u (vowel ∷ [])

  nearest_one : listed u 0x0358 ≡ false → nearest_of keys (candidates_of t k u) ≡ spelt (point "u")
  unfolding nearest
  nearest_one e = ap (nearest_of keys) (candidates_one t k u e)

  module _ (e : listed u 0x0358 ≡ true) where
    nearest_two : nearest_of keys (candidates_of t k u)
        ≡ pick_syllable (leb (shared_prefix keys (raw (spelt (point "u")))) (shared_prefix keys (raw (spelt (point "o"))))) (spelt (point "o")) (spelt (point "u"))
    unfolding nearest longer
    nearest_two = ap (nearest_of keys) (candidates_two t k u e)

  tones : (b : Bool) → (pick_syllable b (spelt (point "o")) (spelt (point "u"))).tone ≡ t
  tones true = refl
  tones false = refl

  -- all candidates have the tone
  pub nearest_tone : (nearest_of keys (candidates_of t k u)).tone ≡ t
  nearest_tone =
      either (listed u 0x0358)
      (λ e. ap (λ (s : Syllable). s.tone) (nearest_two e) ∙ tones (leb (shared_prefix keys (raw (spelt (point "u")))) (shared_prefix keys (raw (spelt (point "o"))))))
      (λ e. ap (λ (s : Syllable). s.tone) (nearest_one e))

-- the prefix that is shared with the nearest candidate, where those shared with the candidates' bytes are known
module _ (keys : List ℕ) (t : Tone) (k : Khin) (u s : List ℕ) (e : s ≡ encode u) (h : all_ascii keys ≡ true) where
  abbrev shared_with : ℕ → ℕ
  shared_with vowel = shared_prefix keys ((body_of vowel s).text ++ (tone_digit t ++ khin_key k))

  shares : (vowel : ℕ) → vowel < 0x80 → shared_with vowel ≡ shared_prefix keys (raw (spelt keys t k u vowel))
  shares vowel low =
      ap (λ (l : List ℕ). shared_prefix keys ((body_of vowel l).text ++ (tone_digit t ++ khin_key k))) e
      ∙ ap (shared_prefix keys) (raw_bytes t k u vowel low)
      ∙ prefix_bytes keys (raw (spelt keys t k u vowel)) h

  pub nearest_alone : (earlier : ℕ) → earlier ≡ shared_with (point "u") → dot_in s ≡ false → earlier ≡ shared_prefix keys (raw (nearest_of keys (candidates_of t k u)))
  nearest_alone earlier first d =
      first
      ∙ shares (point "u") (omega arith)
      ∙ ap (λ (x : Syllable). shared_prefix keys (raw x)) (sym (nearest_one keys t k u (sym (ap dot_in e ∙ dot_listed u) ∙ d)))

  pub nearest_of_two : (earlier later : ℕ) → earlier ≡ shared_with (point "u") → later ≡ shared_with (point "o") → dot_in s ≡ true → (b : Bool) → leb earlier later ≡ b
      → pick_number b later earlier ≡ shared_prefix keys (raw (nearest_of keys (candidates_of t k u)))
  nearest_of_two earlier later first second d b is =
      let f = first ∙ shares (point "u") (omega arith) in
      let g = second ∙ shares (point "o") (omega arith) in
      picked b f g
      ∙ ap (λ (x : Bool). shared_prefix keys (raw (pick_syllable x (spelt keys t k u (point "o")) (spelt keys t k u (point "u"))))) (sym is ∙ ap₂ leb f g)
      ∙ ap (λ (x : Syllable). shared_prefix keys (raw x)) (sym (nearest_two keys t k u (sym (ap dot_in e ∙ dot_listed u) ∙ d)))
    where
      picked : (b : Bool) → earlier ≡ shared_prefix keys (raw (spelt keys t k u (point "u"))) → later ≡ shared_prefix keys (raw (spelt keys t k u (point "o")))
          → pick_number b later earlier ≡ shared_prefix keys (raw (pick_syllable b (spelt keys t k u (point "o")) (spelt keys t k u (point "u"))))
      picked true f g = g
      picked false f g = f

-- ── an ASCII text is the body of its one candidate
body_from_law : (vowel : ℕ) (d : List ℕ) (t : Bool) (l : ℕ) (s : List ℕ) → all_ascii s ≡ true → body_from vowel 0 d t l s ≡ record { text = d ++ s; dotted = t }
unfolding body_from begins
body_from_law vowel d t l [] h = ap (λ (x : List ℕ). record { text = x; dotted = t }) (sym (append-nil d))
body_from_law vowel d t l (b ∷ s) h =
    let low : b ≤ 0x7F = ascii_low b s h in
    from_copy vowel d t l b s (and_no _ _ (ne_eqb b 0xCD (λ e. omega (arith, e)))) (and_no _ _ (ne_eqb b 0xE2 (λ e. omega (arith, e))))
    (and_no _ _ (and_no _ _ (ne_eqb b 0xCC (λ e. omega (arith, e)))))
    ∙ body_from_law vowel (d ++ (b ∷ [])) t b s (ascii_rest b s h)
    ∙ ap (λ (x : List ℕ). record { text = x; dotted = t }) (append_assoc d (b ∷ []) s)

module _ (s : List ℕ) (plain : all_ascii s ≡ true) where
  body_itself : (vowel : ℕ) → body_of vowel s ≡ record { text = s; dotted = false }
  unfolding body_of
  body_itself vowel = body_from_law vowel [] false 0 s plain

  no_dot : (u : List ℕ) → s ≡ encode u → dot_in s ≡ false
  no_dot u e =
      ap dot_in e
      ∙ dot_listed u
      ∙ ap (λ (b : Body). b.dotted) (sym (body_is (point "u") (omega arith) u))
      ∙ ap (λ (l : List ℕ). (body_of (point "u") l).dotted) (sym e)
      ∙ ap (λ (b : Body). b.dotted) (body_itself (point "u"))

  module _ (keys : List ℕ) (ending : Ending) (h : all_ascii keys ≡ true) where
    near : (n : ℕ) → n ≡ shared_prefix keys (s ++ (keys_of ending)) → NearestPrefix keys s ending n
    near n is =
        record {
          inside = rw is (prefix_fits _ _);
          shared = λ u e.
              nearest_alone keys ending.tone ending.khin u s e h n
              (is ∙ ap (λ (b : Body). shared_prefix keys (b.text ++ (keys_of ending))) (sym (body_itself (point "u")))) (no_dot u e);
        }

    pub near_within : (n : ℕ) → n ≡ shared_prefix keys s → n < length s → NearestPrefix keys s ending n
    near_within n is less = near n (is ∙ sym (prefix_within keys s (keys_of ending) (omega (arith, is))))

    pub near_through : (n m : ℕ) → n ≡ shared_prefix keys s → length s ≤ n → m ≡ shared_prefix (drop n keys) (keys_of ending) → NearestPrefix keys s ending (n + m)
    near_through n m is more rest =
        near (n + m) (ap (λ (j : ℕ). n + j) rest ∙ ap (λ (j : ℕ). j + shared_prefix (drop j keys) (keys_of ending)) is ∙ sym (prefix_through keys s (keys_of ending) (omega (arith, is))))

-- ── how many keys are aligned
digit_one : (t : Tone) → is_tone t ≡ true → tone_digit t ≡ (point "0" + tone_number t) ∷ []
digit_one t e = text_yes (is_tone t) ((point "0" + tone_number t) ∷ []) [] e

-- whether the key at a place is the tone's digit, past the keys' end and before it
module _ (keys : List ℕ) (n : ℕ) (t : Tone) (some : is_tone t ≡ true) where
  pub no_key : length keys ≤ n → same (take 1 (drop n keys)) (tone_digit t) ≡ false
  unfolding same
  no_key h = ap₂ (λ (l d : List ℕ). same (take 1 l) d) (drop_of_length-le keys h) (digit_one t some)

  pub key_is : (x : ℕ) → tone_digit t ≡ x ∷ [] → n < length keys → same (take 1 (drop n keys)) (tone_digit t) ≡ eqb (get_or keys n 0) x
  unfolding same
  key_is x is h = ap₂ (λ (l d : List ℕ). same (take 1 l) d) (drop_next keys n h) is ∙ and_true _

  pub key_inside : same (take 1 (drop n keys)) (tone_digit t) ≡ true → n < length keys
  key_inside e = by_place (dec_le (length keys) n)
    where
      by_place : Dec (length keys ≤ n) → n < length keys
      by_place (yes h) = absurd (false_true (sym (no_key h) ∙ e))
      by_place (no h) = omega arith

module _ (keys : List ℕ) (s : Syllable) (n : ℕ) (is : n ≡ shared_prefix keys (raw s)) where
  pub aligned_none : n ≡ 0 → aligned_with keys s ≡ 0
  unfolding aligned_with
  aligned_none z = number_yes (eqb (shared_prefix keys (raw s)) 0) 0 _ (eq-eqb (shared_prefix keys (raw s)) 0 (sym is ∙ z))

  aligned_some : (n ≡ 0 → ⊥) → aligned_with keys s ≡ pick_number (grows keys n s) (n + 1) n
  unfolding aligned_with
  aligned_some h =
      number_no (eqb (shared_prefix keys (raw s)) 0) 0 _ (ne_eqb (shared_prefix keys (raw s)) 0 (λ e. h (is ∙ e)))
      ∙ ap (λ (k : ℕ). pick_number (grows keys k s) (k + 1) k) (sym is)

  module _ (h : (n ≡ 0 → ⊥)) (t : Tone) (toned : s.tone ≡ t) (some : is_tone t ≡ true) where
    grows_is : grows keys n s ≡ same (take 1 (drop (n + 1) keys)) (tone_digit t)
    unfolding grows
    grows_is =
        ap (λ (x : Tone). is_tone x && same (take 1 (drop (n + 1) keys)) (tone_digit x)) toned
        ∙ and_yes (is_tone t) (same (take 1 (drop (n + 1) keys)) (tone_digit t)) some

    pub aligned_grown : same (take 1 (drop (n + 1) keys)) (tone_digit t) ≡ true → aligned_with keys s ≡ n + 1
    aligned_grown e = aligned_some h ∙ number_yes _ _ _ (grows_is ∙ e)

    pub aligned_kept : same (take 1 (drop (n + 1) keys)) (tone_digit t) ≡ false → aligned_with keys s ≡ n
    aligned_kept e = aligned_some h ∙ number_no _ _ _ (grows_is ∙ e)

-- no more keys are aligned than there are
aligned_fits : (keys : List ℕ) (s : Syllable) → is_tone s.tone ≡ true → aligned_with keys s ≤ length keys
aligned_fits keys s some =
    let n : ℕ = shared_prefix keys (raw s) in
    either (eqb n 0)
    (λ z. omega (arith, aligned_none keys s n refl (eqb-true n 0 z)))
    (λ z. either (same (take 1 (drop (n + 1) keys)) (tone_digit s.tone))
    (λ e. omega (arith, aligned_grown keys s n refl (eqb-false n 0 z) s.tone refl some e, key_inside keys (n + 1) s.tone some e))
    (λ e. omega (arith, aligned_kept keys s n refl (eqb-false n 0 z) s.tone refl some e, prefix_fits keys (raw s))))

pub aligned_inside : (keys : List ℕ) (t : Tone) (k : Khin) (u : List ℕ) → is_tone t ≡ true → aligned_with keys (nearest_of keys (candidates_of t k u)) ≤ length keys
aligned_inside keys t k u some = aligned_fits keys (nearest_of keys (candidates_of t k u)) (ap is_tone (nearest_tone keys t k u) ∙ some)

-- ── the call, once the texts are checked
module _ (t : Table) (keys target buffer : List ℕ) where
  pub align_target_refused : (why : Refusal) → check_text t target ≡ bad why → refused why buffer ≡ align_of t (good keys) (check_text t target) buffer
  align_target_refused why e = sym (ap (λ (k : Checked). align_of t (good keys) k buffer) e)

  pub align_target_good : (n : ℕ) (u : List ℕ) → check_text t target ≡ good u → n ≡ aligned t keys u
      → placed_record 0 (from_raw (take n keys)) buffer ≡ align_of t (good keys) (check_text t target) buffer
  align_target_good n u e is = ap (λ (k : ℕ). placed_record 0 (from_raw (take k keys)) buffer) is ∙ sym (ap (λ (k : Checked). align_of t (good keys) k buffer) e)

-- what is aligned with a text that is not empty, and with the empty one
pub aligned_text : (t : Table) (keys u : List ℕ) → 0 < length u
    → aligned_with keys (nearest_of keys (candidates_of (strip t u).tone (khin_in (strip t u).rest) (without_khin (strip t u).rest))) ≡ aligned t keys u
unfolding aligned from_composed
aligned_text t keys [] h = absurd (omega arith)
aligned_text t keys (c ∷ s) h = refl

pub aligned_nothing : (t : Table) (keys : List ℕ) → aligned t keys [] ≡ 0
unfolding aligned from_composed nearest
aligned_nothing t keys = aligned_none keys default 0 (sym (with_nothing keys)) refl
