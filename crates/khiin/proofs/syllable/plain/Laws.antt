-- ASCII bodies that no rule changes: they are spelled as they stand, and a tone mark changes one letter of them alone.
use mathlib.Core.Path.{◌≡◌, refl, sym, ap, ap₂, ◌∙◌, subst}
use mathlib.Core.Bool.{true}
use mathlib.Core.List.{List, [], ◌∷◌, ◌++◌}
use mathlib.Core.Logic.{inr}
use Prim.Native.Nat.{ℕ, zero, suc, ◌+◌, ◌-◌, ◌/◌, ◌≤◌, ◌<◌}
use native.Mathlib.Decide.{dec_le}
use native.Mathlib.Omega.{arith}
use borrow.Author.Tests.{lt-ltb, le-leb}
use lib.ListN.{length, take, drop, get_or, drop_of_length-le}
use lib.Seq.{get_or-take}
use Rattle.ji.specs.Unicode.{unicode16}
use Rattle.ji.specs.Text.{all_ascii}
use Rattle.ji.specs.Utf8.{bytes_of, encode}
use Rattle.ji.specs.Lomaji.ToneLetter.{tone_letter, byte_place_of}
use Rattle.ji.specs.declared.tone.Tone.{Tone}
use Rattle.ji.specs.declared.lomaji.khin.Khin.TheVariants.{No}
use Rattle.ji.specs.Lomaji.Keys.{respell}
use Rattle.ji.proofs.Bools.{and_yes, or_yes}
use Rattle.ji.proofs.text.Laws.{drop_next}
use Rattle.ji.proofs.unicode.Bytes.{bytes_one, bytes_two, bytes_three, bytes_four, encode_cons, encode_append}
use Rattle.ji.proofs.unicode.Ascii.{ascii_nil, ascii_low, ascii_rest, ascii_at, ascii_take, ascii_drop, ascii_bytes}
use Rattle.khiin.specs.Syllable.{o_rules, mark_of, encoded, composed_with, compose}
use Rattle.khiin.specs.Compose.{settled_body, settled_from, MakeOne, MakeNone, NoSignBefore, Plain}
use Rattle.khiin.proofs.syllable.compose.Laws.{nasalised_no, composed_is}
use Rattle.khiin.proofs.syllable.compose.Pairs.{vowels_apart}
use Rattle.khiin.proofs.syllable.compose.Once.{moved_none_lone, dot_low}
use Rattle.khiin.proofs.syllable.marking.Settled.{listed_mark, encoded_settled}
use Rattle.khiin.proofs.syllable.marking.Marked.{marked_one, marked_none}
use Rattle.std.specs.Prelude.{Option}
use Rattle.ji.specs.declared.unicode.ByteLen.{ByteLen}

-- ── a plain body is composed as it stands
module _ (s : List ℕ) (p : Plain s) where
  no_sign : NoSignBefore s
  no_sign k h = omega (arith, ascii_at s k p.ascii)

  settled_itself : settled_body s ≡ s
  unfolding settled_body
  settled_itself = rw (vowels_apart s p.apart, nasalised_no s p.oral) (moved_none_lone s no_sign)

  undotted : respell o_rules s ≡ s
  undotted = dot_low s no_sign (omega (arith, ascii_at s (length s - 1) p.ascii))

  pub plain_composed : (raw_input : List ℕ) (tone : Tone) → composed_with unicode16 raw_input s (mark_of tone) ≡ compose unicode16 raw_input s tone No
  plain_composed raw_input tone = ap (λ (u : List ℕ). composed_with unicode16 raw_input u (mark_of tone)) (sym undotted) ∙ composed_is raw_input s s tone No settled_itself

-- ── the walk that tells whether a text is ASCII
pub ascii_step : (s : List ℕ) (i : ℕ) → i < length s → get_or s i 0 ≤ 0x7F → all_ascii (drop i s) ≡ all_ascii (drop (i + 1) s)
unfolding all_ascii
ascii_step s i h low = ap all_ascii (drop_next s i h) ∙ and_yes _ _ (le-leb (get_or s i 0) 0x7F low)

pub ascii_end : (s : List ℕ) (i : ℕ) → length s ≤ i → all_ascii (drop i s) ≡ true
ascii_end s i h = ap all_ascii (drop_of_length-le s h) ∙ ascii_nil

-- ── the ASCII bytes that a text begins with are its first code points
first_high : (x : ℕ) (t : List ℕ) → 0x7F < x → 0x7F < get_or (bytes_of x ++ t) 0 0
first_high x t high = by_size (dec_le x 0x7FF) (dec_le x 0xFFFF)
  where
    by_size : Dec (x ≤ 0x7FF) → Dec (x ≤ 0xFFFF) → 0x7F < get_or (bytes_of x ++ t) 0 0
    by_size (yes a) b = rw (bytes_two x high a) (let z : 0x7F < 0xC0 + x / 64 = omega arith in z)
    by_size (no a) (yes b) = rw (bytes_three x (omega arith) b) (let z : 0x7F < 0xE0 + x / 4096 = omega arith in z)
    by_size (no a) (no b) = rw (bytes_four x (omega arith)) (let z : 0x7F < 0xF0 + x / 262144 = omega arith in z)

pub front_ascii : (s : List ℕ) (n : ℕ) → n ≤ length s → all_ascii (take n (encode s)) ≡ true → take n (encode s) ≡ take n s
front_ascii s zero l h = refl
front_ascii [] (suc n) l h = absurd (omega arith)
front_ascii (x ∷ s) (suc n) l h = by_first_law (dec_le x 0x7F) (front_ascii s n (omega arith))
  where
    by_first_law : Dec (x ≤ 0x7F) → (all_ascii (take n (encode s)) ≡ true → take n (encode s) ≡ take n s) → take (suc n) (encode (x ∷ s)) ≡ take (suc n) (x ∷ s)
    by_first_law (yes low) more =
        let e : encode (x ∷ s) ≡ x ∷ encode s = encode_cons x s ∙ ap (λ (u : List ℕ). u ++ encode s) (bytes_one x low) in
        ap (take (suc n)) e ∙ ap (λ (u : List ℕ). x ∷ u) (more (ascii_rest x (take n (encode s)) (subst (λ (u : List ℕ). all_ascii (take (suc n) u) ≡ true) e h)))
    by_first_law (no high) more =
        let low : get_or (take (suc n) (encode (x ∷ s))) 0 0 ≤ 0x7F = ascii_at (take (suc n) (encode (x ∷ s))) 0 h in
        let same : get_or (take (suc n) (encode (x ∷ s))) 0 0 ≡ get_or (bytes_of x ++ encode s) 0 0 = get_or-take (suc n) (encode (x ∷ s)) 0 0 (omega arith) ∙ ap (λ (u : List ℕ). get_or u 0 0) (encode_cons x s) in
        absurd (let z : ⊥ = omega (arith, low, same, first_high x (encode s) (omega arith)) in z)

-- ── ASCII texts need no normalising
ascii_settled : (before : ℕ) (s : List ℕ) → all_ascii s ≡ true → settled_from before s ≡ true
unfolding settled_from
ascii_settled before [] h = refl
ascii_settled before (x ∷ s) h =
    and_yes _ _ (or_yes _ _ (or_yes _ _ (lt-ltb x 0xC0 (omega (arith, ascii_low x s h))))) ∙ ascii_settled x s (ascii_rest x s h)

module _ (s : List ℕ) (h : all_ascii s ≡ true) where
  pub ascii_encoded : encode (encoded unicode16 s) ≡ s
  ascii_encoded = ap encode (encoded_settled s (ascii_settled 0 s h)) ∙ ascii_bytes s h

  -- the bytes of a text with one code point between two parts of s
  between : (i j x : ℕ) → encode (take i s ++ (x ∷ drop j s)) ≡ take i s ++ (bytes_of x ++ drop j s)
  between i j x =
      encode_append (take i s) (x ∷ drop j s)
      ∙ ap₂ (λ (u v : List ℕ). u ++ v) (ascii_bytes (take i s) (ascii_take i s h)) (encode_cons x (drop j s) ∙ ap (λ (v : List ℕ). bytes_of x ++ v) (ascii_bytes (drop j s) (ascii_drop j s h)))

  -- a mark behind the letter at k
  module _ (k mark : ℕ) (l : k < length s) where
    low : get_or s k 0 < 0xC0
    low = omega (arith, ascii_at s k h)

    -- it gives way, with the letter, to their composite
    pub joined_bytes : (c : ℕ) → MakeOne (get_or s k 0) mark c → take k s ++ (bytes_of c ++ drop (k + 1) s) ≡ encode (encoded unicode16 (take (k + 1) s ++ (mark ∷ drop (k + 1) s)))
    joined_bytes c j = sym (ap encode (marked_one s k mark (ascii_settled 0 s h) l low (listed_mark mark j.tone) c j.one j.small.1) ∙ between k (k + 1) c)

    -- it stays where they have none
    pub apart_bytes : MakeNone (get_or s k 0) mark → take (k + 1) s ++ (bytes_of mark ++ drop (k + 1) s) ≡ encode (encoded unicode16 (take (k + 1) s ++ (mark ∷ drop (k + 1) s)))
    apart_bytes j =
        sym
        (ap encode
        (marked_none s k mark (ascii_settled 0 s h) l low (listed_mark mark j.tone) (inr (λ z. omega (arith, z, ascii_at s (k + 1) h))) j.apart)
        ∙ between (k + 1) (k + 1) mark)

-- ── the place of the tone letter, as the answer has it
pub byte_place_told : (s : List ℕ) {p x : Option ByteLen} → p ≡ x → byte_place_of p ≡ tone_letter s → tone_letter s ≡ byte_place_of x
byte_place_told s e h = sym h ∙ ap byte_place_of e
