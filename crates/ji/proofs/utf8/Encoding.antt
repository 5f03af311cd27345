-- Encoding, one code point at a time, and how long it gets.
use mathlib.Core.Path.{◌≡◌, refl, sym, ap, ◌∙◌}
use mathlib.Core.List.{List, [], ◌∷◌, ◌++◌, append_assoc, append-nil}
use Prim.Native.Nat.{ℕ, suc, ◌+◌, ◌*◌, ◌/◌, ◌%◌, ◌≤◌, ◌<◌}
use native.Mathlib.Omega.{arith}
use native.Mathlib.Numerals.{add-one}
use native.Mathlib.Decide.{dec_le}
use borrow.Author.Tests.{le-leb, lt-leb}
use lib.ListN.{length, drop, get_or, drop_of_length-le, length-append}
use lib.Seq.{drop-cons}
use Rattle.std.specs.Prelude.{sum_by}
use Rattle.std.proofs.lemmas.List.Sums.{sum_by-cons}
use Rattle.ji.specs.Utf8.{bytes_of, encode}
use Rattle.ji.proofs.Bools.{text_yes, text_no}

-- a code point in one, two, three and four bytes
pub bytes_one : (x : ℕ) → x ≤ 0x7F → bytes_of x ≡ x ∷ []
unfolding bytes_of
bytes_one x h = text_yes _ _ _ (le-leb _ _ h)

pub bytes_two : (x : ℕ) → 0x7F < x → x ≤ 0x7FF → bytes_of x ≡ (0xC0 + x / 64) ∷ (0x80 + x % 64) ∷ []
unfolding bytes_of
bytes_two x h k = text_no _ _ _ (lt-leb _ _ h) ∙ text_yes _ _ _ (le-leb _ _ k)

pub bytes_three : (x : ℕ) → 0x7FF < x → x ≤ 0xFFFF → bytes_of x ≡ (0xE0 + x / 4096) ∷ (0x80 + x / 64 % 64) ∷ (0x80 + x % 64) ∷ []
unfolding bytes_of
bytes_three x h k =
    let low : 0x7F < x = omega arith in
    text_no _ _ _ (lt-leb _ _ low) ∙ text_no _ _ _ (lt-leb _ _ h) ∙ text_yes _ _ _ (le-leb _ _ k)

pub bytes_four : (x : ℕ) → 0xFFFF < x → bytes_of x ≡ (0xF0 + x / 262144) ∷ (0x80 + x / 4096 % 64) ∷ (0x80 + x / 64 % 64) ∷ (0x80 + x % 64) ∷ []
unfolding bytes_of
bytes_four x h =
    let low : 0x7F < x = omega arith in
    let mid : 0x7FF < x = omega arith in
    text_no _ _ _ (lt-leb _ _ low) ∙ text_no _ _ _ (lt-leb _ _ mid) ∙ text_no _ _ _ (lt-leb _ _ h)

-- a code point of sixteen bits has at most three
pub bytes_most : (x : ℕ) → x ≤ 0xFFFF → length (bytes_of x) ≤ 3
bytes_most x h = by_size (dec_le x 0x7F) (dec_le x 0x7FF)
  where
    by_size : Dec (x ≤ 0x7F) → Dec (x ≤ 0x7FF) → length (bytes_of x) ≤ 3
    by_size (yes k) q = omega (arith, ap length (bytes_one x k))
    by_size (no k) (yes l) = omega (arith, ap length (bytes_two x (omega arith) l))
    by_size (no k) (no l) = omega (arith, ap length (bytes_three x (omega arith) h))

pub encode_nil : encode [] ≡ []
unfolding encode
encode_nil = refl

pub encode_cons : (x : ℕ) (s : List ℕ) → encode (x ∷ s) ≡ bytes_of x ++ encode s
unfolding encode
encode_cons x s = refl

-- the bytes of each, added up
pub sizes_added : (s : List ℕ) → sum_by (λ x. length (bytes_of x)) s ≡ length (encode s)
sizes_added [] = sym (ap length encode_nil)
sizes_added (x ∷ s) = omega (arith, sum_by-cons (λ x. length (bytes_of x)) x s, sizes_added s, ap length (encode_cons x s), length-append (bytes_of x) (encode s))

pub encode_append : (s u : List ℕ) → encode (s ++ u) ≡ encode s ++ encode u
unfolding encode
encode_append [] u = refl
encode_append (x ∷ s) u = ap (λ (l : List ℕ). bytes_of x ++ l) (encode_append s u) ∙ sym (append_assoc (bytes_of x) (encode s) (encode u))

-- one code point more at the end
pub encode_more : (s : List ℕ) (x : ℕ) → encode (s ++ (x ∷ [])) ≡ encode s ++ bytes_of x
encode_more s x = encode_append s (x ∷ []) ∙ ap (λ (l : List ℕ). encode s ++ l) (encode_cons x [] ∙ ap (λ (l : List ℕ). bytes_of x ++ l) encode_nil ∙ append-nil (bytes_of x))

-- the same at a place
pub encode_at : (s : List ℕ) (i : ℕ) → i < length s → encode (drop i s) ≡ bytes_of (get_or s i 0) ++ encode (drop (i + 1) s)
unfolding encode
encode_at s i h = ap encode (drop-cons s i 0 h) ∙ ap (λ (k : ℕ). bytes_of (get_or s i 0) ++ encode (drop k s)) (sym (add-one i))

pub encode_end : (s : List ℕ) (i : ℕ) → length s ≤ i → encode (drop i s) ≡ []
unfolding encode
encode_end s i h = ap encode (drop_of_length-le s h)

pub length_at : (s : List ℕ) (i : ℕ) → i < length s → length (encode (drop i s)) ≡ length (bytes_of (get_or s i 0)) + length (encode (drop (i + 1) s))
length_at s i h = ap length (encode_at s i h) ∙ length-append (bytes_of (get_or s i 0)) (encode (drop (i + 1) s))

pub length_end : (s : List ℕ) (i : ℕ) → length s ≤ i → length (encode (drop i s)) ≡ 0
length_end s i h = ap length (encode_end s i h)

-- a text of such code points has at most three bytes for each
pub encode_most : (s : List ℕ) → ((i : ℕ) → get_or s i 0 ≤ 0xFFFF) → length (encode s) ≤ 3 * length s
encode_most [] h = omega (arith, ap length encode_nil)
encode_most (x ∷ s) h =
    omega (arith, ap length (encode_cons x s), length-append (bytes_of x) (encode s), bytes_most x (h 0), encode_most s (λ i. h (suc i)))
