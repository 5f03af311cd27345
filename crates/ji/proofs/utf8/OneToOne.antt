-- No two texts have the same bytes, whatever numbers they hold. The first byte tells how many belong to the first code point.
use mathlib.Core.Path.{◌≡◌, refl, sym, ap, ap₂, ◌∙◌}
use mathlib.Core.Bool.{true}
use mathlib.Core.List.{List, [], ◌∷◌, ◌++◌, append_assoc}
use Prim.Native.Nat.{ℕ, ◌+◌, ◌-◌, ◌*◌, ◌/◌, ◌%◌, ◌≤◌, ◌<◌}
use native.Mathlib.Nat.{div-div-eq-div-mul}
use native.Mathlib.Omega.{arith}
use native.Mathlib.Decide.{dec_le}
use borrow.Author.Tests.{le-leb, lt-leb, eq-eqb}
use lib.Dec.{leb, eqb}
use lib.ListN.{length, drop, get_or, length-append}
use lib.Seq.{drop-append_seam}
use Rattle.ucd.specs.Table.{pick_number, same}
use Rattle.ucd.proofs.Tests.{true_passes, same_equal, same_itself}
use Rattle.ji.specs.Text.{begins}
use Rattle.ji.specs.Utf8.{bytes_of, encode}
use Rattle.ji.proofs.Bools.{either, false_true, and_yes, number_yes, number_no}
use Rattle.ji.proofs.text.Laws.{begins_split, begins_own}
use Rattle.ji.proofs.utf8.Encoding.{bytes_one, bytes_two, bytes_three, bytes_four, encode_nil, encode_cons, encode_append}

-- one of four, by the first byte of a sequence
abbrev by_first : ℕ → ℕ → ℕ → ℕ → ℕ → ℕ
by_first b one two three four = pick_number (leb b 0x7F) one (pick_number (leb b 0xDF) two (pick_number (leb b 0xEF) three four))

-- the code point that bytes begin with, and the bytes behind it
abbrev front : List ℕ → ℕ
front l =
    by_first (get_or l 0 0) (get_or l 0 0) (get_or l 0 0 * 64 + get_or l 1 0 - 0x3080) (get_or l 0 0 * 4096 + get_or l 1 0 * 64 + get_or l 2 0 - 0xE2080)
    (get_or l 0 0 * 262144 + get_or l 1 0 * 4096 + get_or l 2 0 * 64 + get_or l 3 0 - 0x3C82080)

abbrev behind : List ℕ → List ℕ
behind l = drop (by_first (get_or l 0 0) 1 2 3 4) l

module _ (b one two three four : ℕ) where
  first_one : b ≤ 0x7F → by_first b one two three four ≡ one
  first_one h = number_yes _ _ _ (le-leb _ _ h)

  first_two : 0x7F < b → b ≤ 0xDF → by_first b one two three four ≡ two
  first_two h k = number_no _ _ _ (lt-leb _ _ h) ∙ number_yes _ _ _ (le-leb _ _ k)

  first_three : 0xDF < b → b ≤ 0xEF → by_first b one two three four ≡ three
  first_three h k =
      let low : 0x7F < b = omega arith in
      number_no _ _ _ (lt-leb _ _ low) ∙ number_no _ _ _ (lt-leb _ _ h) ∙ number_yes _ _ _ (le-leb _ _ k)

  first_four : 0xEF < b → by_first b one two three four ≡ four
  first_four h =
      let low : 0x7F < b = omega arith in
      let mid : 0xDF < b = omega arith in
      number_no _ _ _ (lt-leb _ _ low) ∙ number_no _ _ _ (lt-leb _ _ mid) ∙ number_no _ _ _ (lt-leb _ _ h)

module _ (x : ℕ) (s : List ℕ) where
  abbrev Back : Type 0
  Back = (front (bytes_of x ++ s) ≡ x) × (behind (bytes_of x ++ s) ≡ s)

  back_two : 0x7F < x → x ≤ 0x7FF → Back
  back_two h k =
      let l : List ℕ = (0xC0 + x / 64) ∷ (0x80 + x % 64) ∷ s in
      let low : 0x7F < 0xC0 + x / 64 = omega arith in
      let high : 0xC0 + x / 64 ≤ 0xDF = omega arith in
      let v : (0xC0 + x / 64) * 64 + (0x80 + x % 64) - 0x3080 ≡ x = omega arith in
      rw (bytes_two x h k) (first_two _ _ _ _ _ low high ∙ v, ap (λ (n : ℕ). drop n l) (first_two _ 1 2 3 4 low high))

  back_three : 0x7FF < x → x ≤ 0xFFFF → Back
  back_three h k =
      let l : List ℕ = (0xE0 + x / 4096) ∷ (0x80 + x / 64 % 64) ∷ (0x80 + x % 64) ∷ s in
      let low : 0xDF < 0xE0 + x / 4096 = omega arith in
      let high : 0xE0 + x / 4096 ≤ 0xEF = omega arith in
      let v : (0xE0 + x / 4096) * 4096 + (0x80 + x / 64 % 64) * 64 + (0x80 + x % 64) - 0xE2080 ≡ x = omega arith in
      rw (bytes_three x h k) (first_three _ _ _ _ _ low high ∙ v, ap (λ (n : ℕ). drop n l) (first_three _ 1 2 3 4 low high))

  back_four : 0xFFFF < x → Back
  back_four h =
      let l : List ℕ = (0xF0 + x / 262144) ∷ (0x80 + x / 4096 % 64) ∷ (0x80 + x / 64 % 64) ∷ (0x80 + x % 64) ∷ s in
      let low : 0xEF < 0xF0 + x / 262144 = omega arith in
      let p : x / 64 / 64 ≡ x / 4096 = div-div-eq-div-mul x 64 64 in
      let q : x / 4096 / 64 ≡ x / 262144 = div-div-eq-div-mul x 4096 64 in
      let v : (0xF0 + x / 262144) * 262144 + (0x80 + x / 4096 % 64) * 4096 + (0x80 + x / 64 % 64) * 64 + (0x80 + x % 64) - 0x3C82080 ≡ x = omega arith in
      rw (bytes_four x h) (first_four _ _ _ _ _ low ∙ v, ap (λ (n : ℕ). drop n l) (first_four _ 1 2 3 4 low))

  by_size : Dec (x ≤ 0x7F) → Dec (x ≤ 0x7FF) → Dec (x ≤ 0xFFFF) → Back
  by_size (yes h) q r = rw (bytes_one x h) (first_one _ _ _ _ _ h, ap (λ (n : ℕ). drop n (x ∷ s)) (first_one _ 1 2 3 4 h))
  by_size (no h) (yes k) r = back_two (omega arith) k
  by_size (no h) (no k) (yes l) = back_three (omega arith) l
  by_size (no h) (no k) (no l) = back_four (omega arith)

  back : Back
  back = by_size (dec_le x 0x7F) (dec_le x 0x7FF) (dec_le x 0xFFFF)

-- a code point has at least one byte
pub bytes_some : (x : ℕ) → 0 < length (bytes_of x)
bytes_some x = by_size' (dec_le x 0x7F) (dec_le x 0x7FF) (dec_le x 0xFFFF)
  where
    by_size' : Dec (x ≤ 0x7F) → Dec (x ≤ 0x7FF) → Dec (x ≤ 0xFFFF) → 0 < length (bytes_of x)
    by_size' (yes h) q r = rw (bytes_one x h) (omega arith)
    by_size' (no h) (yes k) r = rw (bytes_two x (omega arith) k) (omega arith)
    by_size' (no h) (no k) (yes l) = rw (bytes_three x (omega arith) l) (omega arith)
    by_size' (no h) (no k) (no l) = rw (bytes_four x (omega arith)) (omega arith)

-- a text has at least as many bytes as code points
pub fewer : (s : List ℕ) → length s ≤ length (encode s)
fewer [] = omega arith
fewer (x ∷ s) = omega (arith, ap length (encode_cons x s), length-append (bytes_of x) (encode s), bytes_some x, fewer s)

cons_not_nil : (x : ℕ) (s : List ℕ) → encode (x ∷ s) ≡ encode [] → ⊥
cons_not_nil x s e =
    omega (arith, bytes_some x, length-append (bytes_of x) (encode s), ap length (sym (encode_cons x s) ∙ e ∙ encode_nil))

-- what stands before and behind two equal beginnings is equal
parted : (x y : ℕ) (s u : List ℕ) → bytes_of x ++ s ≡ bytes_of y ++ u → (x ≡ y) × (s ≡ u)
parted x y s u f = (sym (back x s).0 ∙ ap front f ∙ (back y u).0, sym (back x s).1 ∙ ap behind f ∙ (back y u).1)

-- the bytes of a text are those of no other text
pub encode_one_to_one : (s u : List ℕ) → encode s ≡ encode u → s ≡ u
encode_one_to_one [] [] e = refl
encode_one_to_one [] (y ∷ u) e = absurd (cons_not_nil y u (sym e))
encode_one_to_one (x ∷ s) [] e = absurd (cons_not_nil x s e)
encode_one_to_one (x ∷ s) (y ∷ u) e =
    let p = parted x y (encode s) (encode u) (sym (encode_cons x s) ∙ e ∙ encode_cons y u) in
    ap₂ ◌∷◌ p.0 (encode_one_to_one s u p.1)

-- so bytes are the same where the texts are
pub same_bytes : (s u : List ℕ) → same (encode s) (encode u) ≡ same s u
same_bytes s u =
    either (same s u)
    (λ e. let f = same_equal s u (true_passes (same s u) e) in ap (λ (v : List ℕ). same (encode s) (encode v)) (sym f) ∙ same_itself (encode s) ∙ sym e)
    (λ e.
    either (same (encode s) (encode u))
    (λ g. let f = encode_one_to_one s u (same_equal (encode s) (encode u) (true_passes (same (encode s) (encode u)) g)) in
    absurd (false_true (sym e ∙ ap (same s) (sym f) ∙ same_itself s)))
    (λ g. g ∙ sym e))

-- and bytes begin with the bytes of a text where their text begins with it
begun : (p s r : List ℕ) → encode s ≡ encode p ++ r → begins p s ≡ true
unfolding begins
begun [] s r e = refl
begun (a ∷ p) [] r e =
    absurd (omega (arith, bytes_some a, length-append (bytes_of a) (encode p), length-append (encode (a ∷ p)) r, ap length (encode_cons a p), ap length (sym encode_nil ∙ e)))
begun (a ∷ p) (x ∷ s) r e =
    let f : bytes_of x ++ encode s ≡ bytes_of a ++ (encode p ++ r) = sym (encode_cons x s) ∙ e ∙ ap (λ (l : List ℕ). l ++ r) (encode_cons a p) ∙ append_assoc (bytes_of a) (encode p) r in
    let q = parted x a (encode s) (encode p ++ r) f in
    and_yes (eqb x a) (begins p s) (eq-eqb x a q.0) ∙ begun p s r q.1

pub begins_bytes : (p s : List ℕ) → begins (encode p) (encode s) ≡ begins p s
begins_bytes p s =
    either (begins p s)
    (λ e. ap (begins (encode p)) (ap encode (begins_split p s e) ∙ encode_append p (drop (length p) s)) ∙ begins_own (encode p) (encode (drop (length p) s)) ∙ sym e)
    (λ e.
    either (begins (encode p) (encode s))
    (λ g. absurd (false_true (sym e ∙ begun p s (drop (length (encode p)) (encode s)) (begins_split (encode p) (encode s) g))))
    (λ g. g ∙ sym e))

-- what follows it in the bytes are the bytes of what follows it in the text
pub drop_bytes : (p s : List ℕ) → begins p s ≡ true → drop (length (encode p)) (encode s) ≡ encode (drop (length p) s)
drop_bytes p s e =
    ap (drop (length (encode p))) (ap encode (begins_split p s e) ∙ encode_append p (drop (length p) s)) ∙ drop-append_seam (encode p) (encode (drop (length p) s))
