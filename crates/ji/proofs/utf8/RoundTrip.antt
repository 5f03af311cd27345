-- Both round trips: what is written is read back, and what is read is written back.
use mathlib.Core.Path.{◌≡◌, refl, sym, ap, ap₂, ◌∙◌}
use mathlib.Core.Bool.{Bool, true, false, ◌&&◌}
use mathlib.Core.Option.{Option, none, some, none-ne-some, some-injective}
use mathlib.Core.List.{List, [], ◌∷◌, ◌++◌}
use Prim.Native.Nat.{ℕ, zero, suc, ◌+◌, ◌-◌, ◌*◌, ◌/◌, ◌%◌, ◌≤◌, ◌<◌}
use native.Mathlib.Omega.{arith}
use native.Mathlib.Decide.{dec_le, ℕ_discrete}
use borrow.Author.Tests.{eqb-false, eqb-true}
use lib.Dec.{eqb}
use lib.ListN.{length, take, drop, get_or, take-append-drop}
use Rattle.ucd.specs.Table.{pick_number, All}
use Rattle.ji.specs.Text.{within}
use Rattle.ji.specs.Utf8.{width_at, second_low, second_high, point_at, SequenceOf, more, pick_decoded, decode_from, decode, bytes_of, encode}
use Rattle.ji.proofs.Bools.{either, and_yes, and_false, and_left, and_right, number_yes, number_no, within_yes, within_is, false_true}
use Rattle.ji.proofs.utf8.Laws.{First, one, two, three, four, nothing, first, low_positive, read_one, read_two, read_two_not, read_three, read_three_not, read_four, read_four_not}
use Rattle.ji.proofs.utf8.Decoding.{decode_step, drop_rest}
use Rattle.ji.proofs.utf8.Encoding.{bytes_one, bytes_two, bytes_three, bytes_four, encode_cons}

-- ── what is written is read back
-- the range of the second byte shuts out overlong forms, surrogates and what lies above 10FFFF
pub second_yes : (a b : ℕ) → 0x80 ≤ b → b ≤ 0xBF → (a ≡ 0xE0 → 0xA0 ≤ b) → (a ≡ 0xED → b ≤ 0x9F) → (a ≡ 0xF0 → 0x90 ≤ b) → (a ≡ 0xF4 → b ≤ 0x8F) → within (second_low a) (second_high a) b ≡ true
second_yes a b lo hi p q r u = within_yes (second_low a) (second_high a) b low high
  where
    low : second_low a ≤ b
    low =
        either (eqb a 0xE0) (λ e. let h = p (eqb-true a 0xE0 e) in rw (number_yes (eqb a 0xE0) 0xA0 (pick_number (eqb a 0xF0) 0x90 0x80) e) h)
        (λ e. rw (number_no (eqb a 0xE0) 0xA0 (pick_number (eqb a 0xF0) 0x90 0x80) e)
        (either (eqb a 0xF0) (λ f. let h = r (eqb-true a 0xF0 f) in rw (number_yes (eqb a 0xF0) 0x90 0x80 f) h) (λ f. rw (number_no (eqb a 0xF0) 0x90 0x80 f) lo)))

    high : b ≤ second_high a
    high =
        either (eqb a 0xED) (λ e. let h = q (eqb-true a 0xED e) in rw (number_yes (eqb a 0xED) 0x9F (pick_number (eqb a 0xF4) 0x8F 0xBF) e) h)
        (λ e. rw (number_no (eqb a 0xED) 0x9F (pick_number (eqb a 0xF4) 0x8F 0xBF) e)
        (either (eqb a 0xF4) (λ f. let h = u (eqb-true a 0xF4 f) in rw (number_yes (eqb a 0xF4) 0x8F 0xBF f) h) (λ f. rw (number_no (eqb a 0xF4) 0x8F 0xBF f) hi)))

-- a sequence of known width and code point in front
decode_front : (s : List ℕ) (w p : ℕ) → 0 < length s → SequenceOf s w p → decode s ≡ more p (decode (drop w s))
decode_front [] w p l r = absurd (omega arith)
decode_front (b ∷ s) w p l r =
    let e : w ≡ width_at (b ∷ s) = r.wide in
    decode_step b s (omega (arith, r.some)) ∙ ap₂ (λ (q n : ℕ). more q (decode (drop n (b ∷ s)))) (sym r.read) (sym e)

module _ (x : ℕ) (s : List ℕ) (h : x < 0xD800) where
  as_one : x ≤ 0x7F → decode (bytes_of x ++ s) ≡ more x (decode s)
  as_one k = rw (bytes_one x k) (decode_front (x ∷ s) 1 x (omega arith) (read_one (x ∷ s) 0 (omega arith) k))

  as_two : 0x7F < x → x ≤ 0x7FF → decode (bytes_of x ++ s) ≡ more x (decode s)
  as_two k l =
      let a : ℕ = 0xC0 + x / 64 in
      let b : ℕ = 0x80 + x % 64 in
      let r = read_two (a ∷ b ∷ s) 0 (omega arith) b refl (omega arith) (omega arith) (within_yes 0x80 0xBF b (omega arith) (omega arith)) in
      let q : a % 32 * 64 + b % 64 ≡ x = omega arith in
      rw (bytes_two x k l) (decode_front (a ∷ b ∷ s) 2 (a % 32 * 64 + b % 64) (omega arith) r ∙ ap (λ (p : ℕ). more p (decode s)) q)

  as_three : 0x7FF < x → decode (bytes_of x ++ s) ≡ more x (decode s)
  as_three k =
      let a : ℕ = 0xE0 + x / 4096 in
      let b : ℕ = 0x80 + x / 64 % 64 in
      let c : ℕ = 0x80 + x % 64 in
      let e = second_yes a b (omega arith) (omega arith) (λ z. omega arith) (λ z. omega arith) (λ z. omega arith) (λ z. omega arith) in
      let f = within_yes 0x80 0xBF c (omega arith) (omega arith) in
      let r = read_three (a ∷ b ∷ c ∷ s) 0 (omega arith) b refl c refl (omega arith) (omega arith) (and_yes (within (second_low a) (second_high a) b) (within 0x80 0xBF c) e ∙ f) in
      let q : a % 16 * 4096 + b % 64 * 64 + c % 64 ≡ x = omega arith in
      rw (bytes_three x k (omega arith)) (decode_front (a ∷ b ∷ c ∷ s) 3 (a % 16 * 4096 + b % 64 * 64 + c % 64) (omega arith) r ∙ ap (λ (p : ℕ). more p (decode s)) q)

  by_size : Dec (x ≤ 0x7F) → Dec (x ≤ 0x7FF) → decode (bytes_of x ++ s) ≡ more x (decode s)
  by_size (yes k) q = as_one k
  by_size (no k) (yes l) = as_two (omega arith) l
  by_size (no k) (no l) = as_three (omega arith)

  -- the bytes of a code point below D800, in front of any others, are read as that code point
  pub decode_bytes : decode (bytes_of x ++ s) ≡ more x (decode s)
  decode_bytes = by_size (dec_le x 0x7F) (dec_le x 0x7FF)

-- every code point of the table lies below D800
pub decode_encode : (s : List ℕ) → All (λ x. x < 0xD800) s → decode (encode s) ≡ some s
unfolding decode decode_from encode
decode_encode [] h = refl
decode_encode (x ∷ s) h = decode_bytes x (encode s) h.0 ∙ ap (more x) (decode_encode s h.1)

-- ── what is read is written back
-- the bytes of two, three and four that a sequence was read from
same_two : {a b x y : ℕ} → a ≡ x → b ≡ y → a ∷ b ∷ [] ≡ x ∷ y ∷ []
same_two p q = cc

same_three : {a b c x y z : ℕ} → a ≡ x → b ≡ y → c ≡ z → a ∷ b ∷ c ∷ [] ≡ x ∷ y ∷ z ∷ []
same_three p q r = cc

same_four : {a b c d w x y z : ℕ} → a ≡ w → b ≡ x → c ≡ y → d ≡ z → a ∷ b ∷ c ∷ d ∷ [] ≡ w ∷ x ∷ y ∷ z ∷ []
same_four p q r t = cc

high_most : (a : ℕ) → second_high a ≤ 0xBF
high_most a =
    either (eqb a 0xED) (λ e. rw (number_yes (eqb a 0xED) 0x9F (pick_number (eqb a 0xF4) 0x8F 0xBF) e) (omega arith))
    (λ e. rw (number_no (eqb a 0xED) 0x9F (pick_number (eqb a 0xF4) 0x8F 0xBF) e)
    (either (eqb a 0xF4) (λ f. rw (number_yes (eqb a 0xF4) 0x8F 0xBF f) (omega arith)) (λ f. rw (number_no (eqb a 0xF4) 0x8F 0xBF f) (omega arith))))

low_at_law : (a k : ℕ) → a ≡ k → second_low a ≡ second_low k
low_at_law a k e = ap second_low e

-- no second byte leaves room for a shorter form
not_overlong : (a b : ℕ) → 0xE0 ≤ a → within (second_low a) (second_high a) b ≡ true → (0xE0 * 64 + 0xA0 ≤ a * 64 + b) × (0x80 ≤ b) × (b ≤ 0xBF) × (0xF0 ≤ a → 0xF0 * 64 + 0x90 ≤ a * 64 + b)
not_overlong a b lo e = by_first_law (ℕ_discrete a 0xE0) (ℕ_discrete a 0xF0)
  where
    known : (second_low a ≤ b) × (b ≤ second_high a)
    known = within_is (second_low a) (second_high a) b e

    by_first_law : Dec (a ≡ 0xE0) → Dec (a ≡ 0xF0) → (0xE0 * 64 + 0xA0 ≤ a * 64 + b) × (0x80 ≤ b) × (b ≤ 0xBF) × (0xF0 ≤ a → 0xF0 * 64 + 0x90 ≤ a * 64 + b)
    by_first_law (yes p) q =
        let k : second_low a ≡ 0xA0 = low_at_law a 0xE0 p in
        (omega (arith, known), omega (arith, known), omega (arith, known, high_most a), λ z. omega arith)
    by_first_law (no p) (yes q) =
        let k : second_low a ≡ 0x90 = low_at_law a 0xF0 q in
        (omega (arith, known), omega (arith, known), omega (arith, known, high_most a), λ z. omega (arith, known))
    by_first_law (no p) (no q) =
        (omega (arith, known, low_positive a), omega (arith, known, low_positive a), omega (arith, known, high_most a), λ z. omega (arith, known, low_positive a))

back_two : (a : ℕ) (s : List ℕ) → 0xC2 ≤ a → a ≤ 0xDF → within 0x80 0xBF (get_or s 0 0) ≡ true → bytes_of (a % 32 * 64 + get_or s 0 0 % 64) ≡ take 2 (a ∷ s)
back_two a [] lo hi e = absurd (false_true e)
back_two a (b ∷ s) lo hi e =
    let k = within_is 0x80 0xBF b e in
    let x : ℕ = a % 32 * 64 + b % 64 in
    bytes_two x (omega arith) (omega arith) ∙ same_two (omega arith) (omega arith)

back_three : (a : ℕ) (s : List ℕ) → 0xE0 ≤ a → a ≤ 0xEF → (within (second_low a) (second_high a) (get_or s 0 0) && within 0x80 0xBF (get_or s 1 0)) ≡ true → bytes_of (a % 16 * 4096 + get_or s 0 0 % 64 * 64 + get_or s 1 0 % 64) ≡ take 3 (a ∷ s)
back_three a [] lo hi e = absurd (false_true (sym (and_false (within (second_low a) (second_high a) 0)) ∙ e))
back_three a (b ∷ []) lo hi e = absurd (false_true (sym (and_false (within (second_low a) (second_high a) b)) ∙ e))
back_three a (b ∷ c ∷ s) lo hi e =
    let j = not_overlong a b lo (and_left (within (second_low a) (second_high a) b) (within 0x80 0xBF c) e) in
    let k = within_is 0x80 0xBF c (and_right (within (second_low a) (second_high a) b) (within 0x80 0xBF c) e) in
    let x : ℕ = a % 16 * 4096 + b % 64 * 64 + c % 64 in
    bytes_three x (omega arith) (omega arith) ∙ same_three (omega arith) (omega arith) (omega arith)

abbrev fourth : ℕ → ℕ → ℕ → ℕ → Bool
fourth a b c d = within (second_low a) (second_high a) b && (within 0x80 0xBF c && within 0x80 0xBF d)

fourth_none : (a b c : ℕ) → fourth a b c 0 ≡ false
fourth_none a b c = ap (λ (t : Bool). within (second_low a) (second_high a) b && t) (and_false (within 0x80 0xBF c)) ∙ and_false (within (second_low a) (second_high a) b)

back_four : (a : ℕ) (s : List ℕ) → 0xF0 ≤ a → a ≤ 0xF4 → fourth a (get_or s 0 0) (get_or s 1 0) (get_or s 2 0) ≡ true → bytes_of (a % 8 * 262144 + get_or s 0 0 % 64 * 4096 + get_or s 1 0 % 64 * 64 + get_or s 2 0 % 64) ≡ take 4 (a ∷ s)
back_four a [] lo hi e = absurd (false_true (sym (fourth_none a 0 0) ∙ e))
back_four a (b ∷ []) lo hi e = absurd (false_true (sym (fourth_none a b 0) ∙ e))
back_four a (b ∷ c ∷ []) lo hi e = absurd (false_true (sym (fourth_none a b c) ∙ e))
back_four a (b ∷ c ∷ d ∷ s) lo hi e =
    let j = not_overlong a b (omega arith) (and_left (within (second_low a) (second_high a) b) (within 0x80 0xBF c && within 0x80 0xBF d) e) in
    let r = and_right (within (second_low a) (second_high a) b) (within 0x80 0xBF c && within 0x80 0xBF d) e in
    let k = within_is 0x80 0xBF c (and_left (within 0x80 0xBF c) (within 0x80 0xBF d) r) in
    let l = within_is 0x80 0xBF d (and_right (within 0x80 0xBF c) (within 0x80 0xBF d) r) in
    let m : 0xF0 * 64 + 0x90 ≤ a * 64 + b = j.3 lo in
    let x : ℕ = a % 8 * 262144 + b % 64 * 4096 + c % 64 * 64 + d % 64 in
    bytes_four x (omega arith) ∙ same_four (omega arith) (omega arith) (omega arith) (omega arith)

-- a sequence, read and written
module _ (a : ℕ) (s : List ℕ) (pos : 0 < width_at (a ∷ s)) where
  abbrev Back : Type 0
  Back = bytes_of (point_at (a ∷ s)) ≡ take (width_at (a ∷ s)) (a ∷ s)

  read_back : (n x : ℕ) → SequenceOf (a ∷ s) n x → bytes_of x ≡ take n (a ∷ s) → Back
  read_back n x r e = ap bytes_of (sym r.read) ∙ e ∙ ap (λ (m : ℕ). take m (a ∷ s)) r.wide

  none_back : width_at (a ∷ s) ≡ 0 → Back
  none_back e = absurd (omega arith)

  back_first : First a → Back
  back_first (one h w) = read_back 1 a (read_one (a ∷ s) 0 (omega arith) h) (bytes_one a h)
  back_first (two h l w) =
      either (within 0x80 0xBF (get_or s 0 0))
      (λ e. read_back 2 _ (read_two (a ∷ s) 0 (omega arith) (get_or s 0 0) refl h l e) (back_two a s h l e))
      (λ e. none_back (read_two_not (a ∷ s) 0 (omega arith) (get_or s 0 0) refl h l e))
  back_first (three h l w) =
      either (within (second_low a) (second_high a) (get_or s 0 0) && within 0x80 0xBF (get_or s 1 0))
      (λ e. read_back 3 _ (read_three (a ∷ s) 0 (omega arith) (get_or s 0 0) refl (get_or s 1 0) refl h l e) (back_three a s h l e))
      (λ e. none_back (read_three_not (a ∷ s) 0 (omega arith) (get_or s 0 0) refl (get_or s 1 0) refl h l e))
  back_first (four h l w) =
      either (fourth a (get_or s 0 0) (get_or s 1 0) (get_or s 2 0))
      (λ e. read_back 4 _ (read_four (a ∷ s) 0 (omega arith) (get_or s 0 0) refl (get_or s 1 0) refl (get_or s 2 0) refl h l e) (back_four a s h l e))
      (λ e. none_back (read_four_not (a ∷ s) 0 (omega arith) (get_or s 0 0) refl (get_or s 1 0) refl (get_or s 2 0) refl h l e))
  back_first (nothing n w) = let e = w s in absurd (omega arith)

  pub bytes_back : Back
  bytes_back = back_first (first a)

-- a sequence in front, and what the rest decodes to
front : (a : ℕ) (s u : List ℕ) (b : Bool) → eqb (width_at (a ∷ s)) 0 ≡ b → ((v : List ℕ) → decode_from (width_at (a ∷ s) - 1) s ≡ some v → encode v ≡ drop (width_at (a ∷ s) - 1) s) → (o : Option (List ℕ)) → decode_from (width_at (a ∷ s) - 1) s ≡ o → pick_decoded b none (more (point_at (a ∷ s)) o) ≡ some u → encode u ≡ a ∷ s
front a s u true eb ih o eo e = absurd (none-ne-some u e)
front a s u false eb ih none eo e = absurd (none-ne-some u e)
front a s u false eb ih (some v) eo e =
    let w : ℕ = width_at (a ∷ s) in
    let pos : 0 < w = omega (arith, eqb-false w 0 eb) in
    ap encode (sym (some-injective (point_at (a ∷ s) ∷ v) u e))
    ∙ encode_cons (point_at (a ∷ s)) v
    ∙ ap₂ (λ (p q : List ℕ). p ++ q) (bytes_back a s pos) (ih v eo ∙ drop_rest w a s pos)
    ∙ take-append-drop w (a ∷ s)

back_from : (k : ℕ) (s u : List ℕ) → decode_from k s ≡ some u → encode u ≡ drop k s
unfolding encode decode_from
back_from zero [] u e = ap encode (sym (some-injective [] u e))
back_from (suc k) [] u e = ap encode (sym (some-injective [] u e))
back_from zero (a ∷ s) u e = front a s u (eqb (width_at (a ∷ s)) 0) refl (λ v q. back_from (width_at (a ∷ s) - 1) s v q) (decode_from (width_at (a ∷ s) - 1) s) refl e
back_from (suc k) (a ∷ s) u e = back_from k s u e

-- a well-formed text is the encoding of its code points
pub encode_decode : (s u : List ℕ) → decode s ≡ some u → encode u ≡ s
unfolding decode
encode_decode s u e = back_from 0 s u e
