-- UTF-8: a sequence by its first byte, and both round trips.
use mathlib.Core.Path.{◌≡◌, refl, sym, ap, ap₂, ◌∙◌}
use mathlib.Core.Bool.{Bool, true, false, ◌&&◌}
use mathlib.Core.List.{List, [], ◌∷◌}
use Prim.Native.Nat.{ℕ, zero, suc, ◌+◌, ◌-◌, ◌*◌, ◌%◌, ◌≤◌, ◌<◌}
use native.Mathlib.Omega.{arith}
use native.Mathlib.Decide.{dec_le, ℕ_discrete}
use borrow.Author.Tests.{eq-eqb, ne_eqb}
use lib.Dec.{eqb}
use native.Mathlib.Nat.{add-zero}
use native.Mathlib.Numerals.{add-one}
use lib.ListN.{length, take, drop, get_or}
use lib.Seq.{drop-cons, drop-drop, get_or-drop}
use Rattle.ucd.specs.Table.{pick_number}
use Rattle.ji.specs.Text.{within}
use Rattle.ji.specs.Utf8.{table37, fits_row, width_in, width_at, second_low, second_high, SequenceOf, ReadOf, leading, trailing, point_at}
use Rattle.ji.specs.declared.utf8.Sequence.{Sequence}
use Rattle.std.specs.Bool.{then_some}
use Rattle.ji.proofs.Bools.{either, and_true, and_no, and_yes, and_left, and_right, number_yes, number_no, within_yes, within_below, within_above, within_is}

-- ── a sequence by its first byte
abbrev later : ℕ × ℕ
later = (0x80, 0xBF)

-- the rows that begin below a, and those that begin above it
abbrev Passed : ℕ → ℕ → List (List (ℕ × ℕ)) → Type 0
Passed a zero rows = Unit {0}
Passed a (suc n) [] = Unit {0}
Passed a (suc n) ([] ∷ rows) = ⊥
Passed a (suc n) ((r ∷ row) ∷ rows) = (r.1 < a) × Passed a n rows

abbrev Ahead : ℕ → List (List (ℕ × ℕ)) → Type 0
Ahead a [] = Unit {0}
Ahead a ([] ∷ rows) = ⊥
Ahead a ((r ∷ row) ∷ rows) = (a < r.0) × Ahead a rows

passed : (n : ℕ) (rows : List (List (ℕ × ℕ))) (a : ℕ) (s : List ℕ) → Passed a n rows → width_in rows (a ∷ s) ≡ width_in (drop n rows) (a ∷ s)
passed zero rows a s h = refl
passed (suc n) [] a s h = refl
passed (suc n) ([] ∷ rows) a s h = absurd h
passed (suc n) ((r ∷ row) ∷ rows) a s h = number_no _ _ _ (and_no _ _ (within_above r.0 r.1 a h.0)) ∙ passed n rows a s h.1

ahead : (rows : List (List (ℕ × ℕ))) (a : ℕ) (s : List ℕ) → Ahead a rows → width_in rows (a ∷ s) ≡ 0
ahead [] a s h = refl
ahead ([] ∷ rows) a s h = absurd h
ahead ((r ∷ row) ∷ rows) a s h = number_no _ _ _ (and_no _ _ (within_below r.0 r.1 a h.0)) ∙ ahead rows a s h.1

-- a begins the first of these rows and none of the others
begun : (r : ℕ × ℕ) (row : List (ℕ × ℕ)) (rows : List (List (ℕ × ℕ))) (a : ℕ) (s : List ℕ) → r.0 ≤ a → a ≤ r.1 → Ahead a rows → width_in ((r ∷ row) ∷ rows) (a ∷ s) ≡ pick_number (fits_row row s) (length (r ∷ row)) 0
begun r row rows a s lo hi h =
    ap₂ (λ (b : Bool) (n : ℕ). pick_number b (length (r ∷ row)) n) (and_yes _ _ (within_yes r.0 r.1 a lo hi)) (ahead rows a s h)

-- what a first byte can begin
pub data First (a : ℕ) : Type 0 where
  one : a ≤ 0x7F → ((s : List ℕ) → width_at (a ∷ s) ≡ 1) → First a
  two : 0xC2 ≤ a → a ≤ 0xDF → ((s : List ℕ) → width_at (a ∷ s) ≡ pick_number (fits_row (later ∷ []) s) 2 0) → First a
  three : 0xE0 ≤ a → a ≤ 0xEF → ((s : List ℕ) → width_at (a ∷ s) ≡ pick_number (fits_row ((second_low a, second_high a) ∷ later ∷ []) s) 3 0) → First a
  four : 0xF0 ≤ a → a ≤ 0xF4 → ((s : List ℕ) → width_at (a ∷ s) ≡ pick_number (fits_row ((second_low a, second_high a) ∷ later ∷ later ∷ []) s) 4 0) → First a
  nothing : ((a ≤ 0x7F → ⊥) × (0xC2 ≤ a → a ≤ 0xF4 → ⊥)) → ((s : List ℕ) → width_at (a ∷ s) ≡ 0) → First a

module _ (a : ℕ) where
  -- the range of the second byte is the usual one unless the first byte is one of four
  low_usual : (a ≡ 0xE0 → ⊥) → (a ≡ 0xF0 → ⊥) → second_low a ≡ 0x80
  low_usual p q = (number_no _ _ _ (ne_eqb a 0xE0 p) ∙ number_no _ _ _ (ne_eqb a 0xF0 q))

  high_usual : (a ≡ 0xED → ⊥) → (a ≡ 0xF4 → ⊥) → second_high a ≡ 0xBF
  high_usual p q = (number_no _ _ _ (ne_eqb a 0xED p) ∙ number_no _ _ _ (ne_eqb a 0xF4 q))

  -- the width of a row, with the range of its second byte by name
  ranged : (lo hi n : ℕ) (row : List (ℕ × ℕ)) (s : List ℕ) → second_low a ≡ lo → second_high a ≡ hi → pick_number (fits_row ((lo, hi) ∷ row) s) n 0 ≡ pick_number (fits_row ((second_low a, second_high a) ∷ row) s) n 0
  ranged lo hi n row s p q = rw (p, q)

  -- a test of the second byte with the range written out
  pub second_at : (k b : ℕ) → a ≡ k → within (second_low k) (second_high k) b ≡ within (second_low a) (second_high a) b
  second_at k b e = ap (λ (x : ℕ). within (second_low x) (second_high x) b) (sym e)

  pub second_usual : (b : ℕ) → (a ≡ 0xE0 → ⊥) → (a ≡ 0xED → ⊥) → (a ≡ 0xF0 → ⊥) → (a ≡ 0xF4 → ⊥) → within 0x80 0xBF b ≡ within (second_low a) (second_high a) b
  second_usual b p q r u = ap₂ (λ (lo hi : ℕ). within lo hi b) (sym (low_usual p r)) (sym (high_usual q u))

  first_two : 0xC2 ≤ a → a ≤ 0xDF → First a
  unfolding width_at
  first_two lo hi = two lo hi (λ s. passed 1 table37 a s (omega arith) ∙ begun (0xC2, 0xDF) (later ∷ []) (drop 2 table37) a s lo hi (omega arith))

  first_three : 0xE0 ≤ a → a ≤ 0xEF → Dec (a ≡ 0xE0) → Dec (a ≤ 0xEC) → Dec (a ≡ 0xED) → First a
  unfolding width_at
  first_three lo hi (yes e) y z =
      three lo hi (λ s. passed 2 table37 a s (omega arith) ∙ begun (0xE0, 0xE0) ((0xA0, 0xBF) ∷ later ∷ []) (drop 3 table37) a s (omega arith) (omega arith) (omega arith)
      ∙ ranged 0xA0 0xBF 3 (later ∷ []) s (number_yes _ _ _ (eq-eqb a 0xE0 e)) (high_usual (λ k. omega arith) (λ k. omega arith)))
  first_three lo hi (no x) (yes y) z =
      three lo hi (λ s. passed 3 table37 a s (omega arith) ∙ begun (0xE1, 0xEC) (later ∷ later ∷ []) (drop 4 table37) a s (omega arith) y (omega arith)
      ∙ ranged 0x80 0xBF 3 (later ∷ []) s (low_usual x (λ k. omega arith)) (high_usual (λ k. omega arith) (λ k. omega arith)))
  first_three lo hi (no x) (no y) (yes e) =
      three lo hi (λ s. passed 4 table37 a s (omega arith) ∙ begun (0xED, 0xED) ((0x80, 0x9F) ∷ later ∷ []) (drop 5 table37) a s (omega arith) (omega arith) (omega arith)
      ∙ ranged 0x80 0x9F 3 (later ∷ []) s (low_usual x (λ k. omega arith)) (number_yes _ _ _ (eq-eqb a 0xED e)))
  first_three lo hi (no x) (no y) (no z) =
      three lo hi (λ s. passed 5 table37 a s (omega arith) ∙ begun (0xEE, 0xEF) (later ∷ later ∷ []) (drop 6 table37) a s (omega arith) hi (omega arith)
      ∙ ranged 0x80 0xBF 3 (later ∷ []) s (low_usual x (λ k. omega arith)) (high_usual z (λ k. omega arith)))

  first_four : 0xF0 ≤ a → a ≤ 0xF4 → Dec (a ≡ 0xF0) → Dec (a ≡ 0xF4) → First a
  unfolding width_at
  first_four lo hi (yes e) y =
      four lo hi (λ s. passed 6 table37 a s (omega arith) ∙ begun (0xF0, 0xF0) ((0x90, 0xBF) ∷ later ∷ later ∷ []) (drop 7 table37) a s (omega arith) (omega arith) (omega arith)
      ∙ ranged 0x90 0xBF 4 (later ∷ later ∷ []) s (number_no _ _ _ (ne_eqb a 0xE0 (λ k. omega arith)) ∙ number_yes _ _ _ (eq-eqb a 0xF0 e)) (high_usual (λ k. omega arith) (λ k. omega arith)))
  first_four lo hi (no x) (yes e) =
      four lo hi (λ s. passed 8 table37 a s (omega arith) ∙ begun (0xF4, 0xF4) ((0x80, 0x8F) ∷ later ∷ later ∷ []) [] a s (omega arith) (omega arith) tt
      ∙ ranged 0x80 0x8F 4 (later ∷ later ∷ []) s (low_usual (λ k. omega arith) x) (number_no _ _ _ (ne_eqb a 0xED (λ k. omega arith)) ∙ number_yes _ _ _ (eq-eqb a 0xF4 e)))
  first_four lo hi (no x) (no y) =
      four lo hi (λ s. passed 7 table37 a s (omega arith) ∙ begun (0xF1, 0xF3) (later ∷ later ∷ later ∷ []) (drop 8 table37) a s (omega arith) (omega arith) (omega arith)
      ∙ ranged 0x80 0xBF 4 (later ∷ later ∷ []) s (low_usual (λ k. omega arith) x) (high_usual (λ k. omega arith) y))

  by_first_law : Dec (a ≤ 0x7F) → Dec (a ≤ 0xC1) → Dec (a ≤ 0xDF) → Dec (a ≤ 0xEF) → Dec (a ≤ 0xF4) → First a
  unfolding width_at
  by_first_law (yes p) q r u v = one p (λ s. begun (0x00, 0x7F) [] (drop 1 table37) a s (omega arith) p (omega arith))
  by_first_law (no p) (yes q) r u v = nothing (omega arith, λ x y. omega arith) (λ s. passed 1 table37 a s (omega arith) ∙ ahead (drop 1 table37) a s (omega arith))
  by_first_law (no p) (no q) (yes r) u v = first_two (omega arith) r
  by_first_law (no p) (no q) (no r) (yes u) v = first_three (omega arith) u (ℕ_discrete a 0xE0) (dec_le a 0xEC) (ℕ_discrete a 0xED)
  by_first_law (no p) (no q) (no r) (no u) (yes v) = first_four (omega arith) v (ℕ_discrete a 0xF0) (ℕ_discrete a 0xF4)
  by_first_law (no p) (no q) (no r) (no u) (no v) = nothing (p, λ x y. omega arith) (λ s. passed 9 table37 a s (omega arith))

  -- every first byte is of one of these kinds
  pub first : First a
  first = by_first_law (dec_le a 0x7F) (dec_le a 0xC1) (dec_le a 0xDF) (dec_le a 0xEF) (dec_le a 0xF4)

-- ── reading a sequence at a place
-- a row against the bytes, past whose end stands 0
fits_byte : (lo hi : ℕ) (row : List (ℕ × ℕ)) (s : List ℕ) → 0 < lo → fits_row ((lo, hi) ∷ row) s ≡ (within lo hi (get_or s 0 0) && fits_row row (drop 1 s))
fits_byte lo hi row [] h = sym (and_no _ _ (within_below lo hi 0 h))
fits_byte lo hi row (b ∷ s) h = refl

pub low_positive : (a : ℕ) → 0x80 ≤ second_low a
low_positive a =
    either (eqb a 0xE0) (λ e. rw (number_yes (eqb a 0xE0) 0xA0 (pick_number (eqb a 0xF0) 0x90 0x80) e) (omega arith))
    (λ e. rw (number_no (eqb a 0xE0) 0xA0 (pick_number (eqb a 0xF0) 0x90 0x80) e)
    (either (eqb a 0xF0) (λ f. rw (number_yes (eqb a 0xF0) 0x90 0x80 f) (omega arith)) (λ f. rw (number_no (eqb a 0xF0) 0x90 0x80 f) (omega arith))))

-- the width of a sequence, by what its first byte begins
module _ (a : ℕ) (s : List ℕ) where
  width_one : First a → a ≤ 0x7F → width_at (a ∷ s) ≡ 1
  width_one (one h w) k = w s
  width_one (two h l w) k = absurd (omega arith)
  width_one (three h l w) k = absurd (omega arith)
  width_one (four h l w) k = absurd (omega arith)
  width_one (nothing n w) k = absurd (n.0 k)

  width_two : First a → 0xC2 ≤ a → a ≤ 0xDF → width_at (a ∷ s) ≡ pick_number (within 0x80 0xBF (get_or s 0 0)) 2 0
  width_two (one h w) k l = absurd (omega arith)
  width_two (two h g w) k l = w s ∙ ap (λ (b : Bool). pick_number b 2 0) (fits_byte 0x80 0xBF [] s (omega arith) ∙ and_true (within 0x80 0xBF (get_or s 0 0)))
  width_two (three h g w) k l = absurd (omega arith)
  width_two (four h g w) k l = absurd (omega arith)
  width_two (nothing n w) k l = absurd (n.1 k (omega arith))

  width_three : First a → 0xE0 ≤ a → a ≤ 0xEF → width_at (a ∷ s) ≡ pick_number (within (second_low a) (second_high a) (get_or s 0 0) && within 0x80 0xBF (get_or (drop 1 s) 0 0)) 3 0
  width_three (one h w) k l = absurd (omega arith)
  width_three (two h g w) k l = absurd (omega arith)
  width_three (three h g w) k l =
      w s ∙ ap (λ (b : Bool). pick_number b 3 0) (fits_byte (second_low a) (second_high a) (later ∷ []) s (omega (arith, low_positive a))
      ∙ ap (λ (b : Bool). within (second_low a) (second_high a) (get_or s 0 0) && b) (fits_byte 0x80 0xBF [] (drop 1 s) (omega arith) ∙ and_true (within 0x80 0xBF (get_or (drop 1 s) 0 0))))
  width_three (four h g w) k l = absurd (omega arith)
  width_three (nothing n w) k l = absurd (n.1 (omega arith) (omega arith))

  width_four : First a → 0xF0 ≤ a → a ≤ 0xF4 → width_at (a ∷ s) ≡ pick_number (within (second_low a) (second_high a) (get_or s 0 0) && (within 0x80 0xBF (get_or (drop 1 s) 0 0) && within 0x80 0xBF (get_or (drop 1 (drop 1 s)) 0 0))) 4 0
  width_four (one h w) k l = absurd (omega arith)
  width_four (two h g w) k l = absurd (omega arith)
  width_four (three h g w) k l = absurd (omega arith)
  width_four (four h g w) k l =
      w s ∙ ap (λ (b : Bool). pick_number b 4 0) (fits_byte (second_low a) (second_high a) (later ∷ later ∷ []) s (omega (arith, low_positive a))
      ∙ ap (λ (b : Bool). within (second_low a) (second_high a) (get_or s 0 0) && b) (fits_byte 0x80 0xBF (later ∷ []) (drop 1 s) (omega arith)
      ∙ ap (λ (b : Bool). within 0x80 0xBF (get_or (drop 1 s) 0 0) && b) (fits_byte 0x80 0xBF [] (drop 1 (drop 1 s)) (omega arith) ∙ and_true (within 0x80 0xBF (get_or (drop 1 (drop 1 s)) 0 0)))))
  width_four (nothing n w) k l = absurd (n.1 (omega arith) l)

  width_nothing : First a → (a ≤ 0x7F → ⊥) → (0xC2 ≤ a → a ≤ 0xF4 → ⊥) → width_at (a ∷ s) ≡ 0
  width_nothing (one h w) k l = absurd (k h)
  width_nothing (two h g w) k l = absurd (l h (omega arith))
  width_nothing (three h g w) k l = absurd (l (omega arith) (omega arith))
  width_nothing (four h g w) k l = absurd (l (omega arith) g)
  width_nothing (nothing n w) k l = w s

  -- the code point, by the width
  point_is : (n : ℕ) → width_at (a ∷ s) ≡ n → point_at (a ∷ s) ≡ trailing (leading n a) (take (n - 1) s)
  unfolding point_at
  point_is n e = rw e

-- the bytes behind a first one, where there are enough
take_one : (s : List ℕ) → 0 < get_or s 0 0 → take 1 s ≡ get_or s 0 0 ∷ []
take_one [] h = absurd (omega arith)
take_one (b ∷ s) h = refl

take_two : (s : List ℕ) → 0 < get_or s 0 0 → 0 < get_or (drop 1 s) 0 0 → take 2 s ≡ get_or s 0 0 ∷ get_or (drop 1 s) 0 0 ∷ []
take_two [] h k = absurd (omega arith)
take_two (b ∷ []) h k = absurd (omega arith)
take_two (b ∷ c ∷ s) h k = refl

take_three : (s : List ℕ) → 0 < get_or s 0 0 → 0 < get_or (drop 1 s) 0 0 → 0 < get_or (drop 1 (drop 1 s)) 0 0 → take 3 s ≡ get_or s 0 0 ∷ get_or (drop 1 s) 0 0 ∷ get_or (drop 1 (drop 1 s)) 0 0 ∷ []
take_three [] h k l = absurd (omega arith)
take_three (b ∷ []) h k l = absurd (omega arith)
take_three (b ∷ c ∷ []) h k l = absurd (omega arith)
take_three (b ∷ c ∷ d ∷ s) h k l = refl

-- what the code reads at a place, where a, b, c, d are the bytes there
module _ (s : List ℕ) (at : ℕ) (h : at < length s) where
  abbrev rest : List ℕ
  rest = drop (suc at) s

  abbrev a : ℕ
  a = get_or s at 0

  here : drop at s ≡ a ∷ rest
  here = drop-cons s at 0 h

  second_byte : get_or rest 0 0 ≡ get_or s (at + 1) 0
  second_byte = rw (get_or-drop, add-one, add-zero)

  third_byte : get_or (drop 1 rest) 0 0 ≡ get_or s (at + 2) 0
  third_byte = rw (drop-drop, get_or-drop) (ap (λ (k : ℕ). get_or s k 0) (let e : suc at + 1 + 0 ≡ at + 2 = omega arith in e))

  fourth_byte : get_or (drop 1 (drop 1 rest)) 0 0 ≡ get_or s (at + 3) 0
  fourth_byte = rw (drop-drop, drop-drop, get_or-drop) (ap (λ (k : ℕ). get_or s k 0) (let e : suc at + 2 + 0 ≡ at + 3 = omega arith in e))

  sized : (n x : ℕ) → 0 < n → width_at (a ∷ rest) ≡ n → x ≡ trailing (leading n a) (take (n - 1) rest) → SequenceOf (drop at s) n x
  sized n x k w p = record { some = k; wide = sym (ap width_at here ∙ w); read = p ∙ sym (ap point_at here ∙ point_is a rest n w) }

  none_here : width_at (a ∷ rest) ≡ 0 → width_at (drop at s) ≡ 0
  none_here w = ap width_at here ∙ w

  pub read_one : a ≤ 0x7F → SequenceOf (drop at s) 1 a
  read_one k = sized 1 a (omega arith) (width_one a rest (first a) k) refl

  pub read_none : (a ≤ 0x7F → ⊥) → (0xC2 ≤ a → a ≤ 0xF4 → ⊥) → width_at (drop at s) ≡ 0
  read_none k l = none_here (width_nothing a rest (first a) k l)

  module _ (b : ℕ) (eb : b ≡ get_or s (at + 1) 0) where
    b_is : get_or rest 0 0 ≡ b
    b_is = second_byte ∙ sym eb

    module _ (lo : 0xC2 ≤ a) (hi : a ≤ 0xDF) where
      two_width : width_at (a ∷ rest) ≡ pick_number (within 0x80 0xBF b) 2 0
      two_width = width_two a rest (first a) lo hi ∙ ap (λ (x : ℕ). pick_number (within 0x80 0xBF x) 2 0) b_is

      pub read_two : within 0x80 0xBF b ≡ true → SequenceOf (drop at s) 2 (a % 32 * 64 + b % 64)
      read_two e =
          sized 2 _ (omega arith) (two_width ∙ number_yes _ _ _ e)
          (let z : 0 < get_or rest 0 0 = omega (arith, b_is, within_is 0x80 0xBF b e) in rw (take_one rest z, b_is))

      pub read_two_not : within 0x80 0xBF b ≡ false → width_at (drop at s) ≡ 0
      read_two_not e = none_here (two_width ∙ number_no _ _ _ e)

    module _ (c : ℕ) (ec : c ≡ get_or s (at + 2) 0) where
      c_is : get_or (drop 1 rest) 0 0 ≡ c
      c_is = third_byte ∙ sym ec

      module _ (lo : 0xE0 ≤ a) (hi : a ≤ 0xEF) where
        three_width : width_at (a ∷ rest) ≡ pick_number (within (second_low a) (second_high a) b && within 0x80 0xBF c) 3 0
        three_width = width_three a rest (first a) lo hi ∙ ap₂ (λ (x y : ℕ). pick_number (within (second_low a) (second_high a) x && within 0x80 0xBF y) 3 0) b_is c_is

        pub read_three : (within (second_low a) (second_high a) b && within 0x80 0xBF c) ≡ true → SequenceOf (drop at s) 3 (a % 16 * 4096 + b % 64 * 64 + c % 64)
        read_three g =
            let e = and_left (within (second_low a) (second_high a) b) (within 0x80 0xBF c) g in
            let f = and_right (within (second_low a) (second_high a) b) (within 0x80 0xBF c) g in
            let z : 0 < get_or rest 0 0 = omega (arith, b_is, within_is (second_low a) (second_high a) b e, low_positive a) in
            let y : 0 < get_or (drop 1 rest) 0 0 = omega (arith, c_is, within_is 0x80 0xBF c f) in
            sized 3 _ (omega arith) (three_width ∙ number_yes _ _ _ g) (rw (take_two rest z y, b_is, c_is) (omega arith))

        pub read_three_not : (within (second_low a) (second_high a) b && within 0x80 0xBF c) ≡ false → width_at (drop at s) ≡ 0
        read_three_not e = none_here (three_width ∙ number_no _ _ _ e)

      module _ (d : ℕ) (ed : d ≡ get_or s (at + 3) 0) (lo : 0xF0 ≤ a) (hi : a ≤ 0xF4) where
        d_is : get_or (drop 1 (drop 1 rest)) 0 0 ≡ d
        d_is = fourth_byte ∙ sym ed

        abbrev others : Bool
        others = within (second_low a) (second_high a) b && (within 0x80 0xBF c && within 0x80 0xBF d)

        four_width : width_at (a ∷ rest) ≡ pick_number others 4 0
        four_width =
            width_four a rest (first a) lo hi ∙ rw (b_is, c_is, d_is)

        pub read_four : others ≡ true → SequenceOf (drop at s) 4 (a % 8 * 262144 + b % 64 * 4096 + c % 64 * 64 + d % 64)
        read_four o =
            let e = and_left (within (second_low a) (second_high a) b) (within 0x80 0xBF c && within 0x80 0xBF d) o in
            let r = and_right (within (second_low a) (second_high a) b) (within 0x80 0xBF c && within 0x80 0xBF d) o in
            let f = and_left (within 0x80 0xBF c) (within 0x80 0xBF d) r in
            let g = and_right (within 0x80 0xBF c) (within 0x80 0xBF d) r in
            let z : 0 < get_or rest 0 0 = omega (arith, b_is, within_is (second_low a) (second_high a) b e, low_positive a) in
            let y : 0 < get_or (drop 1 rest) 0 0 = omega (arith, c_is, within_is 0x80 0xBF c f) in
            let x : 0 < get_or (drop 1 (drop 1 rest)) 0 0 = omega (arith, d_is, within_is 0x80 0xBF d g) in
            sized 4 _ (omega arith) (four_width ∙ number_yes _ _ _ o) (rw (take_three rest z y x, b_is, c_is, d_is) (omega arith))

        pub read_four_not : others ≡ false → width_at (drop at s) ≡ 0
        read_four_not e = none_here (four_width ∙ number_no _ _ _ e)

-- what is read where a test says that the bytes are a sequence, and nothing elsewhere
pub read_if : (s : List ℕ) (b : Bool) (x : Sequence) → (b ≡ true → SequenceOf s x.width x.point) → (b ≡ false → width_at s ≡ 0) → ReadOf s (then_some b x)
read_if s true x p q = p refl
read_if s false x p q = q refl
