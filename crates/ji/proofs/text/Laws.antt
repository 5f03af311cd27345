-- Laws of beginnings and of replace-all, each over any pattern p and replacement r.
use mathlib.Core.Path.{◌≡◌, refl, sym, ap, ap₂, ◌∙◌}
use mathlib.Core.Bool.{Bool, true, false, ◌&&◌}
use mathlib.Core.List.{List, [], ◌∷◌, ◌++◌, append_assoc}
use Prim.Native.Nat.{ℕ, zero, suc, ◌+◌, ◌*◌, ◌≤◌, ◌<◌, suc-le-suc}
use native.Mathlib.Nat.{suc-sub-suc, sub-zero, mul-add, mul-suc}
use native.Mathlib.Numerals.{add-one}
use native.Mathlib.Decide.{ℕ_discrete, dec_lt}
use native.Mathlib.Omega.{arith}
use borrow.Author.Tests.{eqb-true, eq-eqb, ne_eqb}
use lib.Dec.{eqb}
use lib.ListN.{length, take, drop, get_or, drop_of_length-le, length-append, length-drop}
use lib.Seq.{drop-cons, drop-drop}
use Rattle.std.specs.Char.{to_ascii_lowercase}
use Rattle.std.specs.Cmp.Lexicographic.{pointwise}
use Rattle.std.specs.List.{starts_with}
use Rattle.std.proofs.lemmas.Str.Ascii.{lowercase_is}
use Rattle.ji.specs.Text.{lower, begins, replace_from, replace_all}
use Rattle.ji.proofs.Bools.{false_true, either, and_false, and_true, and_yes, and_left, and_right, text_yes, text_no, number_yes, number_no, within_yes, within_below, within_above}

-- a text from i on begins with its element at i
pub drop_next : (s : List ℕ) (i : ℕ) → i < length s → drop i s ≡ get_or s i 0 ∷ drop (i + 1) s
drop_next s i more = rw (add-one i) (drop-cons s i 0 more)

-- ── letters in lower case
module _ (x : ℕ) where
  pub lower_letter : 65 ≤ x → x ≤ 90 → x + 32 ≡ lower x
  unfolding lower
  lower_letter h k = sym (number_yes _ _ _ (within_yes 65 90 x h k))

  pub lower_small : x < 65 → x ≡ lower x
  unfolding lower
  lower_small h = sym (number_no _ _ _ (within_below 65 90 x h))

  pub lower_large : 90 < x → x ≡ lower x
  unfolding lower
  lower_large h = sym (number_no _ _ _ (within_above 65 90 x h))

  -- a byte in lower case, as std has it
  pub lower_ascii : to_ascii_lowercase x ≡ lower x
  lower_ascii = by_range (dec_lt x 65) (dec_lt 90 x)
    where
      by_range : Dec (x < 65) → Dec (90 < x) → to_ascii_lowercase x ≡ lower x
      by_range (yes h) d = (lowercase_is x).1 h ∙ lower_small h
      by_range (no h) (yes k) = (lowercase_is x).2 k ∙ lower_large k
      by_range (no h) (no k) = (lowercase_is x).0 (omega arith, omega arith) ∙ lower_letter (omega arith) (omega arith)

-- ── beginnings, as std has them
eqb_comm : (x y : ℕ) → eqb x y ≡ eqb y x
eqb_comm x y = either (eqb x y) (λ e. e ∙ sym (eq-eqb y x (sym (eqb-true x y e)))) (λ e. e ∙ sym (ne_eqb y x (λ k. false_true (sym e ∙ eq-eqb x y (sym k)))))

begins_pointwise : (p s : List ℕ) → pointwise eqb p (take (length p) s) ≡ begins p s
unfolding begins
begins_pointwise [] [] = refl
begins_pointwise [] (x ∷ s) = refl
begins_pointwise (a ∷ p) [] = refl
begins_pointwise (a ∷ p) (x ∷ s) = ap₂ ◌&&◌ (eqb_comm a x) (begins_pointwise p s)

pub begins_with : (s p : List ℕ) → starts_with eqb s p ≡ begins p s
begins_with s p = begins_pointwise p s

-- ── beginnings
-- a text that is shorter than a pattern does not begin with it
pub begins_short : (p s : List ℕ) → length s < length p → begins p s ≡ false
unfolding begins
begins_short [] s h = absurd (omega arith)
begins_short (a ∷ p) [] h = refl
begins_short (a ∷ p) (x ∷ s) h = ap (λ (b : Bool). eqb x a && b) (begins_short p s (omega arith)) ∙ and_false (eqb x a)

pub begins_length : (p s : List ℕ) → begins p s ≡ true → length p ≤ length s
unfolding begins
begins_length [] s e = omega arith
begins_length (a ∷ p) [] e = absurd (false_true e)
begins_length (a ∷ p) (x ∷ s) e = suc-le-suc (begins_length p s (and_right (eqb x a) (begins p s) e))

-- a text that begins with p is p and the rest
pub begins_split : (p s : List ℕ) → begins p s ≡ true → s ≡ p ++ drop (length p) s
unfolding begins
begins_split [] s e = refl
begins_split (a ∷ p) [] e = absurd (false_true e)
begins_split (a ∷ p) (x ∷ s) e =
    ap₂ ◌∷◌ (eqb-true x a (and_left (eqb x a) (begins p s) e)) (begins_split p s (and_right (eqb x a) (begins p s) e))

pub begins_own : (p s : List ℕ) → begins p (p ++ s) ≡ true
unfolding begins
begins_own [] s = refl
begins_own (a ∷ p) s = and_yes (eqb a a) (begins p (p ++ s)) (eq-eqb a a refl) ∙ begins_own p s

-- a pattern of one code point
pub begins_point : (a x : ℕ) (s : List ℕ) → begins (a ∷ []) (x ∷ s) ≡ eqb x a
unfolding begins
begins_point a x s = and_true (eqb x a)

-- ── replace-all, at the front of a text and at a place
-- the rest of an occurrence is dropped
skipped : (p r : List ℕ) (k : ℕ) (s : List ℕ) → replace_from p r k s ≡ replace_all p r (drop k s)
unfolding replace_from replace_all
skipped p r zero s = refl
skipped p r (suc k) [] = refl
skipped p r (suc k) (x ∷ s) = skipped p r k s

pub replace_nil : (p r : List ℕ) → replace_all p r [] ≡ []
unfolding replace_from replace_all
replace_nil p r = refl

pub replace_hit : (p r : List ℕ) (x : ℕ) (s : List ℕ) → 0 < length p → begins p (x ∷ s) ≡ true → replace_all p r (x ∷ s) ≡ r ++ replace_all p r (drop (length p) (x ∷ s))
unfolding replace_from replace_all
replace_hit [] r x s some e = absurd (omega arith)
replace_hit (a ∷ p) r x s some e =
    text_yes (begins (a ∷ p) (x ∷ s)) _ _ e
    ∙ ap (λ (t : List ℕ). r ++ t) (ap (λ (k : ℕ). replace_from (a ∷ p) r k s) (suc-sub-suc (length p) 0 ∙ sub-zero (length p)) ∙ skipped (a ∷ p) r (length p) s)

pub replace_miss : (p r : List ℕ) (x : ℕ) (s : List ℕ) → begins p (x ∷ s) ≡ false → replace_all p r (x ∷ s) ≡ x ∷ replace_all p r s
unfolding replace_from replace_all
replace_miss p r x s e = text_no (begins p (x ∷ s)) _ _ e

module _ (p r s : List ℕ) (i : ℕ) where
  pub replace_at_hit : 0 < length p → i < length s → begins p (drop i s) ≡ true → replace_all p r (drop i s) ≡ r ++ replace_all p r (drop (i + length p) s)
  replace_at_hit some more e =
      let here = drop_next s i more in
      ap (replace_all p r) here
      ∙ replace_hit p r (get_or s i 0) (drop (i + 1) s) some (ap (begins p) (sym here) ∙ e)
      ∙ ap (λ (t : List ℕ). r ++ replace_all p r t) (ap (drop (length p)) (sym here) ∙ drop-drop (length p) i s)

  pub replace_at_miss : i < length s → begins p (drop i s) ≡ false → replace_all p r (drop i s) ≡ get_or s i 0 ∷ replace_all p r (drop (i + 1) s)
  replace_at_miss more e =
      let here = drop_next s i more in
      ap (replace_all p r) here ∙ replace_miss p r (get_or s i 0) (drop (i + 1) s) (ap (begins p) (sym here) ∙ e)

  pub replace_end : length s ≤ i → replace_all p r (drop i s) ≡ []
  replace_end done = ap (replace_all p r) (drop_of_length-le s done) ∙ replace_nil p r

-- ── replace-all of a whole text
-- no place of the text begins with the pattern: the text stays
pub replace_none : (p r s : List ℕ) → ((i : ℕ) → i < length s → begins p (drop i s) ≡ false) → replace_all p r s ≡ s
replace_none p r [] h = replace_nil p r
replace_none p r (x ∷ s) h = replace_miss p r x s (h 0 (omega arith)) ∙ ap (λ (t : List ℕ). x ∷ t) (replace_none p r s (λ i k. h (suc i) (suc-le-suc k)))

-- so does one that is shorter than the pattern
pub replace_short : (p r s : List ℕ) → length s < length p → replace_all p r s ≡ s
replace_short p r s h = replace_none p r s (λ i k. begins_short p (drop i s) (simp length-drop (omega arith)))

-- the induction that replace-all goes by: what holds of the empty text, and of a text if it holds behind an occurrence or behind one code
-- point, holds of every text
module _ (p : List ℕ) (some : 0 < length p) (P : List ℕ → Type 0) (nil : P [])
    (hit : (x : ℕ) (s : List ℕ) → begins p (x ∷ s) ≡ true → P (drop (length p) (x ∷ s)) → P (x ∷ s))
    (miss : (x : ℕ) (s : List ℕ) → begins p (x ∷ s) ≡ false → P s → P (x ∷ s)) where
  up_to : (n : ℕ) (s : List ℕ) → length s ≤ n → P s
  up_to zero [] h = nil
  up_to zero (x ∷ s) h = absurd (omega arith)
  up_to (suc n) [] h = nil
  up_to (suc n) (x ∷ s) h =
      either (begins p (x ∷ s))
      (λ e. hit x s e (up_to n (drop (length p) (x ∷ s)) (omega (arith, length-drop (length p) (x ∷ s)))))
      (λ e. miss x s e (up_to n s (omega arith)))

  pub replace_induction : (s : List ℕ) → P s
  replace_induction s = up_to (length s) s (omega arith)

module _ (p r : List ℕ) (some : 0 < length p) where
  -- the length at an occurrence
  hit_length : (x : ℕ) (s : List ℕ) → begins p (x ∷ s) ≡ true → length (replace_all p r (x ∷ s)) ≡ length r + length (replace_all p r (drop (length p) (x ∷ s)))
  hit_length x s e = ap length (replace_hit p r x s some e) ∙ length-append r (replace_all p r (drop (length p) (x ∷ s)))

  -- an occurrence and the text behind it
  hit_split : (x : ℕ) (s : List ℕ) → begins p (x ∷ s) ≡ true → length p + length (drop (length p) (x ∷ s)) ≡ suc (length s)
  hit_split x s e = omega (arith, length-drop (length p) (x ∷ s), begins_length p (x ∷ s) e)

  pub replace_same_length : length r ≡ length p → (s : List ℕ) → length (replace_all p r s) ≡ length s
  replace_same_length same =
      replace_induction p some (λ (s : List ℕ). length (replace_all p r s) ≡ length s) (ap length (replace_nil p r))
      (λ x s e ih. omega (arith, hit_length x s e, ih, hit_split x s e))
      (λ x s e ih. ap length (replace_miss p r x s e) ∙ ap suc ih)

  -- a replacement at most k times as long as its pattern makes a text at most k times as long
  pub replace_growth : (k : ℕ) → 1 ≤ k → length r ≤ k * length p → (s : List ℕ) → length (replace_all p r s) ≤ k * length s
  replace_growth k one most =
      replace_induction p some (λ (s : List ℕ). length (replace_all p r s) ≤ k * length s) (rw (replace_nil p r) (omega arith))
      (λ x s e ih. omega (arith, hit_length x s e, ih, mul-add k (length p) (length (drop (length p) (x ∷ s))), ap (λ (m : ℕ). k * m) (hit_split x s e)))
      (λ x s e ih. omega (arith, ap length (replace_miss p r x s e), ih, mul-suc k (length s)))

-- ── patterns of one code point
abbrev point_length : (a : ℕ) → 0 < length (a ∷ [])
point_length a = omega arith

module _ (a : ℕ) (r : List ℕ) where
  pub replace_point : (x : ℕ) (s : List ℕ) → x ≡ a → replace_all (a ∷ []) r (x ∷ s) ≡ r ++ replace_all (a ∷ []) r s
  replace_point x s e = replace_hit (a ∷ []) r x s (point_length a) (begins_point a x s ∙ eq-eqb x a e)

  pub replace_other : (x : ℕ) (s : List ℕ) → (x ≡ a → ⊥) → replace_all (a ∷ []) r (x ∷ s) ≡ x ∷ replace_all (a ∷ []) r s
  replace_other x s ne = replace_miss (a ∷ []) r x s (begins_point a x s ∙ ne_eqb x a ne)

  -- no occurrence lies across a seam
  pub replace_append : (s t : List ℕ) → replace_all (a ∷ []) r (s ++ t) ≡ replace_all (a ∷ []) r s ++ replace_all (a ∷ []) r t
  replace_append s t =
      replace_induction (a ∷ []) (point_length a) (λ (s : List ℕ). replace_all (a ∷ []) r (s ++ t) ≡ replace_all (a ∷ []) r s ++ replace_all (a ∷ []) r t)
      (rw (replace_nil (a ∷ []) r))
      (λ x s e ih.
      replace_hit (a ∷ []) r x (s ++ t) (point_length a) (begins_point a x (s ++ t) ∙ sym (begins_point a x s) ∙ e)
      ∙ rw (replace_hit (a ∷ []) r x s (point_length a) e, append_assoc) (ap (λ (u : List ℕ). r ++ u) ih))
      (λ x s e ih.
      replace_miss (a ∷ []) r x (s ++ t) (begins_point a x (s ++ t) ∙ sym (begins_point a x s) ∙ e)
      ∙ rw (replace_miss (a ∷ []) r x s e) (ap (λ (u : List ℕ). x ∷ u) ih))
      s

-- two passes: one for a, and then one for b
abbrev pub replace_points : ℕ → List ℕ → ℕ → List ℕ → List ℕ → List ℕ
replace_points a q b r s = replace_all (b ∷ []) r (replace_all (a ∷ []) q s)

-- they go as one pass where the second would leave what the first puts in: each code point becomes q, r, or itself
module _ (a : ℕ) (q : List ℕ) (b : ℕ) (r : List ℕ) (apart : replace_all (b ∷ []) r q ≡ q) where
  pub points_first : (x : ℕ) (s : List ℕ) → x ≡ a → replace_points a q b r (x ∷ s) ≡ q ++ replace_points a q b r s
  points_first x s e =
      ap (replace_all (b ∷ []) r) (replace_point a q x s e)
      ∙ replace_append b r q (replace_all (a ∷ []) q s)
      ∙ ap (λ (t : List ℕ). t ++ replace_points a q b r s) apart

  pub points_second : (x : ℕ) (s : List ℕ) → (x ≡ a → ⊥) → x ≡ b → replace_points a q b r (x ∷ s) ≡ r ++ replace_points a q b r s
  points_second x s ne e = ap (replace_all (b ∷ []) r) (replace_other a q x s ne) ∙ replace_point b r x (replace_all (a ∷ []) q s) e

  pub points_other : (x : ℕ) (s : List ℕ) → (x ≡ a → ⊥) → (x ≡ b → ⊥) → replace_points a q b r (x ∷ s) ≡ x ∷ replace_points a q b r s
  points_other x s ne ne' = ap (replace_all (b ∷ []) r) (replace_other a q x s ne) ∙ replace_other b r x (replace_all (a ∷ []) q s) ne'

  -- so the two together make a text at most k times as long, and not k * k times
  module _ (k : ℕ) (one : 1 ≤ k) (most : length q ≤ k) (most' : length r ≤ k) where
    points_step : (x : ℕ) (s : List ℕ) → length (replace_points a q b r s) ≤ k * length s → Dec (x ≡ a) → Dec (x ≡ b) → length (replace_points a q b r (x ∷ s)) ≤ k * suc (length s)
    points_step x s ih (yes e) d = rw (points_first x s e, length-append) (omega (arith, ih, mul-suc k (length s)))
    points_step x s ih (no ne) (yes e) = rw (points_second x s ne e, length-append) (omega (arith, ih, mul-suc k (length s)))
    points_step x s ih (no ne) (no ne') = rw (points_other x s ne ne') (omega (arith, ih, mul-suc k (length s)))

    pub points_growth : (s : List ℕ) → length (replace_points a q b r s) ≤ k * length s
    points_growth [] = rw (replace_nil (a ∷ []) q, replace_nil (b ∷ []) r) (omega arith)
    points_growth (x ∷ s) = points_step x s (points_growth s) (ℕ_discrete x a) (ℕ_discrete x b)
