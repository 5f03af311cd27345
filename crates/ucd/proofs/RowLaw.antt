-- A table in rows of 32 numbers gives what a search of its entries gives: one law, for any rows. Assumes nothing.
use mathlib.Core.Path.{◌≡◌, refl, sym, ◌∙◌, ap}
use mathlib.Core.Bool.{Bool, true, ◌&&◌}
use mathlib.Core.List.{List, [], ◌∷◌}
use Prim.Native.Nat.{ℕ, zero, suc, ◌+◌, ◌*◌, ◌/◌, ◌%◌, ◌<◌, ◌≤◌}
use native.Mathlib.Omega.{arith}
use lib.Dec.{T, leb, ltb, eqb, leb→le}
use lib.ListN.{length, get_or}
use borrow.Author.Tests.{ltb-true, ltb-false, eqb-true, eqb-false, eq-eqb, ne_eqb}
use types.Run.{OneOf}
use Rattle.ucd.specs.Table.{class_in, pick_text}
use Rattle.ucd.proofs.Tests.{either, both_left, both_right}

-- the row of a number, the empty one where there is none
abbrev pub row_in : List (ℕ × List ℕ) → ℕ → List ℕ
row_in [] k = []
row_in (r ∷ rs) k = let rest = row_in rs k in pick_text (eqb r.0 k) r.1 rest

-- what the rows hold at n
abbrev pub number_at : List (ℕ × List ℕ) → ℕ → ℕ
number_at rs n = get_or (row_in rs (n / 32)) (n % 32) 0

-- the entries of a row whose first place is n, each with its place, those that are 0 left out; and then others
abbrev pub entries_of : ℕ → List ℕ → List (ℕ × ℕ) → List (ℕ × ℕ)
entries_of n [] others = others
entries_of n (zero ∷ xs) others = entries_of (suc n) xs others
entries_of n (suc x ∷ xs) others = (n, suc x) ∷ entries_of (suc n) xs others

-- the entries of all rows
abbrev pub entries : List (ℕ × List ℕ) → List (ℕ × ℕ)
entries [] = []
entries (r ∷ rs) = entries_of (r.0 * 32) r.1 (entries rs)

-- the rows' numbers ascend from k, and no row is longer than 32
abbrev pub ascending : ℕ → List (ℕ × List ℕ) → Bool
ascending k [] = true
ascending k (r ∷ rs) = leb k r.0 && (leb (length r.1) 32 && ascending (suc r.0) rs)

-- the first entry is that of c, or it is another's
found : (n v c : ℕ) (es : List (ℕ × ℕ)) → n ≡ c → class_in ((n, v) ∷ es) c ≡ v
unfolding class_in
found n v c es e = rw (eq-eqb n c e)

missed : (n v c : ℕ) (es : List (ℕ × ℕ)) → (n ≡ c → ⊥) → class_in ((n, v) ∷ es) c ≡ class_in es c
unfolding class_in
missed n v c es e = rw (ne_eqb n c e)

-- a number below the row
below : (n : ℕ) (xs : List ℕ) (others : List (ℕ × ℕ)) (c : ℕ) → c < n → class_in (entries_of n xs others) c ≡ class_in others c
below n [] others c h = refl
below n (zero ∷ xs) others c h = below (suc n) xs others c (omega arith)
below n (suc x ∷ xs) others c h =
    missed n (suc x) c (entries_of (suc n) xs others) (omega arith) ∙ below (suc n) xs others c (omega arith)

-- a number above the row
above : (n : ℕ) (xs : List ℕ) (others : List (ℕ × ℕ)) (c : ℕ) → n + length xs ≤ c → class_in (entries_of n xs others) c ≡ class_in others c
above n [] others c h = refl
above n (zero ∷ xs) others c h = above (suc n) xs others c (omega arith)
above n (suc x ∷ xs) others c h =
    missed n (suc x) c (entries_of (suc n) xs others) (omega arith) ∙ above (suc n) xs others c (omega arith)

-- a number of the row
within : (n : ℕ) (xs : List ℕ) (others : List (ℕ × ℕ)) (i c : ℕ) → n + i ≡ c → class_in others c ≡ 0 → class_in (entries_of n xs others) c ≡ get_or xs i 0
within n [] others i c e h = h
within n (zero ∷ xs) others zero c e h = below (suc n) xs others c (omega arith) ∙ h
within n (zero ∷ xs) others (suc i) c e h = within (suc n) xs others i c (omega arith) h
within n (suc x ∷ xs) others zero c e h = found n (suc x) c (entries_of (suc n) xs others) (omega arith)
within n (suc x ∷ xs) others (suc i) c e h =
    missed n (suc x) c (entries_of (suc n) xs others) (omega arith) ∙ within (suc n) xs others i c (omega arith) h

-- what the order of the rows says of the first, and of the rest
module _ (k : ℕ) (r : ℕ × List ℕ) (rs : List (ℕ × List ℕ)) (h : T (ascending k (r ∷ rs))) where
  first_at_least : k ≤ r.0
  first_at_least = leb→le k r.0 (both_left (leb k r.0) (leb (length r.1) 32 && ascending (suc r.0) rs) h)

  short : length r.1 ≤ 32
  short =
      leb→le (length r.1) 32
      (both_left (leb (length r.1) 32) (ascending (suc r.0) rs)
      (both_right (leb k r.0) (leb (length r.1) 32 && ascending (suc r.0) rs) h))

  rest_ascends : T (ascending (suc r.0) rs)
  rest_ascends =
      both_right (leb (length r.1) 32) (ascending (suc r.0) rs)
      (both_right (leb k r.0) (leb (length r.1) 32 && ascending (suc r.0) rs) h)

-- what lies below every row has no entry
below_all : (k : ℕ) (rs : List (ℕ × List ℕ)) → T (ascending k rs) → (c : ℕ) → c / 32 < k → class_in (entries rs) c ≡ 0
unfolding class_in
below_all k [] h c l = refl
below_all k (r ∷ rs) h c l =
    let m : k ≤ r.0 = first_at_least k r rs h in
    below (r.0 * 32) r.1 (entries rs) c (omega arith) ∙ below_all (suc r.0) rs (rest_ascends k r rs h) c (omega arith)

-- the rows hold at each number what a search of their entries finds
pub number_at_law : (k : ℕ) (rs : List (ℕ × List ℕ)) → T (ascending k rs) → (c : ℕ) → number_at rs c ≡ class_in (entries rs) c
unfolding class_in
number_at_law k [] h c = refl
number_at_law k (r ∷ rs) h c =
    either (eqb r.0 (c / 32))
    (λ e. let n : r.0 ≡ c / 32 = eqb-true r.0 (c / 32) e in
    rw e (sym (within (r.0 * 32) r.1 (entries rs) (c % 32) c (omega arith)
    (below_all (suc r.0) rs (rest_ascends k r rs h) c (omega arith)))))
    (λ e. let n : r.0 ≡ c / 32 → ⊥ = eqb-false r.0 (c / 32) e in
    rw e (number_at_law (suc r.0) rs (rest_ascends k r rs h) c ∙ sym (beside n)))
  where
    beside : (r.0 ≡ c / 32 → ⊥) → class_in (entries_of (r.0 * 32) r.1 (entries rs)) c ≡ class_in (entries rs) c
    beside n =
        either (ltb (c / 32) r.0)
        (λ e. let l : c / 32 < r.0 = ltb-true (c / 32) r.0 e in below (r.0 * 32) r.1 (entries rs) c (omega arith))
        (λ e. let l : r.0 ≤ c / 32 = ltb-false (c / 32) r.0 e in
        let s : length r.1 ≤ 32 = short k r rs h in
        above (r.0 * 32) r.1 (entries rs) c (omega arith))

-- what an arm of a match on n / 32 reads
pub row_read : (rs : List (ℕ × List ℕ)) (n k : ℕ) → n / 32 ≡ k → get_or (row_in rs k) (n % 32) 0 ≡ number_at rs n
row_read rs n k e = ap (λ (m : ℕ). get_or (row_in rs m) (n % 32) 0) (sym e)

-- A holds, and k is the number of no row, as a match tells its last arm
abbrev pub NoRow : Type 0 → List (ℕ × List ℕ) → ℕ → Type 0
NoRow A [] k = A
NoRow A (r ∷ rs) k = NoRow (A × (OneOf (r.0 ∷ []) k → ⊥)) rs k

-- then A holds, and there is no such row
no_row : (A : Type 0) (rs : List (ℕ × List ℕ)) (k : ℕ) → NoRow A rs k → A × (row_in rs k ≡ [])
no_row A [] k h = (h, refl)
no_row A (r ∷ rs) k h =
    let (before, after) = no_row (A × (OneOf (r.0 ∷ []) k → ⊥)) rs k h in
    (before.0, rw (ne_eqb r.0 k (λ e. before.1 (sym e))) after)

-- so the last arm's 0 is what the rows hold
pub no_row_read : (rs : List (ℕ × List ℕ)) (n : ℕ) → NoRow (Unit {0}) rs (n / 32) → 0 ≡ number_at rs n
no_row_read rs n h = rw (no_row (Unit {0}) rs (n / 32) h).1
