-- Decoding, one sequence at a time.
use mathlib.Core.Path.{◌≡◌, refl, sym, ap, ◌∙◌, subst}
use mathlib.Core.Bool.{Bool, true, false}
use mathlib.Core.Option.{Option, none, some, none-ne-some, some-injective}
use mathlib.Core.List.{List, [], ◌∷◌}
use Prim.Native.Nat.{ℕ, zero, suc, ◌+◌, ◌-◌, ◌≤◌, ◌<◌}
use native.Mathlib.Omega.{arith}
use borrow.Author.Tests.{eq-eqb, ne_eqb}
use lib.ListN.{length, drop, get_or, drop_of_length-le}
use lib.Seq.{drop-cons, drop-drop}
use Rattle.ucd.specs.Table.{pick_number}
use Rattle.ji.specs.Text.{within}
use Rattle.ji.proofs.Bools.{false_true, either, and_right, number_yes, number_no}
use Rattle.ji.specs.Utf8.{table37, fits_row, width_in, width_at, point_at, more, pick_decoded, decode_from, decode, is_decoded, SequenceOf}
use Rattle.ji.proofs.Parts.{part, part_is}

abbrev Short : List (List (ℕ × ℕ)) → Type 0
Short [] = Unit {0}
Short (row ∷ rows) = (length row ≤ 4) × Short rows

pick_most : (b : Bool) (m n : ℕ) → m ≤ 4 → n ≤ 4 → pick_number b m n ≤ 4
pick_most true m n h k = h
pick_most false m n h k = k

rows_most : (rows : List (List (ℕ × ℕ))) → Short rows → (s : List ℕ) → width_in rows s ≤ 4
rows_most [] h s = omega arith
rows_most (row ∷ rows) h s = pick_most (fits_row row s) (length row) (width_in rows s) h.0 (rows_most rows h.1 s)

-- no sequence has more than four bytes
pub width_most : (s : List ℕ) → width_at s ≤ 4
unfolding width_at
width_most s = rows_most table37 (omega arith) s

-- a sequence lies within the bytes
fits_length : (row : List (ℕ × ℕ)) (s : List ℕ) → fits_row row s ≡ true → length row ≤ length s
fits_length [] s e = omega arith
fits_length (r ∷ row) [] e = absurd (false_true e)
fits_length (r ∷ row) (b ∷ s) e = omega (arith, fits_length row s (and_right (within r.0 r.1 b) (fits_row row s) e))

rows_length : (rows : List (List (ℕ × ℕ))) (s : List ℕ) → width_in rows s ≤ length s
rows_length [] s = omega arith
rows_length (row ∷ rows) s =
    either (fits_row row s)
    (λ e. rw (number_yes (fits_row row s) (length row) (width_in rows s) e) (fits_length row s e))
    (λ e. rw (number_no (fits_row row s) (length row) (width_in rows s) e) (rows_length rows s))

pub width_length : (s : List ℕ) → width_at s ≤ length s
unfolding width_at
width_length s = rows_length table37 s

skipped : (k : ℕ) (s : List ℕ) → decode_from k s ≡ decode_from 0 (drop k s)
unfolding decode_from
skipped zero s = refl
skipped (suc k) [] = refl
skipped (suc k) (b ∷ s) = skipped k s

pub drop_rest : (n b : ℕ) (s : List ℕ) → 0 < n → drop (n - 1) s ≡ drop n (b ∷ s)
drop_rest zero b s h = absurd (omega arith)
drop_rest (suc n) b s h = let e : suc n - 1 ≡ n = omega arith in ap (λ (k : ℕ). drop k s) e

decode_ill : (b : ℕ) (s : List ℕ) → width_at (b ∷ s) ≡ 0 → decode (b ∷ s) ≡ none
unfolding decode decode_from
decode_ill b s e = ap (λ (t : Bool). pick_decoded t none (more (point_at (b ∷ s)) (decode_from (width_at (b ∷ s) - 1) s))) (eq-eqb (width_at (b ∷ s)) 0 e)

pub decode_step : (b : ℕ) (s : List ℕ) → 0 < width_at (b ∷ s) → decode (b ∷ s) ≡ more (point_at (b ∷ s)) (decode (drop (width_at (b ∷ s)) (b ∷ s)))
unfolding decode decode_from
decode_step b s h =
    ap (λ (t : Bool). pick_decoded t none (more (point_at (b ∷ s)) (decode_from (width_at (b ∷ s) - 1) s))) (ne_eqb (width_at (b ∷ s)) 0 (λ e. omega arith))
    ∙ ap (more (point_at (b ∷ s))) (skipped (width_at (b ∷ s) - 1) s ∙ ap (decode_from 0) (drop_rest (width_at (b ∷ s)) b s h))

-- the same at a place: an ill-formed sequence, a sequence and what follows it, and the end
pub decode_at_ill : (s : List ℕ) (i : ℕ) → i < length s → width_at (drop i s) ≡ 0 → decode (drop i s) ≡ none
decode_at_ill s i h e = ap decode (drop-cons s i 0 h) ∙ decode_ill (get_or s i 0) (drop (suc i) s) (ap width_at (sym (drop-cons s i 0 h)) ∙ e)

pub decode_at : (s : List ℕ) (i : ℕ) → i < length s → 0 < width_at (drop i s) → decode (drop i s) ≡ more (point_at (drop i s)) (decode (drop (i + width_at (drop i s)) s))
decode_at s i h k =
    let e = drop-cons s i 0 h in
    ap decode e ∙ decode_step (get_or s i 0) (drop (suc i) s) (subst (λ (l : List ℕ). 0 < width_at l) e k)
    ∙ ap (λ (l : List ℕ). more (point_at l) (decode (drop (width_at l) l))) (sym e)
    ∙ ap (λ (l : List ℕ). more (point_at (drop i s)) (decode l)) (drop-drop (width_at (drop i s)) i s)

pub decode_end : (s : List ℕ) (i : ℕ) → length s ≤ i → decode (drop i s) ≡ some []
unfolding decode decode_from
decode_end s i h = ap decode (drop_of_length-le s h)

pub more_some : (x : ℕ) (o : Option (List ℕ)) (s : List ℕ) → more x o ≡ some s → (u : List ℕ) × (o ≡ some u) × (s ≡ x ∷ u)
more_some x none s e = absurd (none-ne-some s e)
more_some x (some u) s e = (u, refl, sym (some-injective (x ∷ u) s e))

-- what is read of a slice from a place on is what stands there
pub read_part : (s : List ℕ) (i w p : ℕ) → SequenceOf (part s i) w p → SequenceOf (drop i s) w p
read_part s i w p q = subst (λ (l : List ℕ). SequenceOf l w p) (part_is s i) q

pub ill_part : (s : List ℕ) (i : ℕ) → width_at (part s i) ≡ 0 → width_at (drop i s) ≡ 0
ill_part s i e = ap width_at (sym (part_is s i)) ∙ e

-- ── whether bytes are well formed
decoded_more : (x : ℕ) (o : Option (List ℕ)) → is_decoded (more x o) ≡ is_decoded o
decoded_more x none = refl
decoded_more x (some s) = refl

pub decoded_at : (s : List ℕ) (i : ℕ) → i < length s → 0 < width_at (drop i s) → is_decoded (decode (drop i s)) ≡ is_decoded (decode (drop (i + width_at (drop i s)) s))
decoded_at s i h k = ap is_decoded (decode_at s i h k) ∙ decoded_more (point_at (drop i s)) (decode (drop (i + width_at (drop i s)) s))
