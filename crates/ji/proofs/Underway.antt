-- A loop that reads a text s and writes F s to the front of a buffer, piece by piece. A piece u of F s stands for the elements of s from i up
-- to i': F (drop i s) ≡ u ++ F (drop i' s). The laws take the loop from one piece to the next, whatever F is.
use mathlib.Core.Path.{◌≡◌, refl, sym, ap, ◌∙◌}
use mathlib.Core.List.{List, [], ◌∷◌, ◌++◌, append_assoc, append-nil}
use Prim.Native.Nat.{ℕ, ◌+◌, ◌≤◌, ◌<◌}
use native.Mathlib.Omega.{arith}
use lib.ListN.{length, drop, get_or, set, length-append}
use lib.Seq.{paste}
use Rattle.ji.specs.Written.{Written}
use Rattle.ji.proofs.Writing.{written_none, written_one, written_kept, written_run}

-- s is read up to i, and what F makes of that is written up to j
pub record Underway (F : List ℕ → List ℕ) (s before after : List ℕ) (i j : ℕ) : Type 0 where
  pub inside : i ≤ length s
  pub done : List ℕ
  pub written : Written before after j done
  pub rest : done ++ F (drop i s) ≡ F s

pub underway_start : (F : List ℕ → List ℕ) (s before : List ℕ) → Underway F s before before 0 0
underway_start F s before = record { inside = omega arith; done = []; written = written_none before; rest = refl }

module _ {F : List ℕ → List ℕ} {s before after : List ℕ} {i j : ℕ} (h : Underway F s before after i j) where
  -- one more piece u
  module _ (i' : ℕ) (u : List ℕ) (piece : F (drop i s) ≡ u ++ F (drop i' s)) where
    rest_behind : h.done ++ u ++ F (drop i' s) ≡ F s
    rest_behind = append_assoc h.done u (F (drop i' s)) ∙ ap (λ (t : List ℕ). h.done ++ t) (sym piece) ∙ h.rest

    -- there is room for it, since there is room for F s
    pub underway_room : length (F s) ≤ length before → j + length u ≤ length before
    underway_room fit = omega (arith, h.written.size, simp length-append at (ap length rest_behind))

    pub underway_run : i' ≤ length s → j + length u ≤ length before → Underway F s before (paste after j u (length u)) i' (j + length u)
    underway_run inside room = record { inside = inside; done = h.done ++ u; written = written_run h.written u room; rest = rest_behind }

  -- one more element, stored ..
  pub underway_one : (i' x : ℕ) → F (drop i s) ≡ x ∷ F (drop i' s) → i' ≤ length s → j < length before → Underway F s before (set after j x) i' (j + 1)
  underway_one i' x piece inside room =
      record { inside = inside; done = h.done ++ (x ∷ []); written = written_one h.written x room; rest = rest_behind i' (x ∷ []) piece }

  -- .. or left as it was
  pub underway_kept : (i' : ℕ) → F (drop i s) ≡ get_or before j 0 ∷ F (drop i' s) → i' ≤ length s → j < length before → Underway F s before after i' (j + 1)
  underway_kept i' piece inside room =
      record { inside = inside; done = h.done ++ (get_or before j 0 ∷ []); written = written_kept h.written room; rest = rest_behind i' (get_or before j 0 ∷ []) piece }

  -- the text is read
  pub underway_end : F (drop i s) ≡ [] → Written before after j (F s)
  underway_end end = rw (sym h.rest ∙ ap (λ (t : List ℕ). h.done ++ t) end ∙ append-nil h.done) h.written
