-- The laws of full canonical decomposition (the Unicode Standard, 3.7, D68), over any table: it goes code point by code point, and what
-- decomposes no further stays.
use mathlib.Core.Path.{◌≡◌, refl, sym, ◌∙◌, ap}
use mathlib.Core.List.{List, [], ◌∷◌, ◌++◌, append_assoc, append-nil}
use mathlib.Core.Option.{some}
use Prim.Native.Nat.{ℕ, zero, suc}
use Rattle.ucd.specs.Table.{Table, All, Atom, decomposition, composite}
use Rattle.ucd.specs.Full.{pass, passes, full, Facts}
use Rattle.ji.proofs.Composition.{all_append}

module _ (t : Table) where
  -- one pass, and any number
  pass_append : (s u : List ℕ) → pass t (s ++ u) ≡ pass t s ++ pass t u
  unfolding pass
  pass_append [] u = refl
  pass_append (c ∷ s) u = rw (pass_append s u) (sym (append_assoc (decomposition t c) (pass t s) (pass t u)))

  passes_append : (n : ℕ) (s u : List ℕ) → passes t n (s ++ u) ≡ passes t n s ++ passes t n u
  unfolding passes
  passes_append zero s u = refl
  passes_append (suc n) s u = rw (pass_append s u) (passes_append n (pass t s) (pass t u))

  passes_pass : (n : ℕ) (s : List ℕ) → passes t n (pass t s) ≡ pass t (passes t n s)
  unfolding passes
  passes_pass zero s = refl
  passes_pass (suc n) s = passes_pass n (pass t s)

  passes_nil : (n : ℕ) → passes t n [] ≡ []
  unfolding passes pass
  passes_nil zero = refl
  passes_nil (suc n) = passes_nil n

  pass_atoms : (s : List ℕ) → All (Atom t) s → pass t s ≡ s
  unfolding pass
  pass_atoms [] h = refl
  pass_atoms (c ∷ s) h = rw (h.0, pass_atoms s h.1)

  passes_atoms : (n : ℕ) (s : List ℕ) → All (Atom t) s → passes t n s ≡ s
  unfolding passes
  passes_atoms zero s h = refl
  passes_atoms (suc n) s h = rw (pass_atoms s h) (passes_atoms n s h)

  -- the decomposition of a text is that of its parts
  pub full_nil : full t [] ≡ []
  unfolding full
  full_nil = passes_nil t.depth

  pub full_append : (s u : List ℕ) → full t (s ++ u) ≡ full t s ++ full t u
  unfolding full
  full_append s u = passes_append t.depth s u

  pub full_cons : (c : ℕ) (s : List ℕ) → full t (c ∷ s) ≡ full t (c ∷ []) ++ full t s
  full_cons c s = full_append (c ∷ []) s

  -- what does not decompose stays
  pub full_atoms : (s : List ℕ) → All (Atom t) s → full t s ≡ s
  unfolding full
  full_atoms s h = passes_atoms t.depth s h

  -- what holds of the decomposition of each code point holds of the text's
  pub full_all : (P Q : ℕ → Type 0) → ((c : ℕ) → P c → All Q (full t (c ∷ []))) → (s : List ℕ) → All P s → All Q (full t s)
  full_all P Q each [] h = rw full_nil tt
  full_all P Q each (c ∷ s) h = rw (full_cons c s) (all_append Q (full t (c ∷ [])) (full t s) (each c h.0) (full_all P Q each s h.1))

  module _ (F : Facts t) where
    -- nothing of a full decomposition decomposes further
    pub full_is_atoms : (s : List ℕ) → All (Atom t) (full t s)
    full_is_atoms [] = rw full_nil tt
    full_is_atoms (c ∷ s) = rw (full_cons c s) (all_append (Atom t) (full t (c ∷ [])) (full t s) (F.atoms c) (full_is_atoms s))

    -- decomposing again changes nothing
    pub full_full : (s : List ℕ) → full t (full t s) ≡ full t s
    full_full s = full_atoms (full t s) (full_is_atoms s)

    -- a composite decomposes as the two that it is made of
    pub full_composite : (a b p : ℕ) → composite t a b ≡ some p → full t (p ∷ []) ≡ full t (a ∷ b ∷ [])
    unfolding full pass
    full_composite a b p e =
        sym (passes_pass t.depth (p ∷ []) ∙ pass_atoms (full t (p ∷ [])) (full_is_atoms (p ∷ [])))
        ∙ ap (full t) (append-nil (decomposition t p) ∙ F.decomposes a b p e)
