-- Full canonical decomposition, before the marks are put in order (the Unicode Standard, 3.7, D68): the mappings, applied until no code
-- point can be further decomposed. `depth` passes do that: `Facts` says that nothing decomposes after them.
use Rattle.std.specs.Prelude.{◌≡◌, List, [], ◌∷◌, ◌++◌, ℕ, zero, suc}
use Rattle.std.proofs.Math.Option.{some}
use Rattle.ucd.specs.Table.{Table, All, Atom, decomposition, combining_class, composite}

module _ (t : Table) where
  -- one pass: each code point gives way to its decomposition
  unfoldable pub pass : List ℕ → List ℕ
  pass [] = []
  pass (c ∷ s) = decomposition t c ++ pass s

  unfoldable pub passes : ℕ → List ℕ → List ℕ
  passes zero s = s
  passes (suc n) s = passes n (pass s)

  unfoldable pub full : List ℕ → List ℕ
  full s = passes t.depth s

-- what a computed test shows of a table, and all that the laws of normalisation rest on
pub record Facts (t : Table) : Type 0 where
  -- full decomposition leaves nothing that decomposes
  pub atoms : (c : ℕ) → All (Atom t) (full t (c ∷ []))
  -- a composite's decomposition is the two that it is made of
  pub decomposes : (a b p : ℕ) → composite t a b ≡ some p → decomposition t p ≡ a ∷ b ∷ []
  -- a composite is a starter
  pub starter : (a b p : ℕ) → composite t a b ≡ some p → combining_class t p ≡ 0
