-- Composition by a candidate: a function that names, for each a and b, the one code point that can be their composite. One test, computed over
-- the mappings, shows that the candidate is the composite exactly if its decomposition is a, b. For any table and any such function.
-- Assumes nothing.
use mathlib.Core.Path.{◌≡◌, refl, sym, ◌∙◌, ap, subst}
use mathlib.Core.Bool.{Bool, true, false, beq}
use mathlib.Core.List.{List, [], ◌∷◌}
use mathlib.Core.Logic.{◌⊎◌, inl, inr}
use mathlib.Core.Option.{Option, none, some, some-ne-none}
use Prim.Native.Nat.{ℕ}
use lib.Dec.{T, eqb}
use borrow.Author.Tests.{eqb-true, eq-eqb}
use Rattle.ucd.specs.Table.{Table, Atom, pick_point, same, mapping_in, decomposition, is_composite, composite_in, composite}
use Rattle.ucd.proofs.Tests.{either, true_passes, passes_true, same_equal, same_itself}
use Rattle.ucd.proofs.Lists.{each_mapping, mapping_passes}
use Rattle.ucd.proofs.Facts.{primary, composite_is, is_decomposition, two_not_one}

-- tests that agree are equal
beq_equal : (x y : Bool) → T (beq x y) → x ≡ y
beq_equal true true h = refl
beq_equal true false h = absurd h
beq_equal false true h = absurd h
beq_equal false false h = refl

module _ (t : Table) where
  -- where the decomposition of p is a, b, only D113 is left to ask
  composite_primary : (a b p : ℕ) → decomposition t p ≡ a ∷ b ∷ [] → is_composite t a b p ≡ primary t p a
  unfolding is_composite primary
  composite_primary a b p e = rw (e, same_itself (a ∷ b ∷ []))

  -- a composite that the search misses has no row
  missed : (rs : List (ℕ × List ℕ)) (a b p : ℕ) → is_composite t a b p ≡ true → composite_in t rs a b ≡ none → mapping_in rs p ≡ p ∷ []
  unfolding composite_in mapping_in
  missed [] a b p is e = refl
  missed (r ∷ rs) a b p is e =
      either (is_composite t a b r.0)
      (λ h. absurd (some-ne-none r.0 (rw h at e)))
      (λ h. either (eqb r.0 p)
      (λ k. absurd (subst T (sym is ∙ ap (is_composite t a b) (sym (eqb-true r.0 p k)) ∙ h) tt))
      (λ k. rw k (missed rs a b p is (rw h at e))))

  module _ (candidate : ℕ → ℕ → ℕ) where
    -- the candidate of a mapping's two code points is the one that has it exactly if that is a primary composite
    unfoldable pub right_candidate : ℕ → List ℕ → Bool
    right_candidate p [] = true
    right_candidate p (a ∷ []) = true
    right_candidate p (a ∷ b ∷ []) = beq (eqb (candidate a b) p) (primary t p a)
    right_candidate p (a ∷ b ∷ x ∷ s) = true

    module _ (test : T (each_mapping right_candidate t.mappings)) (a b : ℕ) where
      -- so it is for every code point whose decomposition is a, b
      two_right : (p : ℕ) → decomposition t p ≡ a ∷ b ∷ [] → eqb (candidate a b) p ≡ is_composite t a b p
      unfolding right_candidate decomposition
      two_right p e = go (mapping_passes right_candidate t.mappings test p)
        where
          go : Atom t p ⊎ T (right_candidate p (decomposition t p)) → eqb (candidate a b) p ≡ is_composite t a b p
          go (inl one) = absurd (two_not_one t a b p e one)
          go (inr h) =
              beq_equal (eqb (candidate a b) p) (primary t p a) (subst (λ (s : List ℕ). T (right_candidate p s)) e h) ∙
              sym (composite_primary a b p e)

      -- the composite is the candidate, if that decomposes to a, b, and else there is none
      pub candidate_composite :
          pick_point (same (decomposition t (candidate a b)) (a ∷ b ∷ [])) (some (candidate a b)) none ≡ composite t a b
      unfolding composite decomposition
      candidate_composite = go (composite t a b) refl
        where
          q : ℕ
          q = candidate a b

          decomposes : Bool
          decomposes = same (decomposition t q) (a ∷ b ∷ [])

          go : (o : Option ℕ) → composite t a b ≡ o → pick_point decomposes (some q) none ≡ composite t a b
          go none e =
              either decomposes
              (λ h. let two : decomposition t q ≡ a ∷ b ∷ [] = same_equal (decomposition t q) (a ∷ b ∷ []) (true_passes decomposes h) in
              absurd (two_not_one t a b q two (missed t.mappings a b q (sym (two_right q two) ∙ eq-eqb q q refl) e)))
              (λ h. rw h (sym e))
          go (some p) e =
              let is : T (is_composite t a b p) = composite_is t a b p e in
              let two : decomposition t p ≡ a ∷ b ∷ [] = is_decomposition t a b p is in
              let known : q ≡ p = eqb-true q p (two_right p two ∙ passes_true (is_composite t a b p) is) in
              rw (known, two, same_itself (a ∷ b ∷ [])) (sym e)
