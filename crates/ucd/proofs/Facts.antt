-- From one computed test of a table to the facts that normalisation rests on, and that the table is closed: for any table. Assumes nothing.
use mathlib.Core.Path.{◌≡◌, refl, sym, ◌∙◌, ap, subst}
use mathlib.Core.Bool.{Bool, true, not, ◌&&◌}
use mathlib.Core.List.{List, [], ◌∷◌}
use mathlib.Core.Logic.{◌⊎◌, inl, inr}
use mathlib.Core.Option.{some}
use Prim.Native.Nat.{ℕ, zero, suc}
use native.Mathlib.Omega.{arith}
use lib.Dec.{T, eqb, eqb→eq}
use lib.ListN.{length}
use Rattle.ucd.specs.Table.{Table, All, Atom, same, listed, member, decomposition, combining_class, is_composite, composite_in, composite}
use Rattle.ucd.specs.Full.{pass, passes, full, Facts}
use Rattle.ucd.proofs.Tests.{either, true_passes, both_left, both_right, same_equal, each, each_all}
use Rattle.ucd.proofs.Lists.{each_mapping, mapping_passes}

module _ (t : Table) where
  -- c is in the table and has no decomposition but itself
  unfoldable pub settled : ℕ → Bool
  settled c = member t c && same (decomposition t c) (c ∷ [])

  -- c is in the table, and so is what it decomposes to, which decomposes no further
  unfoldable pub good_mapping : ℕ → List ℕ → Bool
  good_mapping c text = member t c && each settled (full t (c ∷ []))

  -- the test: each mapping is good
  unfoldable pub good : Bool
  good = each_mapping good_mapping t.mappings

  -- what D113 asks of a composite p beside its decomposition, which begins with a
  unfoldable pub primary : ℕ → ℕ → Bool
  primary p a = not (listed t.exclusions p) && (eqb (combining_class t p) 0 && eqb (combining_class t a) 0)

  -- what has no decomposition stays as it is, in any number of passes
  atom_passes : (n c : ℕ) → Atom t c → passes t n (c ∷ []) ≡ c ∷ []
  unfolding passes pass
  atom_passes zero c e = refl
  atom_passes (suc n) c e = rw e (atom_passes n c e)

  -- its full decomposition is itself
  pub atom_full : (c : ℕ) → Atom t c → full t (c ∷ []) ≡ c ∷ []
  unfolding full
  atom_full c e = atom_passes t.depth c e

  -- what the search finds is a composite
  composite_in_is : (rs : List (ℕ × List ℕ)) (a b p : ℕ) → composite_in t rs a b ≡ some p → is_composite t a b p ≡ true
  unfolding composite_in
  composite_in_is [] a b p e = absurd (let z : ◌≡◌ {A = ℕ} 0 1 = cc in omega arith)
  composite_in_is (r ∷ rs) a b p e =
      either (is_composite t a b r.0)
      (λ is. let z : r.0 ≡ p = some_equal (rw is at e) in subst (λ (x : ℕ). is_composite t a b x ≡ true) z is)
      (λ is. composite_in_is rs a b p (rw is at e))
    where
      some_equal : some r.0 ≡ some p → r.0 ≡ p
      some_equal e = cc

  -- so is the composite of the table
  pub composite_is : (a b p : ℕ) → composite t a b ≡ some p → T (is_composite t a b p)
  unfolding composite
  composite_is a b p e = true_passes (is_composite t a b p) (composite_in_is t.mappings a b p e)

  module _ (a b p : ℕ) (is : T (is_composite t a b p)) where
    -- the decomposition of a composite
    pub is_decomposition : decomposition t p ≡ a ∷ b ∷ []
    unfolding is_composite primary
    is_decomposition = same_equal (decomposition t p) (a ∷ b ∷ []) (both_left (same (decomposition t p) (a ∷ b ∷ [])) (primary p a) is)

    -- a composite is a starter
    pub is_starter : combining_class t p ≡ 0
    unfolding is_composite primary
    is_starter =
        eqb→eq (combining_class t p) 0
        (both_left (eqb (combining_class t p) 0) (eqb (combining_class t a) 0)
        (both_right (not (listed t.exclusions p)) (eqb (combining_class t p) 0 && eqb (combining_class t a) 0)
        (both_right (same (decomposition t p) (a ∷ b ∷ [])) (primary p a) is)))

  -- two code points are not one
  pub two_not_one : (a b c : ℕ) → decomposition t c ≡ a ∷ b ∷ [] → Atom t c → ⊥
  two_not_one a b c two one = let z : ◌≡◌ {A = ℕ} 2 1 = ap length (sym two ∙ one) in omega arith

  module _ (test : T good) where
    -- a number has no mapping, or a good one
    good_mapping_law : (c : ℕ) → Atom t c ⊎ T (good_mapping c (decomposition t c))
    unfolding good decomposition
    good_mapping_law c = mapping_passes good_mapping t.mappings test c

    -- the parts of the test
    settled_atom : (c : ℕ) → T (settled c) → Atom t c
    unfolding settled
    settled_atom c h = same_equal (decomposition t c) (c ∷ []) (both_right (member t c) (same (decomposition t c) (c ∷ [])) h)

    settled_member : (c : ℕ) → T (settled c) → T (member t c)
    unfolding settled
    settled_member c h = both_left (member t c) (same (decomposition t c) (c ∷ [])) h

    good_settled : (c : ℕ) (text : List ℕ) → T (good_mapping c text) → T (each settled (full t (c ∷ [])))
    unfolding good_mapping
    good_settled c text h = both_right (member t c) (each settled (full t (c ∷ []))) h

    good_member : (c : ℕ) (text : List ℕ) → T (good_mapping c text) → T (member t c)
    unfolding good_mapping
    good_member c text h = both_left (member t c) (each settled (full t (c ∷ []))) h

    -- full decomposition leaves nothing that decomposes
    full_atoms : (c : ℕ) → All (Atom t) (full t (c ∷ []))
    full_atoms c = go (good_mapping_law c)
      where
        go : Atom t c ⊎ T (good_mapping c (decomposition t c)) → All (Atom t) (full t (c ∷ []))
        go (inl e) = rw (atom_full c e) (e, tt)
        go (inr h) = each_all settled (Atom t) settled_atom (full t (c ∷ [])) (good_settled c (decomposition t c) h)

    -- the facts
    pub facts : Facts t
    facts =
        record {
          atoms = full_atoms;
          decomposes = λ a b p e. is_decomposition a b p (composite_is a b p e);
          starter = λ a b p e. is_starter a b p (composite_is a b p e);
        }

    -- full decomposition stays in the table
    pub full_member : (c : ℕ) → T (member t c) → All (λ x. T (member t x)) (full t (c ∷ []))
    full_member c m = go (good_mapping_law c)
      where
        go : Atom t c ⊎ T (good_mapping c (decomposition t c)) → All (λ x. T (member t x)) (full t (c ∷ []))
        go (inl e) = rw (atom_full c e) (m, tt)
        go (inr h) = each_all settled (λ x. T (member t x)) settled_member (full t (c ∷ [])) (good_settled c (decomposition t c) h)

    -- composition stays in the table
    pub composite_member : (a b p : ℕ) → composite t a b ≡ some p → T (member t p)
    composite_member a b p e = go (good_mapping_law p)
      where
        go : Atom t p ⊎ T (good_mapping p (decomposition t p)) → T (member t p)
        go (inl one) = absurd (two_not_one a b p (is_decomposition a b p (composite_is a b p e)) one)
        go (inr h) = good_member p (decomposition t p) h
