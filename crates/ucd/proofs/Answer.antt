-- What the lookups answer, from the number or the decomposition that they read. Assumes nothing.
use mathlib.Core.Path.{◌≡◌, refl, sym, ◌∙◌, ap}
use mathlib.Core.Bool.{Bool, true, false, and-false}
use mathlib.Core.List.{[], ◌∷◌}
use mathlib.Core.Option.{none, some}
use Prim.Native.Nat.{ℕ, ◌/◌, ◌%◌}
use lib.Dec.{eqb}
use borrow.Author.Tests.{eq-eqb, ne_eqb, eqb-true}
use Rattle.ucd.specs.Table.{Table, same, mapping, decomposition, composite}
use Rattle.ucd.specs.Unicode16.{unicode16}
use Rattle.ucd.specs.Answer.{text_of, said, unpacked, unpacked_mapping, verified}
use Rattle.ucd.proofs.Lists.{or_itself, mapping_decomposition}
use Rattle.ucd.specs.declared.Mapping.{Mapping}
use Rattle.ucd.specs.declared.Mapping.TheVariants.{Itself, One, Two}

-- the mapping that an answer says determines the decomposition
pub text_told : (t : Table) (c : ℕ) (m : Mapping) → said m ≡ mapping t c → text_of c m ≡ decomposition t c
unfolding mapping decomposition
text_told t c m says = go m ∙ ap (or_itself c) says ∙ mapping_decomposition t.mappings c
  where
    go : (m : Mapping) → text_of c m ≡ or_itself c (said m)
    go Itself = refl
    go (One a) = refl
    go (Two a b) = refl

-- what a number of the rows unpacks to, as a decomposition
module _ (c n : ℕ) where
  pub unpacked_none : n ≡ 0 → c ∷ [] ≡ unpacked c n
  unpacked_none e = rw e

  pub unpacked_one : (n ≡ 0 → ⊥) → n % 65536 ≡ 0 → n / 65536 ∷ [] ≡ unpacked c n
  unpacked_one some_number e = rw (ne_eqb n 0 some_number, eq-eqb (n % 65536) 0 e)

  pub unpacked_two : (n ≡ 0 → ⊥) → (n % 65536 ≡ 0 → ⊥) → n / 65536 ∷ n % 65536 ∷ [] ≡ unpacked c n
  unpacked_two some_number e = rw (ne_eqb n 0 some_number, ne_eqb (n % 65536) 0 e)

-- and as a mapping
module _ (n : ℕ) where
  pub mapping_none : n ≡ 0 → none ≡ unpacked_mapping n
  mapping_none e = rw e

  pub mapping_one : (n ≡ 0 → ⊥) → n % 65536 ≡ 0 → some (n / 65536 ∷ []) ≡ unpacked_mapping n
  mapping_one some_number e = rw (ne_eqb n 0 some_number, eq-eqb (n % 65536) 0 e)

  pub mapping_two : (n ≡ 0 → ⊥) → (n % 65536 ≡ 0 → ⊥) → some (n / 65536 ∷ n % 65536 ∷ []) ≡ unpacked_mapping n
  mapping_two some_number e = rw (ne_eqb n 0 some_number, ne_eqb (n % 65536) 0 e)

-- the composite of a and b, where p is the candidate and m says its decomposition
module _ (a b p : ℕ) (m : Mapping) (says : text_of p m ≡ decomposition unicode16 p) (right : verified a b p ≡ composite unicode16 a b) where
  made_itself : m ≡ Itself → none ≡ composite unicode16 a b
  unfolding same
  made_itself e = (rw (← says, e, and-false (eqb p a)) at right)

  made_one : (x : ℕ) → m ≡ One x → none ≡ composite unicode16 a b
  unfolding same
  made_one x e = (rw (← says, e, and-false (eqb x a)) at right)

  module _ (x y : ℕ) (e : m ≡ Two x y) where
    made_two : x ≡ a → y ≡ b → some p ≡ composite unicode16 a b
    unfolding same
    made_two first second = rw (← says, e, eq-eqb x a first, eq-eqb y b second) at right

    made_other_first : (x ≡ a → ⊥) → none ≡ composite unicode16 a b
    unfolding same
    made_other_first other = rw (← says, e, ne_eqb x a other) at right

    made_other_second : x ≡ a → (y ≡ b → ⊥) → none ≡ composite unicode16 a b
    unfolding same
    made_other_second first other = rw (← says, e, eq-eqb x a first, ne_eqb y b other) at right

  -- p is the composite if the mapping is a, b, and there is none if it is another
  pub made : m ≡ Two a b → some p ≡ composite unicode16 a b
  made e = made_two a b e refl refl

  pub unmade : (m ≡ Two a b → ⊥) → none ≡ composite unicode16 a b
  unmade other = by m refl
    where
      by : (x : Mapping) → m ≡ x → none ≡ composite unicode16 a b
      by Itself e = made_itself e
      by (One x) e = made_one x e
      by (Two x y) e =
          elim (eqb x a) as (λ t. eqb x a ≡ t → none ≡ composite unicode16 a b) [
            | true ↦ λ first. made_other_second x y e (eqb-true x a first) (λ second. other (e ∙ ap (λ z. Two z y) (eqb-true x a first) ∙ ap (Two a) second))
            | false ↦ λ first. made_other_first x y e (λ q. let z : ◌≡◌ {A = Bool} true false = sym (eq-eqb x a q) ∙ first in cc)
          ]
          refl
