-- The table of Unicode 16.0: its facts, each from a test that is computed over its rows and ranges, stated at every number. Assumes nothing.
use mathlib.Core.Path.{◌≡◌, refl, sym, ◌∙◌, subst}
use mathlib.Core.Bool.{Bool, false, ◌&&◌}
use mathlib.Core.List.{List, [], ◌∷◌, ◌++◌}
use mathlib.Core.Logic.{◌⊎◌, inl, inr}
use mathlib.Core.Option.{Option, none, some}
use Prim.Native.Nat.{ℕ, ◌<◌, ◌≤◌}
use native.Mathlib.Omega.{arith}
use lib.Dec.{T, leb, ltb, leb→le, ltb→lt, lit≤}
use lib.ListN.{length, length-append}
use Rattle.ucd.specs.Table.{Atom, same, in_ranges, mapping_in, mapping_of, class_in, member, mapping, decomposition, combining_class, composite}
use Rattle.ucd.specs.Full.{pass, passes, full, Facts}
use Rattle.ucd.specs.Unicode16.{unicode16, ranges16, mappings16, classes16}
use Rattle.ucd.proofs.Tests.{both_left, both_right, same_equal}
use Rattle.ucd.proofs.Lists.{each_mapping, mapping_passes, mapping_none, each_class, class_passes, each_range, range_passes}
use Rattle.ucd.proofs.Facts.{settled, good_mapping, good, facts, atom_full, composite_is, is_decomposition, two_not_one}

-- the test that the laws of normalisation rest on
pub unicode16_good : T (good unicode16)
unfolding good good_mapping settled same in_ranges mapping_in member decomposition pass passes full unicode16 ranges16 mappings16
unicode16_good = tt

-- the facts that they rest on
pub unicode16_facts : Facts unicode16
unicode16_facts = facts unicode16 unicode16_good

-- The ranges.

-- a range ends below D800
ends_below : ℕ → ℕ → Bool
ends_below first last = ltb last 0xD800

-- the test of each range
ranges_right : T (each_range ends_below ranges16)
unfolding ends_below ranges16
ranges_right = tt

-- a code point of the table lies below D800
pub member_below : (c : ℕ) → T (member unicode16 c) → c < 0xD800
unfolding member unicode16 ends_below
member_below c h =
    let (first, last, from, to, test) = range_passes ends_below ranges16 ranges_right c h in
    let below : last < 0xD800 = ltb→lt last 0xD800 test in omega arith

-- The classes.

-- a code point with a class lies at 0300 or above
mark_class : ℕ → ℕ → Bool
mark_class c class = leb 0x0300 c

-- the test of each class
classes_right : T (each_class mark_class classes16)
unfolding mark_class classes16
classes_right = tt

-- what lies below 0300 is a starter
pub low_starter : (c : ℕ) → c < 0x0300 → combining_class unicode16 c ≡ 0
unfolding combining_class unicode16 mark_class
low_starter c low = go (class_passes mark_class classes16 classes_right c)
  where
    go : (class_in classes16 c ≡ 0) ⊎ T (leb 0x0300 c) → class_in classes16 c ≡ 0
    go (inl e) = e
    go (inr h) = absurd (let high : 0x0300 ≤ c = leb→le 0x0300 c h in let z : ⊥ = omega arith in z)

-- The mappings.

-- c decomposes no further
atom : ℕ → Bool
atom c = same (decomposition unicode16 c) (c ∷ [])

-- a mapping is one code point that decomposes no further, or two, of which the second decomposes no further and lies in 0300 to 0338
right_text : List ℕ → Bool
right_text [] = false
right_text (a ∷ []) = atom a
right_text (a ∷ b ∷ []) = atom b && (leb 0x0300 b && leb b 0x0338)
right_text (a ∷ b ∷ x ∷ s) = false

-- and the code point that has it lies at 00C0 or above
right_mapping : ℕ → List ℕ → Bool
right_mapping c text = leb 0x00C0 c && right_text text

-- the test of each mapping
mappings_right : T (each_mapping right_mapping mappings16)
unfolding right_mapping right_text atom same mapping_in decomposition unicode16 mappings16
mappings_right = tt

-- the parts of the test
module _ (c : ℕ) (text : List ℕ) (h : T (right_mapping c text)) where
  not_low : 0x00C0 ≤ c
  unfolding right_mapping
  not_low = leb→le 0x00C0 c (both_left (leb 0x00C0 c) (right_text text) h)

  text_right : T (right_text text)
  unfolding right_mapping
  text_right = both_right (leb 0x00C0 c) (right_text text) h

one_atom : (a : ℕ) → T (right_text (a ∷ [])) → Atom unicode16 a
unfolding right_text atom
one_atom a h = same_equal (decomposition unicode16 a) (a ∷ []) h

module _ (a b : ℕ) (h : T (right_text (a ∷ b ∷ []))) where
  second_atom : Atom unicode16 b
  unfolding right_text atom
  second_atom = same_equal (decomposition unicode16 b) (b ∷ []) (both_left (atom b) (leb 0x0300 b && leb b 0x0338) h)

  second_mark : (0x0300 ≤ b) × (b ≤ 0x0338)
  unfolding right_text
  second_mark =
      let bounds : T (leb 0x0300 b && leb b 0x0338) = both_right (atom b) (leb 0x0300 b && leb b 0x0338) h in (
        leb→le 0x0300 b (both_left (leb 0x0300 b) (leb b 0x0338) bounds),
        leb→le b 0x0338 (both_right (leb 0x0300 b) (leb b 0x0338) bounds),
      )

-- a number has no mapping, or its decomposition is right
mapping_right : (c : ℕ) → Atom unicode16 c ⊎ T (right_mapping c (decomposition unicode16 c))
unfolding decomposition unicode16
mapping_right c = mapping_passes right_mapping mappings16 mappings_right c

-- the same of a decomposition that is known
decomposition_right : (c : ℕ) (text : List ℕ) → decomposition unicode16 c ≡ text → Atom unicode16 c ⊎ T (right_text text)
decomposition_right c text e = go (mapping_right c)
  where
    go : Atom unicode16 c ⊎ T (right_mapping c (decomposition unicode16 c)) → Atom unicode16 c ⊎ T (right_text text)
    go (inl one) = inl one
    go (inr h) = inr (subst (λ (s : List ℕ). T (right_text s)) e (text_right c (decomposition unicode16 c) h))

-- what lies below 00C0 does not decompose
pub low_atom : (c : ℕ) → c < 0x00C0 → Atom unicode16 c
low_atom c low = go (mapping_right c)
  where
    go : Atom unicode16 c ⊎ T (right_mapping c (decomposition unicode16 c)) → Atom unicode16 c
    go (inl one) = one
    go (inr h) = absurd (let high : 0x00C0 ≤ c = not_low c (decomposition unicode16 c) h in let z : ⊥ = omega arith in z)

-- it has no mapping
pub low_unmapped : (c : ℕ) → c < 0x00C0 → mapping unicode16 c ≡ none
unfolding mapping decomposition unicode16
low_unmapped c low = go (mapping_none right_mapping mappings16 mappings_right c)
  where
    go : (mapping_of mappings16 c ≡ none) ⊎ T (right_mapping c (mapping_in mappings16 c)) → mapping_of mappings16 c ≡ none
    go (inl none_here) = none_here
    go (inr h) = absurd (let high : 0x00C0 ≤ c = not_low c (mapping_in mappings16 c) h in let z : ⊥ = omega arith in z)

-- a decomposition is one code point or two
pub decomposition_cases : {P : Type 0} (c : ℕ)
    → ((a : ℕ) → decomposition unicode16 c ≡ a ∷ [] → P) → ((a b : ℕ) → decomposition unicode16 c ≡ a ∷ b ∷ [] → P) → P
unfolding right_text
decomposition_cases {P} c one two = go (decomposition unicode16 c) refl (decomposition_right c (decomposition unicode16 c) refl)
  where
    go : (text : List ℕ) → decomposition unicode16 c ≡ text → Atom unicode16 c ⊎ T (right_text text) → P
    go text e (inl atom) = one c atom
    go [] e (inr h) = absurd h
    go (a ∷ []) e (inr h) = one a e
    go (a ∷ b ∷ []) e (inr h) = two a b e
    go (a ∷ b ∷ x ∷ s) e (inr h) = absurd h

-- so it is at most two
pub decomposition_length : (c : ℕ) → length (decomposition unicode16 c) ≤ 2
decomposition_length c = decomposition_cases c (λ a e. rw e (lit≤ tt)) (λ a b e. rw e (lit≤ tt))

-- Full decomposition.

-- it is two passes
two_passes : (s : List ℕ) → full unicode16 s ≡ pass unicode16 (pass unicode16 s)
unfolding full passes unicode16
two_passes s = refl

-- of what does not decompose: itself
pub full_itself : (c : ℕ) → decomposition unicode16 c ≡ c ∷ [] → full unicode16 (c ∷ []) ≡ c ∷ []
full_itself c e = atom_full unicode16 c e

-- of what decomposes to one code point: that one
pub full_one : (c a : ℕ) → decomposition unicode16 c ≡ a ∷ [] → full unicode16 (c ∷ []) ≡ a ∷ []
unfolding pass
full_one c a e = go (decomposition_right c (a ∷ []) e)
  where
    go : Atom unicode16 c ⊎ T (right_text (a ∷ [])) → full unicode16 (c ∷ []) ≡ a ∷ []
    go (inl one) = full_itself c one ∙ sym one ∙ e
    go (inr h) = two_passes (c ∷ []) ∙ rw (e, one_atom a h)

-- of what decomposes to two: the first's decomposition, and the second
pub full_two : (c a b : ℕ) → decomposition unicode16 c ≡ a ∷ b ∷ [] → full unicode16 (c ∷ []) ≡ decomposition unicode16 a ++ (b ∷ [])
unfolding pass
full_two c a b e = go (decomposition_right c (a ∷ b ∷ []) e)
  where
    go : Atom unicode16 c ⊎ T (right_text (a ∷ b ∷ [])) → full unicode16 (c ∷ []) ≡ decomposition unicode16 a ++ (b ∷ [])
    go (inl one) = absurd (two_not_one unicode16 a b c e one)
    go (inr h) = two_passes (c ∷ []) ∙ rw (e, second_atom a b h)

-- so it is at most three code points
pub full_length : (c : ℕ) → length (full unicode16 (c ∷ [])) ≤ 3
full_length c =
    decomposition_cases c (λ a e. rw (full_one c a e) (lit≤ tt))
    (λ a b e. rw (full_two c a b e, length-append) (omega (arith, decomposition_length a)))

-- The composites.

-- the second code point of a composite is a mark of 0300 to 0338
pub composite_marks : (a b p : ℕ) → composite unicode16 a b ≡ some p → (0x0300 ≤ b) × (b ≤ 0x0338)
composite_marks a b p e = go (decomposition_right p (a ∷ b ∷ []) two)
  where
    two : decomposition unicode16 p ≡ a ∷ b ∷ []
    two = is_decomposition unicode16 a b p (composite_is unicode16 a b p e)

    go : Atom unicode16 p ⊎ T (right_text (a ∷ b ∷ [])) → (0x0300 ≤ b) × (b ≤ 0x0338)
    go (inl one) = absurd (two_not_one unicode16 a b p two one)
    go (inr h) = second_mark a b h

-- the lower bound alone
pub composite_mark : (a b p : ℕ) → composite unicode16 a b ≡ some p → 0x0300 ≤ b
composite_mark a b p e = (composite_marks a b p e).0

-- with any other second code point there is none
pub no_composite : (a b : ℕ) → ((0x0300 ≤ b) × (b ≤ 0x0338) → ⊥) → none ≡ composite unicode16 a b
no_composite a b h = go (composite unicode16 a b) refl
  where
    go : (o : Option ℕ) → composite unicode16 a b ≡ o → none ≡ composite unicode16 a b
    go none e = sym e
    go (some p) e = absurd (h (composite_marks a b p e))
