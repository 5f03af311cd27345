-- Texts of the table: what a code point spreads to, which texts are accepted, and the walk from code points to bytes.
use mathlib.Core.Path.{◌≡◌, refl, sym, ap, ◌∙◌, subst}
use mathlib.Core.Bool.{Bool, true, false}
use mathlib.Core.List.{List, [], ◌∷◌, ◌++◌}
use Prim.Native.Nat.{ℕ, zero, suc, ◌+◌, ◌-◌, ◌≤◌, ◌<◌}
use native.Mathlib.Omega.{arith}
use borrow.Author.Tests.{eq-eqb, ne_eqb}
use lib.ListN.{length, drop, get_or, drop_of_length-le}
use lib.Seq.{drop-cons, drop-drop}
use Rattle.ucd.specs.Table.{Table, All, member, decomposition, mapping_in}
use Rattle.ucd.specs.Full.{full, pass, passes}
use Rattle.ucd.specs.Answer.{text_of}
use Rattle.ucd.specs.declared.Mapping.{Mapping}
use Rattle.ucd.specs.Unicode16.{unicode16, mappings16}
use Rattle.ucd.proofs.Unicode16.{low_atom, full_itself, full_length}
use Rattle.ji.specs.Utf8.{width_at, point_at}
use Rattle.ji.specs.Unicode.{members, accepted_from, accepted, spread}
use Rattle.ji.proofs.Bools.{and_yes, and_no, and_left, and_right, text_yes, text_no}
use Rattle.ji.proofs.Decomposition.{full_nil, full_append}
use Rattle.ji.proofs.utf8.Decoding.{drop_rest}

-- ── what a code point spreads to
-- what the lookup told of a code point is its decomposition
pub told : (c : ℕ) {answer x : Mapping} → text_of c answer ≡ decomposition unicode16 c → answer ≡ x → decomposition unicode16 c ≡ text_of c x
told c says is = sym says ∙ ap (text_of c) is

module _ (t : Table) where
  pub spread_nil : (d : Bool) → spread t d [] ≡ []
  unfolding spread
  spread_nil true = full_nil t
  spread_nil false = refl

  pub spread_append : (d : Bool) (s u : List ℕ) → spread t d (s ++ u) ≡ spread t d s ++ spread t d u
  unfolding spread
  spread_append true s u = full_append t s u
  spread_append false s u = refl

  pub spread_full : (s : List ℕ) → spread t true s ≡ full t s
  unfolding spread
  spread_full s = refl

  pub spread_plain : (s : List ℕ) → spread t false s ≡ s
  unfolding spread
  spread_plain s = refl

-- a code point takes at most three, and one of a single byte takes one
pub spread_length : (d : Bool) (c : ℕ) → length (spread unicode16 d (c ∷ [])) ≤ 3
unfolding spread
spread_length true c = full_length c
spread_length false c = omega arith

-- what lies below 00C0 stays as it is
pub spread_itself : (d : Bool) (c : ℕ) → c < 0xC0 → spread unicode16 d (c ∷ []) ≡ c ∷ []
unfolding spread
spread_itself true c h = full_itself c (low_atom c h)
spread_itself false c h = refl

pub spread_low : (d : Bool) (c : ℕ) → c < 0xC0 → length (spread unicode16 d (c ∷ [])) ≡ 1
spread_low d c h = ap length (spread_itself d c h)

-- ── which texts are accepted
module _ (t : Table) where
  pub members_append : (s u : List ℕ) → members t s ≡ true → members t (s ++ u) ≡ members t u
  unfolding members
  members_append [] u h = refl
  members_append (c ∷ s) u h = and_yes _ _ (and_left (member t c) (members t s) h) ∙ members_append s u (and_right (member t c) (members t s) h)

  pub members_not : (s : List ℕ) (c : ℕ) (u : List ℕ) → members t s ≡ true → member t c ≡ false → members t (s ++ (c ∷ u)) ≡ false
  unfolding members
  members_not s c u h k = members_append s (c ∷ u) h ∙ and_no _ _ k

  pub members_one : (c : ℕ) → member t c ≡ true → members t (c ∷ []) ≡ true
  unfolding members
  members_one c h = and_yes _ _ h

  pub members_all : (P : ℕ → Type 0) → ((c : ℕ) → member t c ≡ true → P c) → (s : List ℕ) → members t s ≡ true → All P s
  unfolding members
  members_all P f [] h = tt
  members_all P f (c ∷ s) h = (f c (and_left (member t c) (members t s) h), members_all P f s (and_right (member t c) (members t s) h))

  skipped : (k : ℕ) (s : List ℕ) → accepted_from t k s ≡ accepted_from t 0 (drop k s)
  unfolding accepted_from
  skipped zero s = refl
  skipped (suc k) [] = refl
  skipped (suc k) (b ∷ s) = skipped k s

  stops_ill : (b : ℕ) (s : List ℕ) → width_at (b ∷ s) ≡ 0 → accepted t (b ∷ s) ≡ []
  unfolding accepted accepted_from
  stops_ill b s e = text_yes _ _ _ (eq-eqb (width_at (b ∷ s)) 0 e)

  stops_outside : (b : ℕ) (s : List ℕ) → 0 < width_at (b ∷ s) → member t (point_at (b ∷ s)) ≡ false → accepted t (b ∷ s) ≡ []
  unfolding accepted accepted_from
  stops_outside b s h k = text_no _ _ _ (ne_eqb (width_at (b ∷ s)) 0 (λ e. omega arith)) ∙ text_no _ _ _ k

  goes_on : (b : ℕ) (s : List ℕ) → 0 < width_at (b ∷ s) → member t (point_at (b ∷ s)) ≡ true → accepted t (b ∷ s) ≡ point_at (b ∷ s) ∷ accepted t (drop (width_at (b ∷ s)) (b ∷ s))
  unfolding accepted accepted_from
  goes_on b s h k =
      text_no _ _ _ (ne_eqb (width_at (b ∷ s)) 0 (λ e. omega arith)) ∙ text_yes _ _ _ k
      ∙ ap (λ (l : List ℕ). point_at (b ∷ s) ∷ l) (skipped (width_at (b ∷ s) - 1) s ∙ ap (accepted_from t 0) (drop_rest (width_at (b ∷ s)) b s h))

  -- the same at a place
  module _ (s : List ℕ) (i : ℕ) (h : i < length s) where
    here : drop i s ≡ get_or s i 0 ∷ drop (suc i) s
    here = drop-cons s i 0 h

    pub accepted_ill : width_at (drop i s) ≡ 0 → accepted t (drop i s) ≡ []
    accepted_ill e = ap (accepted t) here ∙ stops_ill (get_or s i 0) (drop (suc i) s) (ap width_at (sym here) ∙ e)

    pub accepted_outside : 0 < width_at (drop i s) → member t (point_at (drop i s)) ≡ false → accepted t (drop i s) ≡ []
    accepted_outside k m =
        ap (accepted t) here
        ∙ stops_outside (get_or s i 0) (drop (suc i) s) (subst (λ (l : List ℕ). 0 < width_at l) here k) (ap (λ (l : List ℕ). member t (point_at l)) (sym here) ∙ m)

    pub accepted_at : 0 < width_at (drop i s) → member t (point_at (drop i s)) ≡ true → accepted t (drop i s) ≡ point_at (drop i s) ∷ accepted t (drop (i + width_at (drop i s)) s)
    accepted_at k m =
        ap (accepted t) here
        ∙ goes_on (get_or s i 0) (drop (suc i) s) (subst (λ (l : List ℕ). 0 < width_at l) here k) (ap (λ (l : List ℕ). member t (point_at l)) (sym here) ∙ m)
        ∙ ap (λ (l : List ℕ). point_at l ∷ accepted t (drop (width_at l) l)) (sym here)
        ∙ ap (λ (l : List ℕ). point_at (drop i s) ∷ accepted t l) (drop-drop (width_at (drop i s)) i s)

  pub accepted_end : (s : List ℕ) (i : ℕ) → length s ≤ i → accepted t (drop i s) ≡ []
  unfolding accepted accepted_from
  accepted_end s i h = ap (accepted t) (drop_of_length-le s h)

  accepted_nil : accepted t [] ≡ []
  unfolding accepted accepted_from
  accepted_nil = refl

-- the dot of o+0358 decomposes no further
pub dot_full : full unicode16 (0x0358 ∷ []) ≡ 0x0358 ∷ []
unfolding full passes pass decomposition unicode16 mapping_in mappings16
dot_full = refl
