-- A test that passes at each row of a list of a table says something of every number. Assumes nothing.
use mathlib.Core.Path.{◌≡◌, refl, subst}
use mathlib.Core.Bool.{Bool, true, false, ◌&&◌}
use mathlib.Core.List.{List, [], ◌∷◌}
use mathlib.Core.Logic.{◌⊎◌, inl, inr}
use mathlib.Core.Option.{Option, none, some}
use Prim.Native.Nat.{ℕ, ◌≤◌}
use lib.Dec.{T, leb, eqb, leb→le, eqb→eq}
use Rattle.ucd.specs.Table.{in_ranges, mapping_in, mapping_of, class_in, pick_text, pick_number}
use Rattle.ucd.proofs.Tests.{either, true_passes, both_left, both_right}

-- the test f passes at each code point that has a mapping, and its mapping
abbrev pub each_mapping : (ℕ → List ℕ → Bool) → List (ℕ × List ℕ) → Bool
each_mapping f [] = true
each_mapping f (r ∷ rs) = f r.0 r.1 && each_mapping f rs

-- one row, of k: the search stops there, or goes on
mapping_row : (f : ℕ → List ℕ → Bool) (k c : ℕ) (text rest : List ℕ) (hit : Bool) → eqb k c ≡ hit → T (f k text)
    → (rest ≡ c ∷ []) ⊎ T (f c rest) → (pick_text hit text rest ≡ c ∷ []) ⊎ T (f c (pick_text hit text rest))
mapping_row f k c text rest true e h later = inr (subst (λ (x : ℕ). T (f x text)) (eqb→eq k c (true_passes (eqb k c) e)) h)
mapping_row f k c text rest false e h later = later

-- then each number has no mapping, or passes it with its decomposition
pub mapping_passes : (f : ℕ → List ℕ → Bool) (rs : List (ℕ × List ℕ)) → T (each_mapping f rs) → (c : ℕ)
    → (mapping_in rs c ≡ c ∷ []) ⊎ T (f c (mapping_in rs c))
unfolding mapping_in
mapping_passes f [] h c = inl refl
mapping_passes f (r ∷ rs) h c =
    mapping_row f r.0 c r.1 (mapping_in rs c) (eqb r.0 c) refl (both_left (f r.0 r.1) (each_mapping f rs) h)
    (mapping_passes f rs (both_right (f r.0 r.1) (each_mapping f rs) h) c)

-- and each number has no mapping in the list, or passes it with its decomposition
pub mapping_none : (f : ℕ → List ℕ → Bool) (rs : List (ℕ × List ℕ)) → T (each_mapping f rs) → (c : ℕ) → (mapping_of rs c ≡ none) ⊎ T (f c (mapping_in rs c))
unfolding mapping_of mapping_in
mapping_none f [] h c = inl refl
mapping_none f (r ∷ rs) h c =
    either (eqb r.0 c)
    (λ e. rw e (inr (subst (λ (x : ℕ). T (f x r.1)) (eqb→eq r.0 c (true_passes (eqb r.0 c) e)) (both_left (f r.0 r.1) (each_mapping f rs) h))))
    (λ e. rw e (mapping_none f rs (both_right (f r.0 r.1) (each_mapping f rs) h) c))

-- the decomposition of c is its mapping, or c itself where it has none
abbrev pub or_itself : ℕ → Option (List ℕ) → List ℕ
or_itself c none = c ∷ []
or_itself c (some text) = text

pub mapping_decomposition : (rs : List (ℕ × List ℕ)) (c : ℕ) → or_itself c (mapping_of rs c) ≡ mapping_in rs c
unfolding mapping_of mapping_in
mapping_decomposition [] c = refl
mapping_decomposition (r ∷ rs) c = either (eqb r.0 c) (λ e. rw e refl) (λ e. rw e (mapping_decomposition rs c))

-- the test f passes at each code point that has a class, and its class
abbrev pub each_class : (ℕ → ℕ → Bool) → List (ℕ × ℕ) → Bool
each_class f [] = true
each_class f (r ∷ rs) = f r.0 r.1 && each_class f rs

-- one row, of k: the search stops there, or goes on
class_row : (f : ℕ → ℕ → Bool) (k c class rest : ℕ) (hit : Bool) → eqb k c ≡ hit → T (f k class)
    → (rest ≡ 0) ⊎ T (f c rest) → (pick_number hit class rest ≡ 0) ⊎ T (f c (pick_number hit class rest))
class_row f k c class rest true e h later = inr (subst (λ (x : ℕ). T (f x class)) (eqb→eq k c (true_passes (eqb k c) e)) h)
class_row f k c class rest false e h later = later

-- then each number has class 0, or passes it with its class
pub class_passes : (f : ℕ → ℕ → Bool) (rs : List (ℕ × ℕ)) → T (each_class f rs) → (c : ℕ) → (class_in rs c ≡ 0) ⊎ T (f c (class_in rs c))
unfolding class_in
class_passes f [] h c = inl refl
class_passes f (r ∷ rs) h c =
    class_row f r.0 c r.1 (class_in rs c) (eqb r.0 c) refl (both_left (f r.0 r.1) (each_class f rs) h)
    (class_passes f rs (both_right (f r.0 r.1) (each_class f rs) h) c)

-- the test f passes at the first and the last code point of each range
abbrev pub each_range : (ℕ → ℕ → Bool) → List (ℕ × ℕ) → Bool
each_range f [] = true
each_range f (r ∷ rs) = f r.0 r.1 && each_range f rs

-- then each number in a range lies between two such
pub range_passes : (f : ℕ → ℕ → Bool) (rs : List (ℕ × ℕ)) → T (each_range f rs) → (c : ℕ) → T (in_ranges rs c)
    → (first : ℕ) × (last : ℕ) × (first ≤ c) × (c ≤ last) × T (f first last)
unfolding in_ranges
range_passes f [] h c m = absurd m
range_passes f (r ∷ rs) h c m =
    either (leb r.0 c && leb c r.1)
    (λ e.
    let inside : T (leb r.0 c && leb c r.1) = true_passes (leb r.0 c && leb c r.1) e in (
      r.0,
      r.1,
      leb→le r.0 c (both_left (leb r.0 c) (leb c r.1) inside),
      leb→le c r.1 (both_right (leb r.0 c) (leb c r.1) inside),
      both_left (f r.0 r.1) (each_range f rs) h,
    ))
    (λ e. range_passes f rs (both_right (f r.0 r.1) (each_range f rs) h) c (rw e at m))
