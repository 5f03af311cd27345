-- Laws of tests. Assumes nothing.
use mathlib.Core.Path.{◌≡◌, refl, sym, ap₂, subst}
use mathlib.Core.Bool.{Bool, true, false, ◌&&◌}
use mathlib.Core.List.{List, [], ◌∷◌}
use Prim.Native.Nat.{ℕ}
use lib.Dec.{T, eqb, eqb→eq}
use borrow.Author.Tests.{eq-eqb}
use Rattle.ucd.specs.Table.{All, same}

-- by cases on a test
pub either {ℓ} : {P : Type ℓ} (b : Bool) → (b ≡ true → P) → (b ≡ false → P) → P
either true f g = f refl
either false f g = g refl

-- a test that is true passes
pub true_passes : (b : Bool) → b ≡ true → T b
true_passes b e = subst T (sym e) tt

-- a test that passes is true
pub passes_true : (b : Bool) → T b → b ≡ true
passes_true true t = refl
passes_true false t = absurd t

-- two tests that pass together pass each
pub both_left : (a b : Bool) → T (a && b) → T a
both_left true b t = tt
both_left false b t = t

pub both_right : (a b : Bool) → T (a && b) → T b
both_right true b t = t
both_right false b t = absurd t

-- texts that pass the test are the same
pub same_equal : (s t : List ℕ) → T (same s t) → s ≡ t
unfolding same
same_equal [] [] h = refl
same_equal [] (y ∷ t) h = absurd h
same_equal (x ∷ s) [] h = absurd h
same_equal (x ∷ s) (y ∷ t) h =
    ap₂ ◌∷◌ (eqb→eq x y (both_left (eqb x y) (same s t) h)) (same_equal s t (both_right (eqb x y) (same s t) h))

-- a text is the same as itself
pub same_itself : (s : List ℕ) → same s s ≡ true
unfolding same
same_itself [] = refl
same_itself (x ∷ s) = rw (eq-eqb x x refl) (same_itself s)

-- the test f passes at each code point of a text
abbrev pub each : (ℕ → Bool) → List ℕ → Bool
each f [] = true
each f (c ∷ s) = f c && each f s

-- then what the test shows holds of each
pub each_all : (f : ℕ → Bool) (P : ℕ → Type 0) → ((c : ℕ) → T (f c) → P c) → (s : List ℕ) → T (each f s) → All P s
each_all f P from [] h = tt
each_all f P from (c ∷ s) h = (from c (both_left (f c) (each f s) h), each_all f P from s (both_right (f c) (each f s) h))
