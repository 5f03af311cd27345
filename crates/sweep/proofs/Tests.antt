-- Tests over lists, and what holds where they are passed.
use mathlib.Core.Path.{◌≡◌, refl, sym, subst}
use mathlib.Core.Bool.{Bool, true, false, ◌&&◌, beq}
use mathlib.Core.List.Memᴰ
use mathlib.Core.List.{List, [], ◌∷◌, ◌++◌, Memᴰ}
use mathlib.Core.Logic.{◌⊎◌, inl, inr}
use lib.Dec.{T}
pub use Rattle.ucd.proofs.Tests.{both_left, both_right}
pub use Rattle.ucd.proofs.Tests.{passes_true as passed_true}

both : (a b : Bool) → T a → T b → T (a && b)
both true b s t = t
both false b s t = s

-- tests that agree are equal
pub beq_equal : (x y : Bool) → T (beq x y) → x ≡ y
beq_equal true true h = refl
beq_equal true false h = absurd h
beq_equal false true h = absurd h
beq_equal false false h = refl

-- all of some tests are passed
abbrev pub all : List Bool → Bool
all [] = true
all (b ∷ bs) = b && all bs

abbrev pub Passed : List Bool → Type 0
Passed [] = Unit {0}
Passed (b ∷ bs) = T b × Passed bs

pub passed : (bs : List Bool) → T (all bs) → Passed bs
passed [] t = tt
passed (b ∷ bs) t = (both_left b (all bs) t, passed bs (both_right b (all bs) t))

module _ {A : Type 0} where
  -- each element of a list passes a test
  abbrev pub each : (A → Bool) → List A → Bool
  each test [] = true
  each test (a ∷ more) = test a && each test more

  pub each_append : (test : A → Bool) (xs ys : List A) → T (each test xs) → T (each test ys) → T (each test (xs ++ ys))
  each_append test [] ys s t = t
  each_append test (x ∷ xs) ys s t =
      both (test x) (each test (xs ++ ys)) (both_left (test x) (each test xs) s) (each_append test xs ys (both_right (test x) (each test xs) s) t)

  -- something holds of each element
  abbrev pub Each : (A → Type 0) → List A → Type 0
  Each P [] = Unit {0}
  Each P (a ∷ more) = P a × Each P more

  pub each_holds : (P : A → Type 0) (xs : List A) → Each P xs → (a : A) → Memᴰ a xs → P a
  each_holds P [] h a m = absurd (Memᴰ.not-nil m)
  each_holds P (x ∷ xs) h a m = by (Memᴰ.cases_cons m) (λ k. each_holds P xs h.1 a k)
    where
      by : (a ≡ x) ⊎ Memᴰ a xs → (Memᴰ a xs → P a) → P a
      by (inl e) later = subst P (sym e) h.0
      by (inr k) later = later k

  pub each_passes : (test : A → Bool) (xs : List A) → T (each test xs) → (a : A) → Memᴰ a xs → T (test a)
  each_passes test xs t a m = each_holds (λ x. T (test x)) xs (hold xs t) a m
    where
      hold : (xs : List A) → T (each test xs) → Each (λ x. T (test x)) xs
      hold [] t = tt
      hold (x ∷ xs) t = (both_left (test x) (each test xs) t, hold xs (both_right (test x) (each test xs) t))

-- both cases
pub case_in : (capital : Bool) → Memᴰ capital (false ∷ true ∷ [])
case_in false = Memᴰ.head refl
case_in true = Memᴰ.tail (Memᴰ.head refl)
