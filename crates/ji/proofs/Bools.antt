-- Laws of the Booleans that the definitions choose by.
use mathlib.Core.Path.{◌≡◌, refl, ap, ◌∙◌}
use mathlib.Core.Bool.{Bool, true, false, ◌&&◌, ◌||◌}
use mathlib.Core.List.{List}
use Prim.Native.Nat.{ℕ, ◌≤◌, ◌<◌}
use native.Mathlib.Omega.{arith}
use lib.Dec.{leb}
use borrow.Author.Tests.{le-leb, lt-leb, leb-true}
use Rattle.ucd.specs.Table.{pick_number, pick_text}
-- a Bool is one or the other
pub use Rattle.ucd.proofs.Tests.{either}
use Rattle.ji.specs.Text.{within}

pub false_true : false ≡ true → ⊥
false_true e = let z : ◌≡◌ {A = ℕ} 0 1 = cc in omega arith

pub and_no : (a b : Bool) → a ≡ false → (a && b) ≡ false
and_no a b e = ap (λ (x : Bool). x && b) e

pub and_yes : (a b : Bool) → a ≡ true → (a && b) ≡ b
and_yes a b e = ap (λ (x : Bool). x && b) e

pub and_group : (a b c : Bool) → ((a && b) && c) ≡ (a && (b && c))
and_group true b c = refl
and_group false b c = refl

pub and_false : (a : Bool) → (a && false) ≡ false
and_false true = refl
and_false false = refl

pub and_true : (a : Bool) → (a && true) ≡ a
and_true true = refl
and_true false = refl

pub and_left : (a b : Bool) → (a && b) ≡ true → a ≡ true
and_left true b e = refl
and_left false b e = e

pub and_right : (a b : Bool) → (a && b) ≡ true → b ≡ true
and_right true b e = e
and_right false b e = absurd (false_true e)

pub or_yes : (a b : Bool) → a ≡ true → (a || b) ≡ true
or_yes a b e = ap (λ (x : Bool). x || b) e

pub or_no : (a b : Bool) → a ≡ false → (a || b) ≡ b
or_no a b e = ap (λ (x : Bool). x || b) e

pub or_false : (a : Bool) → (a || false) ≡ a
or_false true = refl
or_false false = refl

pub number_yes : (b : Bool) (x y : ℕ) → b ≡ true → pick_number b x y ≡ x
number_yes b x y e = ap (λ (t : Bool). pick_number t x y) e

pub number_no : (b : Bool) (x y : ℕ) → b ≡ false → pick_number b x y ≡ y
number_no b x y e = ap (λ (t : Bool). pick_number t x y) e

pub text_yes : (b : Bool) (x y : List ℕ) → b ≡ true → pick_text b x y ≡ x
text_yes b x y e = ap (λ (t : Bool). pick_text t x y) e

pub text_no : (b : Bool) (x y : List ℕ) → b ≡ false → pick_text b x y ≡ y
text_no b x y e = ap (λ (t : Bool). pick_text t x y) e

pub within_yes : (lo hi x : ℕ) → lo ≤ x → x ≤ hi → within lo hi x ≡ true
within_yes lo hi x h k = and_yes _ _ (le-leb _ _ h) ∙ le-leb _ _ k

pub within_below : (lo hi x : ℕ) → x < lo → within lo hi x ≡ false
within_below lo hi x h = and_no _ _ (lt-leb _ _ h)

pub within_above : (lo hi x : ℕ) → hi < x → within lo hi x ≡ false
within_above lo hi x h = ap (λ (b : Bool). leb lo x && b) (lt-leb _ _ h) ∙ and_false (leb lo x)

pub within_is : (lo hi x : ℕ) → within lo hi x ≡ true → (lo ≤ x) × (x ≤ hi)
within_is lo hi x e = (leb-true lo x (and_left (leb lo x) (leb x hi) e), leb-true x hi (and_right (leb lo x) (leb x hi) e))
