-- Computed tests and answers.
use mathlib.Core.Path.{◌≡◌, refl, sym, ◌∙◌, subst}
use mathlib.Core.Bool.{Bool, true, false, ◌&&◌}
use mathlib.Core.Option.{Option, none, some}
use Prim.Native.Nat.{ℕ}
use native.Mathlib.Omega.{arith}
use lib.Dec.{T}

-- no test is true and false
pub true_not_false : {b : Bool} → b ≡ true → b ≡ false → ⊥
true_not_false p q = subst T (sym p ∙ q) tt

-- a conjunction that is true has both of its tests true
pub and_both : (a b : Bool) → (a && b) ≡ true → (a ≡ true) × (b ≡ true)
and_both true b e = (refl, e)
and_both false b e = absurd (true_not_false e refl)

-- an answer is missing or there
pub by_answer {ℓ ℓ'} : {A : Type ℓ} {P : Type ℓ'} (o : Option A) → (o ≡ none → P) → ((a : A) → o ≡ some a → P) → P
by_answer none f g = f refl
by_answer (some a) f g = g a refl

-- no answer is missing and there
pub none_not_some {ℓ} : {A : Type ℓ} {o : Option A} {a : A} → o ≡ none → o ≡ some a → ⊥
none_not_some p q = let z : ◌≡◌ {A = ℕ} 0 1 = cc in omega arith
