-- How many well-formed syllables there are, counted one by one.
use mathlib.Core.Path.{◌≡◌, refl}
use mathlib.Core.Bool.{true, false}
use mathlib.Core.List.{List, [], ◌∷◌, ◌++◌}
use Prim.Native.Nat.{ℕ, ◌+◌}
use lib.ListN.{length}
use Rattle.ji.specs.Unicode.{pick_number, listed}
use Rattle.ji.specs.Text.{begins, last, replace_from, replace_all}
use Rattle.grammar.specs.WellFormed.{onsets, rimes, stopped, tones_of, cased}

-- the sum of the numbers of each
abbrev sum {ℓ} : {A : Type ℓ} → (A → ℕ) → List A → ℕ
sum f [] = 0
sum f (a ∷ rest) = f a + sum f rest

-- over each onset, each rime, lower or upper case, and each tone that the rime may have
abbrev counted : (List ℕ → ℕ) → ℕ
counted f = sum (λ onset. sum (λ rime. sum (λ capital. sum (λ tone. f (cased capital (onset ++ rime))) (tones_of rime)) (false ∷ true ∷ [])) rimes) onsets

parts : (length onsets ≡ 18) × (length rimes ≡ 160)
unfolding rimes last
parts = (refl, refl)

-- a syllable each
pub syllables : counted (λ s. 1) ≡ 46080
unfolding rimes stopped last begins replace_from replace_all listed
syllables = refl

-- its fully numbered forms: the plain one, and the `_oo` form of one that holds 0358
pub numbered_forms : counted (λ s. pick_number (listed s 0x0358) 2 1) ≡ 48960
unfolding rimes stopped last begins replace_from replace_all listed
numbered_forms = refl
