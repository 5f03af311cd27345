-- Laws of the two signs that from_composed writes in letters, in one pass.
use mathlib.Core.Path.{◌≡◌, ap, ◌∙◌}
use mathlib.Core.List.{List, [], ◌∷◌, ◌++◌}
use Prim.Native.Nat.{ℕ, ◌<◌}
use native.Mathlib.Omega.{arith}
use Rattle.ji.specs.Text.{point, points, replace_all}
use Rattle.ji.specs.Lomaji.Keys.{respell}
use Rattle.ji.proofs.text.Laws.{replace_nil, replace_other, points_first, points_second, points_other}
use Rattle.khiin_records.specs.Syllable.{sign_rules}

module _ (vowel : ℕ) (low : vowel < 0x100) where
  abbrev pub signs : List ℕ → List ℕ
  signs s = respell (sign_rules (vowel ∷ [])) s

  vowel_other : vowel ≡ point "ⁿ" → ⊥
  vowel_other e = omega (arith, e, low)

  apart : replace_all (points "ⁿ") (points "nn") (vowel ∷ []) ≡ vowel ∷ []
  apart = replace_other (point "ⁿ") (points "nn") vowel [] vowel_other ∙ ap (λ (l : List ℕ). vowel ∷ l) (replace_nil (points "ⁿ") (points "nn"))

  pub sign_vowel : (x : ℕ) (s : List ℕ) → x ≡ 0x0358 → signs (x ∷ s) ≡ (vowel ∷ []) ++ signs s
  sign_vowel x s e = points_first 0x0358 (vowel ∷ []) (point "ⁿ") (points "nn") apart x s e

  pub sign_nasal : (x : ℕ) (s : List ℕ) → (x ≡ 0x0358 → ⊥) → x ≡ point "ⁿ" → signs (x ∷ s) ≡ points "nn" ++ signs s
  sign_nasal x s n e = points_second 0x0358 (vowel ∷ []) (point "ⁿ") (points "nn") apart x s n e

  pub sign_other : (x : ℕ) (s : List ℕ) → (x ≡ 0x0358 → ⊥) → (x ≡ point "ⁿ" → ⊥) → signs (x ∷ s) ≡ (x ∷ []) ++ signs s
  sign_other x s n m = points_other 0x0358 (vowel ∷ []) (point "ⁿ") (points "nn") apart x s n m

  pub signs_end : signs [] ≡ []
  signs_end = ap (replace_all (points "ⁿ") (points "nn")) (replace_nil (0x0358 ∷ []) (vowel ∷ [])) ∙ replace_nil (points "ⁿ") (points "nn")
