-- Settled texts: the walk that tells so, and what a tone mark behind a letter makes of them.
use mathlib.Core.Path.{◌≡◌, refl, sym, ap, ◌∙◌, subst}
use mathlib.Core.Bool.{true}
use mathlib.Core.List.{List, [], ◌∷◌, ◌++◌}
use mathlib.Core.Logic.{◌⊎◌, inl, inr}
use mathlib.Core.Option.{none, some}
use Prim.Native.Nat.{ℕ, zero, suc, ◌+◌, ◌<◌}
use native.Mathlib.Numerals.{add-one}
use lib.ListN.{length, take, drop, get_or}
use lib.Seq.{split_at, take-suc, append_snoc}
use Rattle.ji.specs.Unicode.{unicode16, composite}
use Rattle.khiin.specs.Syllable.{encoded}
use Rattle.khiin.specs.Compose.{settled_from}
use Rattle.khiin.proofs.syllable.marking.Settled.{IsMark, Fits, encoded_one, encoded_none}

-- ── the walk that tells whether a text is settled
-- ── a settled text with a tone mark behind the letter at k
module _ (s : List ℕ) (k m : ℕ) (h : settled_from 0 s ≡ true) (l : k < length s) (low : get_or s k 0 < 0xC0) (mark : IsMark m) where
  abbrev x : ℕ
  x = get_or s k 0

  parts : s ≡ take k s ++ (x ∷ drop (k + 1) s)
  parts = rw (add-one k) (split_at s k 0 l)

  settled_parts : settled_from 0 (take k s ++ (x ∷ drop (k + 1) s)) ≡ true
  settled_parts = subst (λ (t : List ℕ). settled_from 0 t ≡ true) parts h

  letter_first : take (k + 1) s ++ (m ∷ drop (k + 1) s) ≡ take k s ++ (x ∷ m ∷ drop (k + 1) s)
  letter_first =
      let e : take (k + 1) s ≡ take k s ++ (x ∷ []) = rw (add-one k) (take-suc s k 0 l) in
      ap (λ (t : List ℕ). t ++ (m ∷ drop (k + 1) s)) e ∙ append_snoc (take k s) x (m ∷ drop (k + 1) s)

  pub marked_one : (c : ℕ) → composite unicode16 x m ≡ some c → c < 0x0300 → encoded unicode16 (take (k + 1) s ++ (m ∷ drop (k + 1) s)) ≡ take k s ++ (c ∷ drop (k + 1) s)
  marked_one c e small = ap (encoded unicode16) letter_first ∙ encoded_one (take k s) x (drop (k + 1) s) settled_parts low m mark c e small

  pub marked_none : (m ≡ 0x030D) ⊎ (get_or s (k + 1) 0 ≡ 0x0324 → ⊥) → composite unicode16 x m ≡ none → encoded unicode16 (take (k + 1) s ++ (m ∷ drop (k + 1) s)) ≡ take (k + 1) s ++ (m ∷ drop (k + 1) s)
  marked_none f e =
      ap (encoded unicode16) letter_first ∙ encoded_none (take k s) x (drop (k + 1) s) settled_parts low m mark (fits f) e ∙ sym letter_first
    where
      fits : (m ≡ 0x030D) ⊎ (get_or s (k + 1) 0 ≡ 0x0324 → ⊥) → Fits (take k s) x (drop (k + 1) s) settled_parts low m mark
      fits (inl z) = inl z
      fits (inr n) = inr (λ z. n (sym (start s (k + 1)) ∙ z))
        where
          start : (s : List ℕ) (i : ℕ) → get_or (drop i s) 0 0 ≡ get_or s i 0
          start [] zero = refl
          start [] (suc i) = refl
          start (y ∷ s) zero = refl
          start (y ∷ s) (suc i) = start s i
