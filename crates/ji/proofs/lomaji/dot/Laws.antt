-- The bytes of U+0358 in a text.
use mathlib.Core.Path.{◌≡◌, refl, sym, ap, ◌∙◌}
use mathlib.Core.Bool.{Bool, true, false, ◌&&◌, ◌||◌}
use mathlib.Core.List.{List, [], ◌∷◌, ◌++◌}
use Prim.Native.Nat.{ℕ, zero, suc, ◌+◌, ◌/◌, ◌%◌, ◌≤◌, ◌<◌}
use native.Mathlib.Numerals.{add-one}
use native.Mathlib.Decide.{dec_le, ℕ_discrete}
use native.Mathlib.Omega.{arith}
use borrow.Author.Tests.{eq-eqb, ne_eqb, eqb-true, eqb-false}
use lib.Dec.{eqb}
use lib.ListN.{length, get_or}
use Rattle.ucd.specs.Table.{listed}
use Rattle.ji.specs.Utf8.{bytes_of, encode}
use Rattle.ji.specs.Lomaji.Dot.{dot_in}
use Rattle.ji.proofs.Bools.{either, and_yes, and_no, and_false, or_yes, or_no}
use Rattle.ji.proofs.unicode.Bytes.{bytes_one, bytes_two, bytes_three, bytes_four, encode_nil, encode_cons, listed_nil, listed_cons}

-- 0358 is CD 98, and no other sequence has these bytes
dot_not : (b : ℕ) (s : List ℕ) → (b ≡ 0xCD → ⊥) → dot_in (b ∷ s) ≡ dot_in s
unfolding dot_in
dot_not b s ne = or_no _ _ (and_no _ _ (ne_eqb b 0xCD ne))

module _ (x : ℕ) (s : List ℕ) where
  abbrev DotHere : Type 0
  DotHere = dot_in (bytes_of x ++ s) ≡ (eqb x 0x0358 || dot_in s)

  dot_other : (x ≡ 0x0358 → ⊥) → dot_in s ≡ (eqb x 0x0358 || dot_in s)
  dot_other ne = sym (or_no _ _ (ne_eqb x 0x0358 ne))

  dot_two : 0x7F < x → x ≤ 0x7FF → DotHere
  unfolding dot_in
  dot_two h k =
      let a : ℕ = 0xC0 + x / 64 in
      let b : ℕ = 0x80 + x % 64 in
      let there : dot_in (b ∷ s) ≡ dot_in s = dot_not b s (λ e. omega arith) in
      rw (bytes_two x h k)
      (either (eqb x 0x0358)
      (λ e. let is = eqb-true x 0x0358 e in
      or_yes (eqb a 0xCD && eqb b 0x98) (dot_in (b ∷ s)) (and_yes _ _ (eq-eqb a 0xCD (omega arith)) ∙ eq-eqb b 0x98 (omega arith)) ∙ sym (or_yes _ _ e))
      (λ e. let not = eqb-false x 0x0358 e in
      or_no (eqb a 0xCD && eqb b 0x98) (dot_in (b ∷ s)) (by_first_law not (ℕ_discrete a 0xCD)) ∙ there ∙ dot_other not))
    where
      by_first_law : (x ≡ 0x0358 → ⊥) → Dec (0xC0 + x / 64 ≡ 0xCD) → (eqb (0xC0 + x / 64) 0xCD && eqb (0x80 + x % 64) 0x98) ≡ false
      by_first_law not (yes p) = and_yes _ _ (eq-eqb (0xC0 + x / 64) 0xCD p) ∙ ne_eqb (0x80 + x % 64) 0x98 (λ q. not (omega arith))
      by_first_law not (no p) = and_no _ _ (ne_eqb (0xC0 + x / 64) 0xCD p)

  by_size : Dec (x ≤ 0x7F) → Dec (x ≤ 0x7FF) → Dec (x ≤ 0xFFFF) → DotHere
  by_size (yes h) q r = rw (bytes_one x h) (dot_not x s (λ e. omega arith) ∙ dot_other (λ e. omega arith))
  by_size (no h) (yes k) r = dot_two (omega arith) k
  by_size (no h) (no k) (yes l) =
      rw (bytes_three x (omega arith) l)
      (dot_not _ _ (λ e. omega arith) ∙ dot_not _ _ (λ e. omega arith) ∙ dot_not _ s (λ e. omega arith) ∙ dot_other (λ e. omega arith))
  by_size (no h) (no k) (no l) =
      rw (bytes_four x (omega arith))
      (dot_not _ _ (λ e. omega arith) ∙ dot_not _ _ (λ e. omega arith) ∙ dot_not _ _ (λ e. omega arith) ∙ dot_not _ s (λ e. omega arith) ∙ dot_other (λ e. omega arith))

  dot_here : DotHere
  dot_here = by_size (dec_le x 0x7F) (dec_le x 0x7FF) (dec_le x 0xFFFF)

-- ── the two bytes beside each other
dot_found : (s : List ℕ) (k : ℕ) → suc k < length s → get_or s k 0 ≡ 0xCD → get_or s (suc k) 0 ≡ 0x98 → dot_in s ≡ true
unfolding dot_in
dot_found [] k h e f = absurd (omega arith)
dot_found (b ∷ s) zero h e f = or_yes _ _ (and_yes _ _ (eq-eqb b 0xCD e) ∙ eq-eqb (get_or s 0 0) 0x98 f)
dot_found (b ∷ s) (suc k) h e f =
    let here : Bool = eqb b 0xCD && eqb (get_or s 0 0) 0x98 in
    either here (λ y. or_yes here (dot_in s) y) (λ n. or_no here (dot_in s) n ∙ dot_found s k (omega arith) e f)

dot_missing : (s : List ℕ) → ((k : ℕ) → suc k < length s → get_or s k 0 ≡ 0xCD → get_or s (suc k) 0 ≡ 0x98 → ⊥) → dot_in s ≡ false
unfolding dot_in
dot_missing [] n = refl
dot_missing (b ∷ []) n = or_no _ _ (and_false (eqb b 0xCD))
dot_missing (b ∷ x ∷ s) n =
    let apart : (eqb b 0xCD && eqb x 0x98) ≡ false =
    either (eqb b 0xCD) (λ e. and_yes _ _ e ∙ ne_eqb x 0x98 (λ f. n 0 (omega arith) (eqb-true b 0xCD e) f)) (λ e. and_no _ _ e) in
    or_no (eqb b 0xCD && eqb x 0x98) (dot_in (x ∷ s)) apart ∙ dot_missing (x ∷ s) (λ k h. n (suc k) (omega arith))

-- a test that says whether they are there
pub dot_told : (s : List ℕ) (r : Bool)
    → (r ≡ true → (k : ℕ) × ((k + 2 ≤ length s) × (get_or s k 0 ≡ 0xCD) × (get_or s (k + 1) 0 ≡ 0x98)))
    → (r ≡ false → (k : ℕ) → k + 2 ≤ length s → get_or s k 0 ≡ 0xCD → get_or s (k + 1) 0 ≡ 0x98 → ⊥)
    → r ≡ dot_in s
dot_told s true found missing =
    let h = found refl in
    sym (dot_found s h.0 (omega (arith, h.1.0)) h.1.1 (rw add-one at h.1.2))
dot_told s false found missing =
    sym (dot_missing s (λ k h e f. missing refl k (omega arith) e (rw add-one f)))

pub dot_listed : (w : List ℕ) → dot_in (encode w) ≡ listed w 0x0358
unfolding dot_in
dot_listed [] = ap dot_in encode_nil ∙ sym (listed_nil 0x0358)
dot_listed (x ∷ w) =
    ap dot_in (encode_cons x w) ∙ dot_here x (encode w) ∙ ap (λ (b : Bool). eqb x 0x0358 || b) (dot_listed w) ∙ sym (listed_cons x w 0x0358)
