-- Alignment of keys with a candidate that has all of them.
use mathlib.Core.Path.{◌≡◌, refl, ap}
use mathlib.Core.Bool.{Bool, true, false}
use mathlib.Core.List.{List, [], ◌∷◌}
use Prim.Native.Nat.{ℕ, suc, ◌+◌, ◌≤◌, ◌<◌}
use native.Mathlib.Omega.{arith}
use borrow.Author.Tests.{eq-eqb, ne_eqb, leb-true, leb-false}
use lib.Dec.{leb, eqb}
use lib.ListN.{length, drop_of_length-le}
use Rattle.ji.specs.Unicode.{pick_number, same}
use Rattle.ji.specs.Text.{lower}
use Rattle.ji.specs.Tone.{is_tone}
use Rattle.ji.proofs.Bools.{either, and_no}
use Rattle.khiin_records.specs.Syllable.{Syllable, raw}
use Rattle.khiin_records.specs.Alignment.{shared_prefix, longer, grows, aligned_with}

pub shared_itself : (keys : List ℕ) → shared_prefix keys keys ≡ length keys
unfolding shared_prefix
shared_itself [] = refl
shared_itself (k ∷ keys) = rw (eq-eqb (lower k) (lower k) refl) (ap suc (shared_itself keys))

shared_most : (keys s : List ℕ) → shared_prefix keys s ≤ length keys
unfolding shared_prefix
shared_most [] s = omega arith
shared_most (k ∷ keys) [] = omega arith
shared_most (k ∷ keys) (c ∷ s) = by (eqb (lower k) (lower c)) (shared_most keys s)
  where
    by : (b : Bool) → shared_prefix keys s ≤ length keys → pick_number b (suc (shared_prefix keys s)) 0 ≤ suc (length keys)
    by true h = omega arith
    by false h = omega arith

-- a candidate has all the keys
abbrev pub HasAll : List ℕ → Syllable → Type 0
HasAll keys s = shared_prefix keys (raw s) ≡ length keys

module _ (keys : List ℕ) (earlier later : Syllable) where
  abbrev first : ℕ
  first = shared_prefix keys (raw earlier)

  abbrev second : ℕ
  second = shared_prefix keys (raw later)

  -- the one that is chosen of two has them all where one of them has
  pub longer_earlier : HasAll keys earlier → HasAll keys (longer keys earlier later)
  unfolding longer
  longer_earlier h = either (leb first second) (λ y. rw y (omega (arith, leb-true first second y, shared_most keys (raw later)))) (λ n. rw n h)

  pub longer_later : HasAll keys later → HasAll keys (longer keys earlier later)
  unfolding longer
  longer_later h = either (leb first second) (λ y. rw y h) (λ n. absurd (let q : ⊥ = omega (arith, leb-false first second n, shared_most keys (raw earlier)) in q))

-- nothing stands behind the keys, so the length does not grow
grows_not : (keys : List ℕ) (n : ℕ) (s : Syllable) → length keys ≤ n → grows keys n s ≡ false
unfolding grows same
grows_not keys n s h =
    either (is_tone s.tone)
    (λ y. rw (y, drop_of_length-le keys {i = n + 1} (omega arith)))
    (λ e. and_no _ _ e)

pub aligned_all : (keys : List ℕ) (s : Syllable) → 0 < length keys → HasAll keys s → aligned_with keys s ≡ length keys
unfolding aligned_with
aligned_all keys s some h =
    rw (h, ne_eqb (length keys) 0 (λ e. omega arith), grows_not keys (length keys) s (omega arith))
