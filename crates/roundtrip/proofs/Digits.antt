-- Digits of texts, cutting after each, and the combinations that have a digit from each part.
use mathlib.Core.Path.{◌≡◌, refl, sym, ap, ◌∙◌}
use mathlib.Core.Bool.{Bool, true, false}
use mathlib.Core.List.Memᴰ
use mathlib.Core.List.{List, [], ◌∷◌, ◌++◌, map, append_assoc, append-nil, Memᴰ}
use mathlib.Core.Logic.{◌⊎◌, inl, inr}
use Prim.Native.Nat.{ℕ, zero, suc, ◌+◌, ◌≤◌, ◌<◌}
use native.Mathlib.Omega.{arith}
use lib.Dec.{T, eqb, eqb-suc-suc, eqb→eq}
use lib.ListN.{length, get_or}
use Rattle.ji.specs.Unicode.{pick_number}
use Rattle.ji.proofs.Cases.{true_not_false}
use Rattle.khiin_entries.specs.KeySequence.{each, product}
use Rattle.grammar.specs.WellFormed.{Texts, pick_texts, passing}
use Rattle.sweep.proofs.Tests.{Each}
use Rattle.roundtrip.specs.Demand3.{is_digit, digits, is_numbered, cut}

pub digits_append : (s t : List ℕ) → digits (s ++ t) ≡ digits s + digits t
digits_append [] t = omega arith
digits_append (c ∷ s) t = by (is_digit c) (digits_append s t)
  where
    by : (b : Bool) → digits (s ++ t) ≡ digits s + digits t → pick_number b (suc (digits (s ++ t))) (digits (s ++ t)) ≡ pick_number b (suc (digits s)) (digits s) + digits t
    by true e = omega arith
    by false e = e

-- ── keys and one digit behind them
-- no key of a text is a digit
abbrev pub Bare : List ℕ → Type 0
Bare [] = Unit {0}
Bare (c ∷ s) = (is_digit c ≡ false) × Bare s

pub bare_digits : (s : List ℕ) → Bare s → digits s ≡ 0
bare_digits [] h = refl
bare_digits (c ∷ s) h = rw h.0 (bare_digits s h.1)

pub one_digit : (s : List ℕ) (d : ℕ) → Bare s → is_digit d ≡ true → digits (s ++ (d ∷ [])) ≡ 1
one_digit s d h e = digits_append s (d ∷ []) ∙ (rw (bare_digits s h, e) refl)

pub cut_piece : (s : List ℕ) (d : ℕ) (t : List ℕ) → Bare s → is_digit d ≡ true → cut ((s ++ (d ∷ [])) ++ t) ≡ (s ++ (d ∷ [])) ∷ cut t
cut_piece [] d t h e = rw e
cut_piece (c ∷ s) d t h e = rw (h.0, cut_piece s d t h.1 e)

-- ── the texts that pass a test
module _ (f : List ℕ → Bool) where
  passing_append : (xs ys : Texts) → passing f (xs ++ ys) ≡ passing f xs ++ passing f ys
  passing_append [] ys = refl
  passing_append (x ∷ xs) ys = by (f x) (passing_append xs ys)
    where
      by : (b : Bool) → passing f (xs ++ ys) ≡ passing f xs ++ passing f ys
          → pick_texts b (x ∷ passing f (xs ++ ys)) (passing f (xs ++ ys)) ≡ pick_texts b (x ∷ passing f xs) (passing f xs) ++ passing f ys
      by true e = ap (λ (l : Texts). x ∷ l) e
      by false e = e

  pub passing_in : (t : List ℕ) (xs : Texts) → Memᴰ t xs → f t ≡ true → Memᴰ t (passing f xs)
  passing_in t [] m e = m
  passing_in t (x ∷ xs) m e = by (f x) refl (Memᴰ.cases_cons m) (λ k. passing_in t xs k e)
    where
      by : (b : Bool) → f x ≡ b → (t ≡ x) ⊎ Memᴰ t xs → (Memᴰ t xs → Memᴰ t (passing f xs)) → Memᴰ t (pick_texts b (x ∷ passing f xs) (passing f xs))
      by true h (inl p) k = Memᴰ.head p
      by true h (inr n) k = Memᴰ.tail (k n)
      by false h (inl p) k = absurd (true_not_false e (ap f p ∙ h))
      by false h (inr n) k = k n

  pub passing_all : (xs : Texts) → Each (λ t. f t ≡ true) xs → passing f xs ≡ xs
  passing_all [] h = refl
  passing_all (x ∷ xs) h = rw (h.0, passing_all xs h.1)

-- ── combinations
abbrev behind : List ℕ → Texts → Texts
behind x ts = map (λ (t : List ℕ). x ++ t) ts

each_append : (xs ys ts : Texts) → each (xs ++ ys) ts ≡ each xs ts ++ each ys ts
each_append [] ys ts = refl
each_append (x ∷ xs) ys ts = rw (each_append xs ys ts) (sym (append_assoc (behind x ts) (each xs ts) (each ys ts)))

-- a text with one digit in front: the test for one digit more keeps as many; a text with none: it keeps nothing
module _ (x : List ℕ) (n : ℕ) where
  behind_one : digits x ≡ 1 → (ts : Texts) → passing (is_numbered (suc n)) (behind x ts) ≡ behind x (passing (is_numbered n) ts)
  behind_one e [] = refl
  behind_one e (t ∷ ts) =
      let test : is_numbered (suc n) (x ++ t) ≡ is_numbered n t = ap (λ (k : ℕ). eqb k (suc n)) (digits_append x t ∙ (rw e (omega arith))) ∙ eqb-suc-suc (digits t) n in
      rw test (by (is_numbered n t) (behind_one e ts))
    where
      by : (b : Bool) → passing (is_numbered (suc n)) (behind x ts) ≡ behind x (passing (is_numbered n) ts)
          → pick_texts b ((x ++ t) ∷ passing (is_numbered (suc n)) (behind x ts)) (passing (is_numbered (suc n)) (behind x ts)) ≡ behind x (pick_texts b (t ∷ passing (is_numbered n) ts) (passing (is_numbered n) ts))
      by true h = ap (λ (l : Texts). (x ++ t) ∷ l) h
      by false h = h

  behind_none : digits x ≡ 0 → (ts : Texts) → Each (λ t. digits t ≤ n) ts → passing (is_numbered (suc n)) (behind x ts) ≡ []
  behind_none e [] a = refl
  behind_none e (t ∷ ts) a = by (is_numbered (suc n) (x ++ t)) (eqb→eq (digits (x ++ t)) (suc n)) (behind_none e ts a.1)
    where
      by : (b : Bool) → (T b → digits (x ++ t) ≡ suc n) → passing (is_numbered (suc n)) (behind x ts) ≡ []
          → pick_texts b ((x ++ t) ∷ passing (is_numbered (suc n)) (behind x ts)) (passing (is_numbered (suc n)) (behind x ts)) ≡ []
      by true k h = let few = a.0 in absurd (omega (arith, k tt, digits_append x t))
      by false k h = h

module _ (n : ℕ) (ts : Texts) where
  each_one : (xs : Texts) → Each (λ x. digits x ≡ 1) xs → passing (is_numbered (suc n)) (each xs ts) ≡ each xs (passing (is_numbered n) ts)
  each_one [] a = refl
  each_one (x ∷ xs) a = passing_append (is_numbered (suc n)) (behind x ts) (each xs ts) ∙ (rw (behind_one x n a.0 ts, each_one xs a.1))

  each_none : (xs : Texts) → Each (λ x. digits x ≡ 0) xs → Each (λ t. digits t ≤ n) ts → passing (is_numbered (suc n)) (each xs ts) ≡ []
  each_none [] a few = refl
  each_none (x ∷ xs) a few = passing_append (is_numbered (suc n)) (behind x ts) (each xs ts) ∙ (rw (behind_none x n a.0 ts few, each_none xs a.1 few))

module _ (P : List ℕ → Type 0) where
  pub holds_append : (xs ys : Texts) → Each P xs → Each P ys → Each P (xs ++ ys)
  holds_append [] ys a b = b
  holds_append (x ∷ xs) ys a b = (a.0, holds_append xs ys a.1 b)

  -- what each choice and each combination of the rest bring about together holds of each combination
  module _ (Q R : List ℕ → Type 0) (join : (x t : List ℕ) → Q x → R t → P (x ++ t)) where
    holds_behind : (x : List ℕ) → Q x → (ts : Texts) → Each R ts → Each P (behind x ts)
    holds_behind x h [] a = tt
    holds_behind x h (t ∷ ts) a = (join x t h a.0, holds_behind x h ts a.1)

    pub holds_each : (xs ts : Texts) → Each Q xs → Each R ts → Each P (each xs ts)
    holds_each [] ts a b = tt
    holds_each (x ∷ xs) ts a b = holds_append (behind x ts) (each xs ts) (holds_behind x a.0 ts b) (holds_each xs ts a.1 b)

holds_weaker : (P Q : List ℕ → Type 0) → ((t : List ℕ) → P t → Q t) → (xs : Texts) → Each P xs → Each Q xs
holds_weaker P Q f [] a = tt
holds_weaker P Q f (x ∷ xs) a = (f x a.0, holds_weaker P Q f xs a.1)

-- the choices of a part: with a digit, and without
pub record Choices (toned plain : Texts) : Type 0 where
  pub one : Each (λ x. digits x ≡ 1) toned
  pub none : Each (λ x. digits x ≡ 0) plain

module _ {A : Type 0} (toned plain : A → Texts) (ok : (a : A) → Choices (toned a) (plain a)) where
  abbrev choices : A → Texts
  choices a = toned a ++ plain a

  few_digits : (parts : List A) → Each (λ t. digits t ≤ length parts) (product (map choices parts))
  few_digits [] = (omega arith, tt)
  few_digits (a ∷ parts) =
      holds_each (λ t. digits t ≤ suc (length parts)) (λ x. digits x ≤ 1) (λ t. digits t ≤ length parts) (λ x t h k. omega (arith, digits_append x t))
      (choices a) (product (map choices parts))
      (holds_append (λ x. digits x ≤ 1) (toned a) (plain a)
      (holds_weaker (λ x. digits x ≡ 1) (λ x. digits x ≤ 1) (λ t e. omega arith) (toned a) (ok a).one)
      (holds_weaker (λ x. digits x ≡ 0) (λ x. digits x ≤ 1) (λ t e. omega arith) (plain a) (ok a).none))
      (few_digits parts)

  -- of all combinations, those with as many digits as parts are the combinations of the choices with a digit
  pub numbered_product : (parts : List A) → passing (is_numbered (length parts)) (product (map choices parts)) ≡ product (map toned parts)
  numbered_product [] = refl
  numbered_product (a ∷ parts) =
      let ts = product (map choices parts) in
      let n = length parts in
      ap (passing (is_numbered (suc n))) (each_append (toned a) (plain a) ts)
      ∙ passing_append (is_numbered (suc n)) (each (toned a) ts) (each (plain a) ts)
      ∙ (rw (each_one n ts (toned a) (ok a).one, each_none n ts (plain a) (ok a).none (few_digits parts), numbered_product parts) (append-nil (each (toned a) (product (map toned parts)))))

-- ── what a combination is made of
pub each_in : (t : List ℕ) (xs ts : Texts) → Memᴰ t (each xs ts) → (x : List ℕ) × (u : List ℕ) × Memᴰ x xs × (t ≡ x ++ u) × Memᴰ u ts
each_in t [] ts m = absurd (Memᴰ.not-nil m)
each_in t (x ∷ xs) ts m = by (Memᴰ.append_cases (behind x ts) m) (λ k. each_in t xs ts k)
  where
    by : Memᴰ t (behind x ts) ⊎ Memᴰ t (each xs ts) → (Memᴰ t (each xs ts) → (y : List ℕ) × (u : List ℕ) × Memᴰ y xs × (t ≡ y ++ u) × Memᴰ u ts)
        → (y : List ℕ) × (u : List ℕ) × Memᴰ y (x ∷ xs) × (t ≡ y ++ u) × Memᴰ u ts
    by (inl m) k = let r = Memᴰ.of_map (λ (t : List ℕ). x ++ t) ts m in (x, r.0, Memᴰ.head refl, sym r.2, r.1)
    by (inr m) k = let r = k m in (r.0, r.1, Memᴰ.tail r.2, r.3, r.4)

pub get_d_in : (xs : Texts) (i : ℕ) → i < length xs → Memᴰ (get_or xs i []) xs
get_d_in [] i h = absurd (omega arith)
get_d_in (x ∷ xs) zero h = Memᴰ.head refl
get_d_in (x ∷ xs) (suc i) h = Memᴰ.tail (get_d_in xs i (omega arith))
