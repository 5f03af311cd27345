-- Numbers in decimal: how many digits they have, and their digits from the last to the first.
use mathlib.Core.Path.{◌≡◌, refl, sym, ap, ◌∙◌}
use Rattle.std.specs.Prelude.{Option, Some, None, IfSome, IfNone, unwrap_or}
use mathlib.Core.Bool.{Bool, true, false}
use lib.Dec.{ltb}
use Rattle.ji.specs.Unicode.{pick_number}
use mathlib.Core.List.{[], ◌∷◌, ◌++◌}
use Prim.Native.Nat.{ℕ, zero, suc, ◌+◌, ◌-◌, ◌*◌, ◌/◌, ◌%◌, ◌^◌, ◌≤◌, ◌<◌}
use native.Mathlib.Nat.{pow-suc}
use native.Mathlib.Omega.{arith}
use borrow.Author.Tests.{lt-ltb, le-ltb}
use lib.ListN.{length, length-append}
use Rattle.ji.proofs.Bools.{number_yes, number_no}
use Rattle.khiin_entries.specs.Listing.{last_digits, digit_count, decimal}

-- ── how many digits
digit_last : (k n : ℕ) → n < 10 → digit_count k n ≡ 1
digit_last zero n h = refl
digit_last (suc k) n h = number_yes _ _ _ (lt-ltb n 10 h)

digit_more : (k n : ℕ) → 10 ≤ n → digit_count (suc k) n ≡ 1 + digit_count k (n / 10)
digit_more k n h = number_no _ _ _ (le-ltb n 10 h)

-- by the powers of ten between which n lies
power_some : (k : ℕ) → 0 < 10 ^ k
power_some zero = omega arith
power_some (suc k) = omega (arith, pow-suc 10 k, power_some k)

digits_between : (b k n : ℕ) → k ≤ b → 10 ^ k ≤ n → n < 10 * 10 ^ k → digit_count b n ≡ k + 1
digits_between b zero n h low high = digit_last b n (omega arith)
digits_between zero (suc k) n h low high = absurd (omega arith)
digits_between (suc b) (suc k) n h low high =
    let power = pow-suc 10 k in
    let some = power_some k in
    let ten : 10 ≤ n = omega (arith, power) in
    digit_more b n ten ∙ omega (arith, digits_between b k (n / 10) (omega arith) (omega (arith, power)) (omega (arith, power)))

-- ── the digits
pub last_length : (k n : ℕ) → length (last_digits k n) ≡ k
last_length zero n = refl
last_length (suc k) n = length-append (last_digits k (n / 10)) ((48 + n % 10) ∷ []) ∙ omega (arith, last_length k (n / 10))

pub decimal_length : (n : ℕ) → length (decimal n) ≡ digit_count 19 n
unfolding decimal
decimal_length n = last_length (digit_count 19 n) n

digit_most : (k n : ℕ) → digit_count k n ≤ k + 1
digit_most zero n = omega arith
digit_most (suc k) n = go (ltb n 10) (digit_most k (n / 10))
  where
    go : (b : Bool) → digit_count k (n / 10) ≤ k + 1 → pick_number b 1 (1 + digit_count k (n / 10)) ≤ suc k + 1
    go true h = omega arith
    go false h = omega arith

pub decimal_most : (n : ℕ) → length (decimal n) ≤ 20
decimal_most n = omega (arith, decimal_length n, digit_most 19 n)

pub decimal_is : (n : ℕ) → last_digits (length (decimal n)) n ≡ decimal n
unfolding decimal
decimal_is n = ap (λ (k : ℕ). last_digits k n) (decimal_length n)

-- as the library says it, and zero has one digit
pub digits_known : (found : Option ℕ) (n : ℕ) → IfNone found (n ≡ 0) → IfSome found (λ k. 10 ^ k ≤ n) → IfSome found (λ k. n < 10 * 10 ^ k) → IfSome found (λ k. k < 20)
    → (unwrap_or found 0 + 1 ≡ length (decimal n)) × (unwrap_or found 0 + 1 ≤ 20)
digits_known None n none low high few = (sym (decimal_length n ∙ digit_last 19 n (omega (arith, none))), omega arith)
digits_known (Some k) n none low high few = (sym (decimal_length n ∙ digits_between 19 k n (omega (arith, few)) low high), omega (arith, few))

pub last_turn : (k n : ℕ) → 0 < k → last_digits k n ≡ last_digits (k - 1) (n / 10) ++ ((48 + n % 10) ∷ [])
last_turn zero n h = absurd (omega arith)
last_turn (suc k) n h = let z : suc k - 1 ≡ k = omega arith in rw z
