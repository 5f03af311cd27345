-- A buffer that is written from its front: what the contract of each writer says.
use Rattle.std.specs.Prelude.{◌≡◌, List, ◌++◌, ℕ, ◌≤◌, ◌<◌, length, drop, get_or}

-- `after` is the buffer `before` with s over its first n elements, and all else as it was
pub record Written (before after : List ℕ) (n : ℕ) (s : List ℕ) : Type 0 where
  pub is : after ≡ s ++ drop n before
  pub size : length s ≡ n
  pub fits : n ≤ length before

-- `after` has the elements of s at their places from `from` to `to`, and wherever `before` had them; and behind the last place of s it is as it was
pub record Covers (s before after : List ℕ) (from to : ℕ) : Type 0 where
  pub length_kept : length after ≡ length before
  pub behind : (j : ℕ) → length s ≤ j → get_or after j 0 ≡ get_or before j 0
  pub there : (j : ℕ) → from ≤ j → j < to → get_or after j 0 ≡ get_or s j 0
  pub still : (j : ℕ) → get_or before j 0 ≡ get_or s j 0 → get_or after j 0 ≡ get_or s j 0
