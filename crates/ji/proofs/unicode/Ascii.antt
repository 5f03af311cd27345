-- ASCII texts: each code point is its own byte, and all are in the table.
use mathlib.Core.Path.{◌≡◌, refl, sym, ap₂, ◌∙◌, subst}
use mathlib.Core.Bool.{Bool, true, false}
use mathlib.Core.List.{List, [], ◌∷◌, ◌++◌}
use Prim.Native.Nat.{ℕ, zero, suc, ◌≤◌, ◌<◌}
use native.Mathlib.Omega.{arith}
use borrow.Author.Tests.{le-leb, leb-true}
use lib.Dec.{leb}
use lib.ListN.{take, drop, get_or}
use Rattle.std.specs.Prelude.{MatchBool}
use Rattle.std.specs.Str.{IsAscii, IsNotAscii}
use Rattle.ucd.specs.Table.{member, in_ranges}
use Rattle.ucd.specs.Unicode16.{unicode16, ranges16}
use Rattle.ji.specs.Text.{all_ascii}
use Rattle.ji.specs.Utf8.{decode, encode}
use Rattle.ji.specs.Unicode.{members}
use Rattle.ji.specs.Reply.{good, check_points}
use Rattle.ji.proofs.Bools.{either, and_yes, and_left, and_right, or_yes, within_yes}
use Rattle.ji.proofs.utf8.Encoding.{bytes_one, encode_nil, encode_cons}
use Rattle.ji.proofs.unicode.Checked.{points_good}

pub ascii_low : (x : ℕ) (s : List ℕ) → all_ascii (x ∷ s) ≡ true → x ≤ 0x7F
unfolding all_ascii
ascii_low x s h = leb-true x 0x7F (and_left (leb x 0x7F) (all_ascii s) h)

pub ascii_rest : (x : ℕ) (s : List ℕ) → all_ascii (x ∷ s) ≡ true → all_ascii s ≡ true
unfolding all_ascii
ascii_rest x s h = and_right (leb x 0x7F) (all_ascii s) h

pub ascii_more : (x : ℕ) (s : List ℕ) → x ≤ 0x7F → all_ascii s ≡ true → all_ascii (x ∷ s) ≡ true
unfolding all_ascii
ascii_more x s low h = and_yes _ _ (le-leb x 0x7F low) ∙ h

pub ascii_nil : all_ascii [] ≡ true
unfolding all_ascii
ascii_nil = refl

pub ascii_at : (s : List ℕ) (k : ℕ) → all_ascii s ≡ true → get_or s k 0 ≤ 0x7F
ascii_at [] k h = omega arith
ascii_at (x ∷ s) zero h = ascii_low x s h
ascii_at (x ∷ s) (suc k) h = ascii_at s k (ascii_rest x s h)

-- what the library tells of a text
all_below : (s : List ℕ) → IsAscii s → all_ascii s ≡ true
all_below [] h = ascii_nil
all_below (x ∷ s) h = ascii_more x s (omega (arith, h 0)) (all_below s (λ k. h (suc k)))

pub ascii_told : (s : List ℕ) (b : Bool) → MatchBool b (IsAscii s) (IsNotAscii s) → b ≡ all_ascii s
ascii_told s true h = sym (all_below s h)
ascii_told s false (k, high) = either (all_ascii s) (λ e. absurd (omega (arith, high, ascii_at s k e))) sym

pub ascii_take : (n : ℕ) (s : List ℕ) → all_ascii s ≡ true → all_ascii (take n s) ≡ true
ascii_take zero s h = ascii_nil
ascii_take (suc n) [] h = ascii_nil
ascii_take (suc n) (x ∷ s) h = ascii_more x (take n s) (ascii_low x s h) (ascii_take n s (ascii_rest x s h))

pub ascii_drop : (n : ℕ) (s : List ℕ) → all_ascii s ≡ true → all_ascii (drop n s) ≡ true
ascii_drop zero s h = h
ascii_drop (suc n) [] h = h
ascii_drop (suc n) (x ∷ s) h = ascii_drop n s (ascii_rest x s h)

-- an ASCII text is its own bytes
pub ascii_bytes : (s : List ℕ) → all_ascii s ≡ true → encode s ≡ s
ascii_bytes [] h = encode_nil
ascii_bytes (x ∷ s) h = encode_cons x s ∙ ap₂ (λ (u v : List ℕ). u ++ v) (bytes_one x (ascii_low x s h)) (ascii_bytes s (ascii_rest x s h))

-- ASCII is in the table
pub ascii_member : (x : ℕ) → x < 0x80 → member unicode16 x ≡ true
unfolding member unicode16 ranges16 in_ranges
ascii_member x h = or_yes _ _ (within_yes 0 0x7F x (omega arith) (omega arith))

pub ascii_members : (s : List ℕ) → all_ascii s ≡ true → members unicode16 s ≡ true
unfolding members
ascii_members [] h = refl
ascii_members (x ∷ s) h = and_yes _ _ (ascii_member x (omega (arith, ascii_low x s h))) ∙ ascii_members s (ascii_rest x s h)

-- and ASCII bytes are a text of the table
pub ascii_good : (s : List ℕ) → all_ascii s ≡ true → check_points unicode16 (decode s) ≡ good s
ascii_good s h = subst (λ (l : List ℕ). check_points unicode16 (decode l) ≡ good s) (ascii_bytes s h) (points_good s (ascii_members s h))
