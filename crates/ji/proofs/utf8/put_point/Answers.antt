use mathlib.Core.Path.{◌≡◌, sym, ap, ◌∙◌}
use mathlib.Core.List.{List, [], ◌∷◌}
use Prim.Native.Nat.{ℕ, ◌+◌, ◌/◌, ◌%◌}
use lib.ListN.{length, length-set}
use lib.Seq.{paste}
use Rattle.ji.specs.Utf8.{bytes_of}
use Rattle.ji.proofs.Writing.{stores_1, stores_2, stores_3}
use Rattle.ji.proofs.utf8.Encoding.{bytes_one, bytes_two, bytes_three}
use native.Mathlib.Omega.{arith}
use Rattle.ji.proofs.utf8.put_point.Goals as goal
use Rattle.ji.proofs.utf8.put_point.Goals.{Else-x-le2047, Then-x-le127, Then-x-le2047}

-- the bytes in each branch
is1 : (c : Then-x-le127) → bytes_of c.args.x ≡ c.args.x ∷ []
is1 c = bytes_one c.args.x c.if-x-le127.true

is2 : (c : Then-x-le2047) → bytes_of c.args.x ≡ (0xC0 + c.args.x / 64) ∷ (0x80 + c.args.x % 64) ∷ []
is2 c = bytes_two c.args.x c.if-x-le127.false c.if-x-le2047.true

is3 : (c : Else-x-le2047) → bytes_of c.args.x ≡ (0xE0 + c.args.x / 4096) ∷ (0x80 + c.args.x / 64 % 64) ∷ (0x80 + c.args.x % 64) ∷ []
is3 c = bytes_three c.args.x c.if-x-le2047.false c.requires.0

-- a run of stores writes the bytes
module _ (a : List ℕ) (at x : ℕ) (s d : List ℕ) (e : bytes_of x ≡ s) where
  stored : d ≡ paste a at s (length s) → (at + length s ≡ at + length (bytes_of x)) × (d ≡ paste a at (bytes_of x) (length (bytes_of x)))
  stored p = (ap (λ (t : List ℕ). at + length t) (sym e), p ∙ ap (λ (t : List ℕ). paste a at t (length t)) (sym e))

pub bounds-out-at : goal.bounds-out-at
bounds-out-at c = omega (arith, ap length (is1 (goal.at.bounds-out-at c).Then-x-le127))

pub returns-then-x-le127 : goal.returns-then-x-le127
returns-then-x-le127 c =
    let a = c.args in
    stored a.out.now a.at a.x _ _ (is1 (goal.at.returns-then-x-le127 c).Then-x-le127) (stores_1 a.out.now a.at a.x (omega (arith, ap length (is1 (goal.at.returns-then-x-le127 c).Then-x-le127))))

pub bounds-out-at-then-x-le2047 : goal.bounds-out-at-then-x-le2047
bounds-out-at-then-x-le2047 c = omega (arith, ap length (is2 (goal.at.bounds-out-at-then-x-le2047 c).Then-x-le2047))

pub bounds-out-at-then-x-le2047-2 : goal.bounds-out-at-then-x-le2047-2
bounds-out-at-then-x-le2047-2 c = simp length-set (omega (arith, ap length (is2 (goal.at.bounds-out-at-then-x-le2047-2 c).Then-x-le2047)))

pub returns-then-x-le2047 : goal.returns-then-x-le2047
returns-then-x-le2047 c =
    let a = c.args in
    stored a.out.now a.at a.x _ _ (is2 (goal.at.returns-then-x-le2047 c).Then-x-le2047) (stores_2 a.out.now a.at (0xC0 + a.x / 64) (0x80 + a.x % 64) (omega (arith, ap length (is2 (goal.at.returns-then-x-le2047 c).Then-x-le2047))))

pub bounds-out-at-else-x-le2047 : goal.bounds-out-at-else-x-le2047
bounds-out-at-else-x-le2047 c = omega (arith, ap length (is3 (goal.at.bounds-out-at-else-x-le2047 c).Else-x-le2047))

pub bounds-out-at-else-x-le2047-2 : goal.bounds-out-at-else-x-le2047-2
bounds-out-at-else-x-le2047-2 c = simp length-set (omega (arith, ap length (is3 (goal.at.bounds-out-at-else-x-le2047-2 c).Else-x-le2047)))

pub bounds-out-at-else-x-le2047-3 : goal.bounds-out-at-else-x-le2047-3
bounds-out-at-else-x-le2047-3 c = simp length-set (omega (arith, ap length (is3 (goal.at.bounds-out-at-else-x-le2047-3 c).Else-x-le2047)))

pub returns-else-x-le2047 : goal.returns-else-x-le2047
returns-else-x-le2047 c =
    let a = c.args in
    stored a.out.now a.at a.x _ _ (is3 (goal.at.returns-else-x-le2047 c).Else-x-le2047) (stores_3 a.out.now a.at (0xE0 + a.x / 4096) (0x80 + a.x / 64 % 64) (0x80 + a.x % 64) (omega (arith, ap length (is3 (goal.at.returns-else-x-le2047 c).Else-x-le2047))))
