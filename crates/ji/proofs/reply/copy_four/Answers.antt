use mathlib.Core.Path.{◌≡◌, subst}
use mathlib.Core.List.{List}
use Prim.Native.Nat.{ℕ, ◌+◌, ◌≤◌}
use lib.ListN.{length, get_or, set, length-set}
use Rattle.ji.specs.Written.{Covers}
use Rattle.ji.proofs.Writing.{covers_one, covers_next}
use native.Mathlib.Omega.{arith}
use Rattle.ji.proofs.reply.copy_four.Goals as goal

module _ (s out : List ℕ) (at : ℕ) (h : at + 4 ≤ length s) (fits : length s ≤ length out) where
  abbrev one : List ℕ
  one = set out at (get_or s at 0)

  abbrev two : List ℕ
  two = set one (at + 1) (get_or s (at + 1) 0)

  abbrev three : List ℕ
  three = set two (at + 2) (get_or s (at + 2) 0)

  abbrev four : List ℕ
  four = set three (at + 3) (get_or s (at + 3) 0)

  one_fits : length s ≤ length one
  one_fits = omega (arith, length-set out at (get_or s at 0))

  two_fits : length s ≤ length two
  two_fits = omega (arith, one_fits, length-set one (at + 1) (get_or s (at + 1) 0))

  three_fits : length s ≤ length three
  three_fits = omega (arith, two_fits, length-set two (at + 2) (get_or s (at + 2) 0))

  covered : Covers s out four at (at + 4)
  covered =
      let first = covers_next (covers_one s out at (omega arith) fits) (covers_one s one (at + 1) (omega arith) one_fits) (omega arith) in
      let last = covers_next (covers_one s two (at + 2) (omega arith) two_fits) (covers_one s three (at + 3) (omega arith) three_fits) (omega arith) in
      let end : at + 3 + 1 ≡ at + 4 = omega arith in
      subst (λ (to : ℕ). Covers s out four at to) end (covers_next first last (omega arith))

pub returns : goal.returns
returns c = covered c.args.s.now c.args.out.now c.args.at c.requires.0 c.requires.1
