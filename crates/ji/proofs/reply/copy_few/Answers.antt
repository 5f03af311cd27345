use mathlib.Core.Path.{◌≡◌, refl, subst}
use mathlib.Core.List.{List, [], ◌∷◌}
use Prim.Native.Nat.{ℕ, ◌+◌, ◌-◌, ◌/◌, ◌≤◌, ◌<◌}
use lib.ListN.{length, get_or, set, length-set}
use Rattle.ji.specs.Written.{Written, Covers}
use Rattle.ji.proofs.Writing.{covers_one, covers_next, covers_all}
use native.Mathlib.Omega.{arith}
use Rattle.ji.proofs.reply.copy_few.Goals as goal

none : (s out : List ℕ) → length s ≡ 0 → Written out out (length s) s
none [] out h = record { is = refl; size = refl; fits = omega arith }
none (x ∷ s) out h = absurd (omega arith)

module _ (s out : List ℕ) (some : 0 < length s) (few : length s < 4) (fits : length s ≤ length out) where
  abbrev middle : ℕ
  middle = length s / 2

  abbrev last : ℕ
  last = length s - 1

  abbrev one : List ℕ
  one = set out 0 (get_or s 0 0)

  abbrev two : List ℕ
  two = set one middle (get_or s middle 0)

  one_fits : length s ≤ length one
  one_fits = omega (arith, length-set out 0 (get_or s 0 0))

  two_fits : length s ≤ length two
  two_fits = omega (arith, one_fits, length-set one middle (get_or s middle 0))

  covered : Written out (set two last (get_or s last 0)) (length s) s
  covered =
      let first = covers_next (covers_one s out 0 some fits) (covers_one s one middle (omega arith) one_fits) (omega arith) in
      let all = covers_next first (covers_one s two last (omega arith) two_fits) (omega arith) in
      let end : last + 1 ≡ length s = omega arith in
      covers_all fits (subst (λ (to : ℕ). Covers s out (set two last (get_or s last 0)) 0 to) end all)

pub returns : goal.returns
returns c = covered c.args.s.now c.args.out.now (grind arith) c.requires.0 c.requires.1
