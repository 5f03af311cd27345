use mathlib.Core.Path.{◌≡◌, sym, ap, subst, ◌∙◌}
use mathlib.Core.List.{List, ◌∷◌}
use Prim.Native.Nat.{ℕ, ◌+◌, ◌<◌}
use native.Mathlib.Numerals.{add-one}
use lib.ListN.{length, drop, get_or, drop_of_length-le}
use lib.Seq.{drop-cons}
use Rattle.ji.specs.Written.{Written}
use Rattle.ji.proofs.Writing.{written_length}
use Rattle.ji.proofs.Underway.{underway_start, underway_one, underway_end}
use native.Mathlib.Omega.{arith}
use Rattle.ji.proofs.reply.copy_each.Goals as goal

pub loop-i-init : goal.loop-i-init
loop-i-init c = let a = c.args in underway_start (λ (l : List ℕ). l) a.s.now a.out.now

pub bounds-out-i : goal.bounds-out-i
bounds-out-i c = omega (arith, written_length c.loop-i.invariant.written, c.requires)

pub loop-i-preserved : goal.loop-i-preserved
loop-i-preserved c =
    let a = c.args in
    let i = c.loop-i.i in
    let h : i < length a.s.now = omega arith in
    underway_one c.loop-i.invariant (i + 1) (get_or a.s.now i 0) (drop-cons a.s.now i 0 h ∙ ap (λ (k : ℕ). get_or a.s.now i 0 ∷ drop k a.s.now) (sym (add-one i))) (omega arith) (omega (arith, c.requires))

pub returns : goal.returns
returns c =
    let a = c.args in
    let all : c.loop-i.i ≡ length a.s.now = omega arith in
    subst (λ (n : ℕ). Written a.out.now c.loop-i.out n a.s.now) all (underway_end c.loop-i.invariant (drop_of_length-le a.s.now {i = c.loop-i.i} (omega arith)))
