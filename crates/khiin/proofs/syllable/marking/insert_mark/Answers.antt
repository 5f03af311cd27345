-- The loop's invariant: what stood from place i - 1 on has moved up by one, over the last.
use mathlib.Core.Path.{◌≡◌, refl, subst}
use Prim.Native.Nat.{ℕ, ◌-◌}
use lib.ListN.{length-set}
use Rattle.khiin.proofs.syllable.compose.Laws.{shifted, shifted_start, shifted_step, shifted_end}
use native.Mathlib.Omega.{arith}
use Rattle.khiin.proofs.syllable.marking.insert_mark.Goals as goal

pub loop-i-init : goal.loop-i-init
loop-i-init c = (omega arith, omega arith, refl, shifted_start c.args.s.now (omega arith))

pub loop-i-preserved : goal.loop-i-preserved
loop-i-preserved c =
    let l = c.loop-i in
    let v = l.invariant in
    (omega arith, omega arith, simp length-set v.2, shifted_step c.args.s.now l.s (l.i - 1) (omega arith) (omega arith) v.3)

pub returns : goal.returns
returns c =
    let l = c.loop-i in
    let a = c.args in
    let v = l.invariant in
    let e : l.i - 1 ≡ a.k = omega arith in
    shifted_end a.s.now l.s a.k a.mark c.requires (subst (λ (j : ℕ). l.s ≡ shifted a.s.now j) e v.3)
