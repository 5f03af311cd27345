use mathlib.Core.List.{List}
use Prim.Native.Nat.{ℕ}
use Rattle.ji.proofs.Underway.{Underway}
use Rattle.ji.proofs.reply.copy_each.Given as goal

abbrev pub invariant-loop-i : goal.invariant-loop-i
invariant-loop-i l = Underway (λ (l : List ℕ). l) l.s l.initial.out l.out l.i l.i
