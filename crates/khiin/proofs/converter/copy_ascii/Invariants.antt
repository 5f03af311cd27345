use mathlib.Core.Path.{◌≡◌}
use mathlib.Core.Bool.{true}
use mathlib.Core.List.{List}
use Prim.Native.Nat.{ℕ}
use lib.ListN.{drop}
use Rattle.ji.specs.Text.{all_ascii}
use Rattle.ji.proofs.Underway.{Underway}
use Rattle.khiin.proofs.converter.copy_ascii.Given as goal

-- so much is copied, and was ASCII
abbrev pub invariant-loop-i : goal.invariant-loop-i
invariant-loop-i l = Underway (λ (l : List ℕ). l) l.text l.initial.bytes l.bytes l.i l.i × (all_ascii (drop l.i l.text) ≡ true → all_ascii l.text ≡ true)
