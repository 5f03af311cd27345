use Prim.Native.Nat.{◌*◌, ◌≤◌}
use Rattle.ji.proofs.Underway.{Underway}
use Rattle.khiin.specs.Syllable.{o_rules}
use Rattle.khiin.proofs.syllable.compose.Laws.{dotted}
use Rattle.khiin.proofs.syllable.compose.write_dotted.Given as goal

abbrev pub invariant-loop-i : goal.invariant-loop-i
invariant-loop-i l = (l.n ≤ 2 * l.i) × Underway (dotted o_rules) l.s l.initial.out l.out l.i l.n
