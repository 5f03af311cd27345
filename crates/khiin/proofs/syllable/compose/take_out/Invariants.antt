use mathlib.Core.List.{[], ◌∷◌}
use Rattle.ji.specs.Text.{replace_all}
use Rattle.khiin.proofs.syllable.compose.Laws.{Walk}
use Rattle.khiin.proofs.syllable.compose.take_out.Given as goal

abbrev pub invariant-loop-i : goal.invariant-loop-i
invariant-loop-i l = Walk (replace_all (l.c ∷ []) []) l.initial.s l.s l.i l.n
