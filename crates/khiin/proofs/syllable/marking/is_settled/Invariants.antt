use mathlib.Core.Path.{◌≡◌}
use lib.ListN.{drop}
use Rattle.khiin.specs.Compose.{settled_from}
use Rattle.khiin.proofs.syllable.marking.is_settled.Given as goal

abbrev pub invariant-loop-x : goal.invariant-loop-x
invariant-loop-x l = settled_from 0 l.s ≡ settled_from l.before (drop l.x-index l.s)
