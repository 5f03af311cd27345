use mathlib.Core.Path.{◌≡◌}
use Rattle.khiin.specs.Converter.{ends_in_stop}
use Rattle.khiin.proofs.converter.Laws.{stop_from}
use Rattle.khiin.proofs.converter.ends_in_stop.Given as goal

abbrev pub invariant-loop-x : goal.invariant-loop-x
invariant-loop-x l = ends_in_stop l.body ≡ stop_from l.body l.stop l.single l.x-index
