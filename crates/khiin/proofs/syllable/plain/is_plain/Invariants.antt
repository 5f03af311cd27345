use mathlib.Core.Path.{◌≡◌}
use lib.ListN.{drop}
use Rattle.ji.specs.Text.{points, all_ascii}
use Rattle.khiin.specs.Compose.{apart_from}
use Rattle.khiin.proofs.syllable.plain.is_plain.Given as goal

abbrev pub invariant-loop-x : goal.invariant-loop-x
invariant-loop-x l = (all_ascii l.s ≡ all_ascii (drop l.x-index l.s)) × (apart_from (points "oOeE") (points "oOuU") 0 l.s ≡ apart_from (points "oOeE") (points "oOuU") l.before (drop l.x-index l.s))
