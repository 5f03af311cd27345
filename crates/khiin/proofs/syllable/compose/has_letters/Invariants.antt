use mathlib.Core.Path.{◌≡◌}
use mathlib.Core.List.{List, [], ◌∷◌}
use Prim.Native.Nat.{ℕ}
use lib.ListN.{drop}
use Rattle.khiin.specs.Compose.{apart_from}
use Rattle.khiin.proofs.syllable.compose.has_letters.Given as goal

abbrev pub invariant-loop-x : goal.invariant-loop-x
invariant-loop-x l =
    let firsts : List ℕ = l.first ∷ l.capital_first ∷ [] in
    let seconds : List ℕ = l.second ∷ l.capital_second ∷ [] in
    apart_from firsts seconds 0 l.s ≡ apart_from firsts seconds l.before (drop l.x-index l.s)
