use mathlib.Core.Path.{◌≡◌}
use mathlib.Core.List.{map}
use lib.ListN.{drop}
use Rattle.ji.specs.Lomaji.ToneLetter.{patterns, further, first_place, searched, tone_letter}
use Rattle.ji.proofs.lomaji.tone_letter.Laws.{pattern}
use Rattle.ji.proofs.lomaji.tone_letter.search.Given as goal
use Rattle.std.specs.Prelude.{None}

abbrev pub invariant-loop-at : goal.invariant-loop-at
invariant-loop-at g l =
    let s = map g.L.Letter.number l.s in
    (l.occurrence ≡ None) × (first_place (pattern l.k).0 s ≡ further l.at (first_place (pattern l.k).0 (drop l.at s)))

abbrev pub invariant-patterns : goal.invariant-patterns
invariant-patterns g l = let s = map g.L.Letter.number l.s in (l.occurrence ≡ None) × (tone_letter s ≡ searched (drop l.k patterns) s)
