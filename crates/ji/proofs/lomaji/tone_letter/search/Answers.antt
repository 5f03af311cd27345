use mathlib.Core.Path.{sym, ap, ◌∙◌}
use mathlib.Core.List.{map}
use Prim.Native.Nat.{◌≤◌}
use lib.ListN.{length}
use Rattle.std.proofs.lemmas.List.{length-map}
use Rattle.ji.specs.Lomaji.ToneLetter.{occurrence_place_of}
use Rattle.ji.proofs.lomaji.tone_letter.Laws.{pattern, place_here, place_later, place_end, search_here, search_next, search_end}
use native.Mathlib.Omega.{arith}
use Rattle.ji.proofs.lomaji.tone_letter.search.Goals as goal

pub loop-at-preserved : goal.loop-at-preserved
loop-at-preserved g c =
    let s = map g.L.Letter.number c.args.s.now in
    (c.loop-at.invariant.0, c.loop-at.invariant.1 ∙ place_later (pattern c.patterns.k).0 s c.loop-at.at (omega (arith, length-map c.args.s.now g.L.Letter.number)) (sym c.stands_at.ensures ∙ c.if-stands_at.false))

pub patterns-preserved : goal.patterns-preserved
patterns-preserved g c =
    let k = c.patterns.k in
    let s = map g.L.Letter.number c.args.s.now in
    let end : length s ≤ c.loop-at.at = omega (arith, length-map c.args.s.now g.L.Letter.number) in
    (c.loop-at.invariant.0, c.patterns.invariant.1 ∙ search_next s k c.patterns-test.true (c.loop-at.invariant.1 ∙ place_end (pattern k).0 s c.loop-at.at end))

pub returns-after-patterns-clause-found : goal.returns-after-patterns-clause-found
returns-after-patterns-clause-found g c =
    ap occurrence_place_of c.patterns.invariant.0 ∙ sym (c.patterns.invariant.1 ∙ search_end (map g.L.Letter.number c.args.s.now) c.patterns.k c.patterns-test.false)

pub returns-then-stands_at-clause-found : goal.returns-then-stands_at-clause-found
returns-then-stands_at-clause-found g c =
    let k = c.patterns.k in
    let s = map g.L.Letter.number c.args.s.now in
    let at = c.loop-at.at in
    let here = c.loop-at.invariant.1 ∙ place_here (pattern k).0 s at (omega (arith, length-map c.args.s.now g.L.Letter.number)) (sym c.stands_at.ensures ∙ c.if-stands_at.true) in
    sym (c.patterns.invariant.1 ∙ search_here s k at c.patterns-test.true here)
