use mathlib.Core.Path.{sym, ◌∙◌}
use native.Mathlib.Omega.{arith}
use lib.ListN.{drop}
use Rattle.std.specs.Prelude.{not}
use Rattle.std.specs.Char.{is_ascii}
use Rattle.std.proofs.Common.{rules, tests}
use Rattle.std.proofs.lemmas.Iterator.{YieldsList-from_slice}
use Rattle.std.proofs.lemmas.Iterator.Search.{position_from_yields_List}
use Rattle.ji.proofs.Parts.{part_is}
use Rattle.ji.proofs.lomaji.single.Laws.{ascii_to_some, ascii_to_none}
use Rattle.ji.proofs.lomaji.single.ascii_to.Goals as goal

pub returns-in-Some : goal.returns-in-Some
returns-in-Some c =
    let a = c.args in
    let rest = drop a.from a.s.now in
    let found = position_from_yields_List (λ b. not (is_ascii b)) _ _ c.position.result c.position.ensures.ran (YieldsList-from_slice rest (c.iter.ensures.rest ∙ part_is a.s.now a.from)) (λ x b q k. search (rules, tests)) in
    let to = ascii_to_some a.s.now a.from c.requires c.in-Some.i (sym c.in-Some.is ∙ found) in
    (omega arith, to.0, to.1)

pub returns-in-None : goal.returns-in-None
returns-in-None c =
    let a = c.args in
    let rest = drop a.from a.s.now in
    let found = position_from_yields_List (λ b. not (is_ascii b)) _ _ c.position.result c.position.ensures.ran (YieldsList-from_slice rest (c.iter.ensures.rest ∙ part_is a.s.now a.from)) (λ x b q k. search (rules, tests)) in
    (c.requires, omega arith, ascii_to_none a.s.now a.from c.requires (sym c.in-None.is ∙ found))
