use Rattle.std.proofs.Common.{rules, tests}
use Rattle.std.proofs.lemmas.Iterator.{YieldsList-from_slice}
use Rattle.std.proofs.lemmas.Iterator.Search.{any_from_yields_List}
use mathlib.Core.Path.{◌≡◌, sym, ◌∙◌}
use mathlib.Core.List.{map}
use native.Mathlib.Omega.{arith}
use lib.Dec.{eqb}
use Rattle.std.specs.List.{list_any}
use Rattle.ji.specs.Text.{lower}
use Rattle.ji.proofs.lomaji.tone_letter.Laws.{search_start, no_o, none_o}
use Rattle.ji.proofs.lomaji.tone_letter.first_tried.Goals as goal

pub returns-then-any : goal.returns-then-any
returns-then-any g c = (omega arith, search_start (map g.L.Letter.number c.args.s.now))

pub returns-else-any : goal.returns-else-any
returns-else-any g c =
    let number = g.L.Letter.number in
    let s = c.args.s.now in
    let any : c.any.result ≡ list_any (λ x. eqb (lower (number x)) 0x6F) s =
    any_from_yields_List (λ x. eqb (lower (number x)) 0x6F) _ _ _ c.any.ensures.ran (YieldsList-from_slice s c.iter.ensures.rest) (λ x b q k. search (rules, tests)) in
    (omega arith, no_o (map number s) (none_o number s (sym any ∙ c.if-any.false)))
