use Rattle.std.proofs.Common.{rules, tests}
use Rattle.std.proofs.lemmas.Iterator.{YieldsList-from_slice}
use Rattle.std.proofs.lemmas.Iterator.Search.{any_from_yields_List}
use mathlib.Core.Path.{sym, ◌∙◌}
use Rattle.ucd.specs.Table.{listed}
use Rattle.ji.specs.Text.{points, lower}
use Rattle.ji.proofs.lomaji.tone_letter.Marks.{letter_any}
use Rattle.ji.proofs.lomaji.tone_letter.holds_letter.Goals as goal

pub returns : goal.returns
returns c =
    let s = c.args.s.now in
    any_from_yields_List (λ x. listed (points "oaeuinm") (lower x)) _ _ _ c.any.ensures.ran (YieldsList-from_slice s c.iter.ensures.rest) (λ x b q k. search (rules, tests))
    ∙ sym (letter_any s)
