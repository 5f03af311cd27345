-- `listing::put_section` meets its contract.
use Rattle.std.proofs.Common.{arith}
use Rattle.khiin_entries.specs.Lines.{lines_in}
use Rattle.khiin_entries.proofs.key_sequence.Laying.{count_fits}
use Rattle.khiin_entries.proofs.listing.Texts.{lines_length}
use Rattle.khiin_entries.proofs.listing.Sections.{shown_most, following_early, following_some}
use Rattle.khiin_entries.proofs.listing.put_section.Goals as goal

pub returns-then-written-first : goal.returns-then-written-first
returns-then-written-first c =
    let a = c.args in
    following_early (lines_in a.letter a.layout.now) a.first a.written.next a.written.len.0 a.out.now c.if-written-first.true

pub overflow_add-result : goal.overflow_add-result
overflow_add-result c =
    let l = c.args.layout.now in
    omega (arith, shown_most c.put_lines-lines.ensures, lines_length c.args.letter l, count_fits l.choices.now.radices l.parts l.few (λ i k. (l.laid i k).few), c.ranges.first, c.requires)

pub returns : goal.returns
returns c =
    let a = c.args in
    following_some (lines_in a.letter a.layout.now) a.first a.written.next a.written.len.0 a.out.now c.if-written-first.false c.put_lines-lines.ensures
