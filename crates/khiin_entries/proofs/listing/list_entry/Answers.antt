-- `listing::list_entry` meets its contract.
use Rattle.std.proofs.Common.{refl, ◌∙◌, arith}
use Rattle.ji.specs.declared.lomaji.keys.Kind.TheVariants.{Detoned, Numeric, Telex}
use Rattle.khiin_entries.specs.Choices.{Entry}
use Rattle.khiin_entries.proofs.key_sequence.Filling.{entry_passed}
use Rattle.khiin_entries.proofs.listing.Sections.{counted, head_reached, section_reached, listing_is}
use Rattle.khiin_entries.proofs.listing.list_entry.Goals as goal

pub lay_out-numeric-requires : goal.lay_out-numeric-requires
lay_out-numeric-requires c = (omega (arith, (entry_passed c.args.parted.now.good).short), omega arith, refl, refl, refl)

pub lay_out-telex-requires : goal.lay_out-telex-requires
lay_out-telex-requires c = (omega (arith, (entry_passed c.args.parted.now.good).short), omega arith, refl, refl, refl)

pub lay_out-detoned-requires : goal.lay_out-detoned-requires
lay_out-detoned-requires c = (omega (arith, (entry_passed c.args.parted.now.good).short), omega arith, refl, refl, refl)

pub returns : goal.returns
returns c =
    let n = c.lay_out-numeric in
    let t = c.lay_out-telex in
    let d = c.lay_out-detoned in
    let hn : Entry c.args.parted.now.entry.now n.result.parts = rw n.ensures.0 c.args.parted.now.good in
    let ht : Entry c.args.parted.now.entry.now t.result.parts = rw t.ensures.0 c.args.parted.now.good in
    let hd : Entry c.args.parted.now.entry.now d.result.parts = rw d.ensures.0 c.args.parted.now.good in
    let numeric = c.count-numeric_count.ensures.0 in
    let telex = c.count-telex_count.ensures.0 in
    let detoned = c.count-detoned_count.ensures.0 in
    let head =
    head_reached c.args.parted.now.good c.count_dotted-dots.ensures (numeric ∙ counted Numeric n.result hn n.ensures.1) (telex ∙ counted Telex t.result ht t.ensures.1) (detoned ∙ counted Detoned d.result hd d.ensures.1)
    c.put_header-header.ensures in
    let first = section_reached Numeric n.result hn n.ensures.1 _ head c.put_section-first.ensures in
    let second = section_reached Telex t.result ht t.ensures.1 _ first (rw numeric at c.put_section-second.ensures) in
    let third = section_reached Detoned d.result hd d.ensures.1 _ second (rw (numeric, telex) at c.put_section.ensures) in
    rw (← listing_is c.args.parted.now.good) third.written
