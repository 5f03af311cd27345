-- `key_sequence::keying_with` meets its contract.
use Rattle.std.proofs.Common.{◌∙◌}
use Rattle.khiin_entries.specs.Choices.{Entry}
use Rattle.khiin_entries.proofs.key_sequence.Calling.{laid_call}
use Rattle.khiin_entries.proofs.key_sequence.keying_with.Goals as goal

pub returns : goal.returns
returns g c =
    let l = c.lay_out-layout in
    let h : Entry c.args.parted.now.entry.now l.result.parts = rw l.ensures.0 c.args.parted.now.good in
    c.place.ensures ∙ laid_call h c.args.kind c.args.position c.args.out.now _ _ _ _ _ l.result.laid l.ensures.1
