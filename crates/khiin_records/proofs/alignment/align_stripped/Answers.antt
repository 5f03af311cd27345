use Rattle.khiin_records.specs.Syllable.{candidates_of}
use Rattle.khiin_records.specs.Alignment.{nearest_of}
use Rattle.khiin_records.proofs.Prefixes.{nearest_tone}
use Rattle.khiin_records.proofs.alignment.align_stripped.Goals as goal

pub aligned_keys-requires : goal.aligned_keys-requires
aligned_keys-requires c = c.nearest_prefix-prefix.ensures.inside

pub returns : goal.returns
returns c =
    let a = c.args in
    λ u e.
    c.aligned_keys.ensures (nearest_of a.keys.bytes.now (candidates_of a.text.ending.tone a.text.ending.khin u)) (nearest_tone a.keys.bytes.now a.text.ending.tone a.text.ending.khin u) (c.nearest_prefix-prefix.ensures.shared u e)
