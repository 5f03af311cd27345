-- `key_sequence::keying_of` meets its contract.
use Rattle.khiin_entries.proofs.key_sequence.Filling.{entry_passed}
use native.Mathlib.Omega.{arith}
use Rattle.khiin_entries.proofs.key_sequence.keying_of.Goals as goal

pub keying_with-requires-else-parted-le32 : goal.keying_with-requires-else-parted-le32
keying_with-requires-else-parted-le32 c = (omega (arith, (entry_passed c.args.parted.now.good).short), omega arith)
