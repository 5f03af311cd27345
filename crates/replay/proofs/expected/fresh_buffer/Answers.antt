use Rattle.std.proofs.Common.{rules}
use Rattle.replay.specs.Expected.{untouched}
use Rattle.replay.proofs.expected.fresh_buffer.Goals as goal

pub returns : goal.returns
unfolding untouched
returns c = search rules
