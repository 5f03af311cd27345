use Rattle.ji.specs.Unicode.{to_byte_len}
use Rattle.ji.proofs.unicode.to_byte_len.Goals as goal

pub returns : goal.returns
unfolding to_byte_len
returns c = c.encoded_len.ensures
