use Rattle.khiin.proofs.syllable.marking.Facts.{joined_line}
use Rattle.khiin.proofs.syllable.marking.line.Goals as goal

pub returns-then-x-lt128 : goal.returns-then-x-lt128
returns-then-x-lt128 c = joined_line c.args.x c.if-x-lt128.true
