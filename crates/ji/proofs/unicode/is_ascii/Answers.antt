use Rattle.ji.proofs.unicode.Ascii.{ascii_told}
use Rattle.ji.proofs.unicode.is_ascii.Goals as goal

pub returns : goal.returns
returns c = ascii_told c.args.s.now c.is_ascii.result c.is_ascii.ensures.cases
