use mathlib.Core.Path.{sym}
use Rattle.khiin.proofs.syllable.compose.Once.{vowels_o, vowels_e}
use borrow.Author.Rules.{rules}
use Rattle.khiin.proofs.syllable.compose.respell_one.Goals as goal

pub returns-in-79 : goal.returns-in-79
returns-in-79 c = sym (vowels_o c.args.s.now c.args.at c.requires.1 c.requires.2 c.requires.3 c.requires.4 c.in-79.is)

pub returns-in_default : goal.returns-in_default
returns-in_default c = sym (vowels_e c.args.s.now c.args.at c.requires.1 c.requires.2 c.requires.3 c.requires.4 (search rules))
