use mathlib.Core.Path.{sym}
use Rattle.khiin.proofs.syllable.compose.Once.{vowels_none, pair_fits}
use Rattle.khiin.proofs.syllable.compose.respell_vowels.Goals as goal

pub respell_one-requires : goal.respell_one-requires
respell_one-requires c =
    let found = c.in-Some.ensures in
    let rest = c.is_alone.ensures c.if-is_alone.true in
    (pair_fits c.args.s.now c.in-Some.at found.2 found.3 rest.0 rest.1, found.2, found.3, rest.0, rest.1)

pub returns-in_default : goal.returns-in_default
returns-in_default c = sym (vowels_none c.args.s.now (c.in_default.ensures))
