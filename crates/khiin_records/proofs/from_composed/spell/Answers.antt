use Rattle.ji.proofs.Writing.{written_length}
use Rattle.khiin_records.proofs.Walking.{walk_anew, written_longer}
use native.Mathlib.Omega.{arith}
use Rattle.khiin_records.proofs.from_composed.spell.Goals as goal

pub spell_rest-requires : goal.spell_rest-requires
spell_rest-requires c =
    let w = c.copy_ascii-start.ensures c.args.vowel in
    (omega (arith, c.requires, written_length w.written), walk_anew w)

pub returns : goal.returns
returns c =
    let v = (c.copy_ascii-start.ensures c.args.vowel).written in
    let e = c.spell_rest.ensures in
    (written_longer v e.1 e.0, e.2, e.3)
