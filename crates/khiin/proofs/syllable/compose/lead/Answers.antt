use Rattle.ji.proofs.Writing.{written_none, written_one}
use native.Mathlib.Omega.{arith}
use Rattle.khiin.proofs.syllable.compose.lead.Goals as goal

pub returns-in-Yes : goal.returns-in-Yes
returns-in-Yes c =
    let out = c.args.out.now in
    rw c.in-Yes.is (written_one (written_one (written_none out) 0x2D (omega arith)) 0x2D (omega arith), omega arith)
