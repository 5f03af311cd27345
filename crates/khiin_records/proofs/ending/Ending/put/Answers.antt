use mathlib.Core.Path.{refl}
use Rattle.ji.proofs.Writing.{stores_2}
use native.Mathlib.Omega.{arith}
use Rattle.khiin_records.proofs.ending.Ending.put.Goals as goal

pub returns-in-Yes : goal.returns-in-Yes
returns-in-Yes c = rw (c.in-Yes.is, c.digit.ensures) (refl, stores_2 c.args.out.now c.args.at c.digit.result 48 (omega arith))
