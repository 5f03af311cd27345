use native.Mathlib.Omega.{arith}
use Rattle.ji.proofs.text.Laws.{lower_letter, lower_small, lower_large}
use Rattle.ji.proofs.text.lower.Goals as goal

pub returns-in-65-to-90 : goal.returns-in-65-to-90
returns-in-65-to-90 c = lower_letter c.args.x (omega arith) (omega arith)

pub returns-in_default : goal.returns-in_default
returns-in_default c = lower_small c.args.x (omega arith)

pub returns-in_default-2 : goal.returns-in_default-2
returns-in_default-2 c = lower_large c.args.x (omega arith)
