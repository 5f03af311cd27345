use mathlib.Core.Path.{sym, ap}
use lib.ListN.{length}
use Rattle.ji.proofs.utf8.Encoding.{bytes_one, bytes_two, bytes_three}
use native.Mathlib.Omega.{arith}
use Rattle.ji.proofs.utf8.byte_count.Goals as goal

pub returns-in-0-to-127 : goal.returns-in-0-to-127
returns-in-0-to-127 c = (sym (ap length (bytes_one c.args.x (omega arith))), omega arith)

pub returns-in-128-to-2047 : goal.returns-in-128-to-2047
returns-in-128-to-2047 c = (sym (ap length (bytes_two c.args.x (omega arith) (omega arith))), omega arith)

pub returns-in_default : goal.returns-in_default
returns-in_default c = (sym (ap length (bytes_three c.args.x (omega arith) (omega arith))), omega arith)
