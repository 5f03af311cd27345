-- `lomaji::keys::put_key` meets its contract: nothing is stored, or one element.
use mathlib.Core.Path.{refl}
use Rattle.ji.proofs.Writing.{stores_1}
use native.Mathlib.Omega.{arith}
use Rattle.ji.proofs.lomaji.keys.put_key.Goals as goal

pub returns-in-Some : goal.returns-in-Some
returns-in-Some c =
    let room = rw c.in-Some.is at c.requires in
    rw (c.in-Some.is, c.from.ensures) (refl, stores_1 c.args.out.now c.args.at c.in-Some.k (omega arith))
