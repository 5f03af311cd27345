-- `fill` meets its contract: what a read gives stands behind what was read before.
use Rattle.std.proofs.Common.{arith}
use Rattle.std.proofs.lemmas.Grind.{common_steps}
use Rattle.lister.proofs.Laws.{read_inside, read_further}
use Rattle.lister.proofs.fill.Goals as goal
use Rattle.lister.proofs.fill.Goals.{in-Ok, in-Err}

pub loop-preserved : goal.loop-preserved
loop-preserved g c =
    let l = c.loop in
    elim c.match-read.branch [
      | in-Ok w ↦
          let given = w.in-Ok.ensures in
          rw w.n-is
          (record {
            inside = read_inside l.text c.read.new.buf _ l.n w.in-Ok.more l.invariant.inside given.bound.0;
            read = read_further _ _ _ l.text c.read.new.buf _ l.n w.in-Ok.more l.invariant.inside given.bound.0 l.invariant.read given.bytes.0;
          })
      | in-Err w ↦ let given = w.in-Err.ensures in rw w.n-is (record { inside = grind (arith, common_steps); read = grind (arith, common_steps) })
    ]
