use mathlib.Core.Path.{subst}
use Rattle.ji.proofs.Writing.{written_one}
use Rattle.khiin.specs.Compose.{Front}
use Rattle.khiin.proofs.syllable.compose.Laws.{front_written, front_whole, moved_end, moved_none, moved_some}
use native.Mathlib.Omega.{arith}
use Rattle.khiin.proofs.syllable.compose.move_sign.Goals as goal
use Rattle.khiin.proofs.syllable.compose.move_sign.Goals.{then-len-eq0-via-then-len-eq0, then-len-eq0-via-else-len-eq0+then-s-len}

pub returns-then-len-eq0 : goal.returns-then-len-eq0
returns-then-len-eq0 c =
    let a = c.args in
    let s = a.s.now in
    elim c.then-len-eq0.branch [
      | then-len-eq0-via-then-len-eq0 w ↦ rw (moved_none a.sign s (omega (arith, w.if-len-eq0.true))).0 (front_whole s)
      | then-len-eq0-via-else-len-eq0+then-s-len w ↦ rw (moved_end a.sign s w.if-s-len.true) (front_whole s)
    ]

pub returns-then-n-len : goal.returns-then-n-len
returns-then-n-len c =
    let a = c.args in
    let w = c.take_out-n.ensures in
    rw (moved_some a.sign a.s.now c.if-s-len.false (rw w.size c.if-n-len.true)) (front_written (written_one w a.sign c.if-n-len.true))

pub returns-else-n-len : goal.returns-else-n-len
returns-else-n-len c =
    let a = c.args in
    let w = c.take_out-n.ensures in
    let m = moved_none a.sign a.s.now (rw w.size c.if-n-len.false) in
    rw m.0 (subst (Front _ _) m.1 (front_written w))
