-- `ji::nfc::compose` meets its contract. The loop's invariant: composing on from what is done and what is left gives the whole.
use native.Mathlib.Omega.{arith}
use Rattle.ucd.specs.Unicode16.{unicode16}
use Rattle.ji.proofs.ComposeLoops.{composing_start, composing_room, composing_absorbed, composing_kept, composing_end}
use Rattle.ji.proofs.nfc.compose.Goals as goal
use Rattle.ji.proofs.nfc.compose.Goals.{then-not-absorb, else-not-absorb}

pub loop-i-init : goal.loop-i-init
loop-i-init c = composing_start unicode16 c.args.s.now

pub loop-i-preserved : goal.loop-i-preserved
loop-i-preserved c =
    let l = c.loop-i in
    let more = c.loop-i-test.true in
    let r = c.absorb in
    elim c.if-not-absorb.branch [
      | then-not-absorb w ↦ rw (w.s-is, w.n-is) (composing_kept unicode16 l.invariant more r.result r.new.s r.ensures r.auto.s w.if-not-absorb.true)
      | else-not-absorb w ↦ rw (w.s-is, w.n-is) (composing_absorbed unicode16 l.invariant more r.result r.new.s r.ensures r.auto.s w.if-not-absorb.false)
    ]

pub bounds-s-n : goal.bounds-s-n
bounds-s-n c =
    composing_room unicode16 c.loop-i.invariant c.loop-i-test.true
    c.absorb.result c.absorb.new.s c.absorb.ensures c.absorb.auto.s

pub returns : goal.returns
returns c = composing_end unicode16 c.loop-i.invariant (omega (arith, c.loop-i.invariant))
