use mathlib.Core.Path.{◌≡◌, sym, ap, ◌∙◌}
use mathlib.Core.Bool.{Bool, true, false, not, ◌&&◌}
use mathlib.Core.Logic.{⊎_elim}
use Rattle.std.proofs.Common.{rules}
use Rattle.ji.proofs.Bools.{and_true, and_false}
use Rattle.khiin.proofs.converter.Laws.{stop_after, held, stop_start, stop_first, stop_second, stop_n, stop_other, stop_end, stop_single, stop_none}
use native.Mathlib.Omega.{arith}
use Rattle.khiin.proofs.converter.ends_in_stop.Goals as goal
use Rattle.khiin.proofs.converter.ends_in_stop.Goals.{in-8319, in-110, in_default}

-- what is left at the end
told : (stop single : Bool) → stop_after stop (held single) ≡ (stop && not single)
told stop true = stop_single stop ∙ sym (and_false stop)
told stop false = stop_none stop ∙ sym (and_true stop)

pub loop-x-init : goal.loop-x-init
loop-x-init c = stop_start c.args.body.now

pub loop-x-preserved : goal.loop-x-preserved
loop-x-preserved c =
    let l = c.loop-x in
    let s = c.args.body.now in
    let x = c.lower in
    elim c.match-lower.branch [
      | in-8319 w ↦
          rw (w.stop-is, w.single-is)
          (⊎_elim
          (λ e. l.invariant ∙ stop_second s l.stop l.single l.x-index (omega arith) x.result x.ensures e)
          (λ e. l.invariant ∙ stop_first s l.stop l.single l.x-index (omega arith) x.result x.ensures e)
          w.in-8319.is)
      | in-110 w ↦ rw (w.stop-is, w.single-is) (l.invariant ∙ stop_n s l.stop l.single l.x-index (omega arith) x.result x.ensures w.in-110.is)
      | in_default w ↦
          rw (w.stop-is, w.single-is)
          (l.invariant ∙ stop_other s l.stop l.single l.x-index (omega arith) x.result x.ensures (search rules) (search rules) (search rules) w.is_stop-stop.result w.is_stop-stop.ensures)
    ]

pub returns-then-stop : goal.returns-then-stop
returns-then-stop c =
    let l = c.loop-x in
    sym (l.invariant ∙ stop_end c.args.body.now l.stop l.single l.x-index c.loop-x-test.false ∙ told l.stop l.single ∙ ap (λ (b : Bool). b && not l.single) c.if-stop.true)

pub returns-else-stop : goal.returns-else-stop
returns-else-stop c =
    let l = c.loop-x in
    c.if-stop.false
    ∙ sym (l.invariant ∙ stop_end c.args.body.now l.stop l.single l.x-index c.loop-x-test.false ∙ told l.stop l.single ∙ ap (λ (b : Bool). b && not l.single) c.if-stop.false)
