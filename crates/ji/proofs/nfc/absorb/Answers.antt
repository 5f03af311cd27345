-- `ji::nfc::absorb` meets its contract. The loop's invariant: R1 and R2 on the whole text are R1 and R2 on what stands before i.
use mathlib.Core.Path.{refl, sym, ◌∙◌, ap}
use native.Mathlib.Omega.{arith}
use Rattle.ucd.specs.Unicode16.{unicode16}
use Rattle.ucd.specs.Answer.{point_of}
use Rattle.ji.specs.Nfc.{reversed}
use Rattle.ji.proofs.ComposeLoops.{searching_start, searching_more, searching_blocked, searching_none, searching_some, searching_end, low_stays}
use Rattle.ji.proofs.nfc.absorb.Goals as goal

pub returns-then-c-lt768 : goal.returns-then-c-lt768
returns-then-c-lt768 c = (sym (low_stays c.args.c c.if-c-lt768.true (reversed c.args.s.now)), λ e. refl)

pub loop-i-init : goal.loop-i-init
loop-i-init c = searching_start unicode16 c.args.s.now c.args.c

pub returns-then-before-eq0 : goal.returns-then-before-eq0
returns-then-before-eq0 c =
    searching_some unicode16 c.loop-i.invariant c.loop-i-test.true (sym c.class_of-before.ensures ∙ c.if-before-eq0.true)
    c.in-Some.p (sym (ap point_of c.in-Some.is) ∙ c.composite.ensures)

pub returns-in_default : goal.returns-in_default
returns-in_default c =
    searching_none unicode16 c.loop-i.invariant c.loop-i-test.true (sym c.class_of-before.ensures ∙ c.if-before-eq0.true)
    (sym (ap point_of c.in_default.is) ∙ c.composite.ensures)

pub returns-then-class-before : goal.returns-then-class-before
returns-then-class-before c =
    searching_blocked unicode16 c.loop-i.invariant c.loop-i-test.true (λ z. omega arith) (omega arith)

pub loop-i-preserved : goal.loop-i-preserved
loop-i-preserved c =
    searching_more unicode16 c.loop-i.invariant c.loop-i-test.true (λ z. omega arith) (omega arith)

pub returns : goal.returns
returns c = searching_end unicode16 c.loop-i.invariant c.loop-i-test.false
