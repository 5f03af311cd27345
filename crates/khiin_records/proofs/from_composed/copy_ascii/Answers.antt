use mathlib.Core.Path.{◌≡◌, sym, ◌∙◌}
use borrow.Author.Tests.{ltb-true}
use lib.ListN.{length}
use Rattle.ji.proofs.Writing.{written_length}
use Rattle.khiin_records.proofs.Walking.{walk_start, walk_ascii}
use native.Mathlib.Omega.{arith}
use Rattle.khiin_records.proofs.from_composed.copy_ascii.Goals as goal

pub loop-i-init : goal.loop-i-init
loop-i-init c = λ vowel. walk_start vowel c.args.s.now c.args.out.now

pub bounds-out-i : goal.bounds-out-i
bounds-out-i c = let l = c.loop-i in omega (arith, written_length (l.invariant 0).written, c.requires, c.loop-i-test.true)

pub loop-i-preserved : goal.loop-i-preserved
loop-i-preserved c =
    let l = c.loop-i in
    λ vowel. walk_ascii (l.invariant vowel) c.loop-i-test.true (ltb-true _ _ (sym c.is_ascii.ensures ∙ c.if-not-is_ascii.false)) (omega (arith, c.requires, c.loop-i-test.true))

pub returns : goal.returns
returns c =
    let end : length c.args.s.now ≡ c.loop-i.i = omega arith in
    λ vowel. rw end (c.loop-i.invariant vowel)
