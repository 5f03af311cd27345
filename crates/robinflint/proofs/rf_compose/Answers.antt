use mathlib.Core.Path.{◌≡◌, sym, ap, ◌∙◌}
use mathlib.Core.Bool.{Bool, true, false, ◌&&◌}
use mathlib.Core.List.{List}
use Prim.Native.Nat.{ℕ}
use lib.Dec.{leb}
use borrow.Author.Tests.{le-leb, lt-leb}
use Rattle.ji.specs.Unicode.{unicode16}
use Rattle.ji.specs.Reply.{refused, pick_reply}
use Rattle.ji.specs.declared.reply.Refusal.TheVariants.{Argument}
use Rattle.ji.proofs.Bools.{and_yes, and_no}
use Rattle.khiin.specs.Syllable.{compose_call}
use Rattle.robinflint.specs.Arguments.{tone_of, khin_of, compose_numbered}
use Rattle.robinflint.proofs.rf_compose.Goals as goal
use Rattle.robinflint.proofs.rf_compose.Goals.{then-tone-gt9-via-then-tone-gt9, then-tone-gt9-via-else-tone-gt9+then-khin-gt1}

-- the call by the test of its two numbers
by_test : (raw body : List ℕ) (tone khin : ℕ) (buffer : List ℕ) (b : Bool) → (leb tone 9 && leb khin 1) ≡ b → pick_reply b (compose_call unicode16 raw body (tone_of tone) (khin_of khin) buffer) (refused Argument buffer) ≡ compose_numbered raw body tone khin buffer
by_test raw body tone khin buffer b e = ap (λ (x : Bool). pick_reply x (compose_call unicode16 raw body (tone_of tone) (khin_of khin) buffer) (refused Argument buffer)) (sym e)

pub returns-then-tone-gt9 : goal.returns-then-tone-gt9
returns-then-tone-gt9 c =
    let a = c.args in
    c.refuse.ensures a.out.now
    ∙ by_test a.raw.now a.body.now a.tone a.khin a.out.now false (
    elim c.then-tone-gt9.branch [
      | then-tone-gt9-via-then-tone-gt9 w ↦ and_no _ _ (lt-leb _ _ w.if-tone-gt9.true)
      | then-tone-gt9-via-else-tone-gt9+then-khin-gt1 w ↦ and_yes _ _ (le-leb _ _ w.if-tone-gt9.false) ∙ lt-leb _ _ w.if-khin-gt1.true
    ]
    )

pub returns : goal.returns
returns c =
    let a = c.args in
    c.to_reply.ensures c.compose.new.out
    ∙ rw (c.tone_of.ensures, c.khin_of.ensures) at c.compose.ensures
    ∙ by_test a.raw.now a.body.now a.tone a.khin a.out.now true (and_yes _ _ (le-leb _ _ c.if-tone-gt9.false) ∙ le-leb _ _ c.if-khin-gt1.false)
