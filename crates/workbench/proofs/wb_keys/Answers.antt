use mathlib.Core.Path.{◌≡◌, sym, ap, ◌∙◌}
use mathlib.Core.Bool.{Bool, true, false, ◌&&◌}
use mathlib.Core.List.{List}
use Prim.Native.Nat.{ℕ}
use lib.Dec.{leb}
use borrow.Author.Tests.{le-leb, lt-leb}
use Rattle.ji.specs.Unicode.{unicode16}
use Rattle.ji.specs.Reply.{refused, pick_reply, text_call}
use Rattle.ji.specs.Lomaji.Keys.{keys}
use Rattle.ji.specs.declared.reply.Refusal.TheVariants.{Argument}
use Rattle.ji.proofs.Bools.{and_yes, and_no}
use Rattle.robinflint.specs.Arguments.{kind_of}
use Rattle.workbench.specs.Keys.{form_of, keys_call}
use Rattle.workbench.proofs.wb_keys.Goals as goal
use Rattle.workbench.proofs.wb_keys.Goals.{then-form-gt1-via-then-form-gt1, then-form-gt1-via-else-form-gt1+then-kind-gt2}

-- the call by the test of its two numbers
by_test : (form kind : ℕ) (text buffer : List ℕ) (b : Bool) → (leb form 1 && leb kind 2) ≡ b → pick_reply b (text_call unicode16 (keys unicode16 (form_of form) (kind_of kind)) text buffer) (refused Argument buffer) ≡ keys_call form kind text buffer
by_test form kind text buffer b e = ap (λ (x : Bool). pick_reply x (text_call unicode16 (keys unicode16 (form_of form) (kind_of kind)) text buffer) (refused Argument buffer)) (sym e)

pub returns-then-form-gt1 : goal.returns-then-form-gt1
returns-then-form-gt1 c =
    let a = c.args in
    c.refuse.ensures a.out.now
    ∙ by_test a.form a.kind a.text.now a.out.now false (
    elim c.then-form-gt1.branch [
      | then-form-gt1-via-then-form-gt1 w ↦ and_no _ _ (lt-leb _ _ w.if-form-gt1.true)
      | then-form-gt1-via-else-form-gt1+then-kind-gt2 w ↦ and_yes _ _ (le-leb _ _ w.if-form-gt1.false) ∙ lt-leb _ _ w.if-kind-gt2.true
    ]
    )

pub returns : goal.returns
returns c =
    let a = c.args in
    c.to_reply.ensures c.keys.new.out ∙ rw (c.form_of.ensures, c.kind_of.ensures) at c.keys.ensures
    ∙ by_test a.form a.kind a.text.now a.out.now true (and_yes _ _ (le-leb _ _ c.if-form-gt1.false) ∙ le-leb _ _ c.if-kind-gt2.false)
