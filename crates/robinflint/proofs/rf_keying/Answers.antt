use mathlib.Core.Path.{◌≡◌, sym, ap, ◌∙◌}
use mathlib.Core.Bool.{Bool, true, false}
use mathlib.Core.List.{List}
use Prim.Native.Nat.{ℕ}
use lib.Dec.{leb}
use borrow.Author.Tests.{le-leb, lt-leb}
use Rattle.ji.specs.Unicode.{unicode16}
use Rattle.ji.specs.Reply.{refused, pick_reply}
use Rattle.ji.specs.declared.reply.Refusal.TheVariants.{Argument}
use Rattle.khiin_entries.specs.KeySequence.{keying_call}
use Rattle.robinflint.specs.Arguments.{kind_of, keying_numbered}
use Rattle.robinflint.proofs.rf_keying.Goals as goal

-- the call by the test of its kind
by_test : (entry : List ℕ) (kind position : ℕ) (buffer : List ℕ) (b : Bool) → leb kind 2 ≡ b → pick_reply b (keying_call unicode16 entry (kind_of kind) position buffer) (refused Argument buffer) ≡ keying_numbered entry kind position buffer
by_test entry kind position buffer b e = ap (λ (x : Bool). pick_reply x (keying_call unicode16 entry (kind_of kind) position buffer) (refused Argument buffer)) (sym e)

pub returns-then-kind-gt2 : goal.returns-then-kind-gt2
returns-then-kind-gt2 c = let a = c.args in c.refuse.ensures a.out.now ∙ by_test a.entry.now a.kind a.position a.out.now false (lt-leb _ _ c.if-kind-gt2.true)

pub returns : goal.returns
returns c =
    let a = c.args in
    c.to_reply.ensures c.keying_at.new.out
    ∙ rw c.kind_of.ensures at c.keying_at.ensures
    ∙ by_test a.entry.now a.kind a.position a.out.now true (le-leb _ _ c.if-kind-gt2.false)
