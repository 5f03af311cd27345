use mathlib.Core.Path.{◌≡◌, sym, ap, ◌∙◌}
use mathlib.Core.Bool.{Bool, true, false}
use mathlib.Core.List.{List}
use Prim.Native.Nat.{ℕ, ◌<◌}
use lib.Dec.{leb}
use borrow.Author.Tests.{le-leb, lt-leb}
use Rattle.ji.specs.Unicode.{unicode16}
use Rattle.ji.specs.Text.{within}
use Rattle.ji.specs.Reply.{refused, pick_reply, text_call}
use Rattle.ji.specs.declared.reply.Refusal.TheVariants.{Argument}
use Rattle.ji.proofs.Bools.{either, and_no, within_above}
use Rattle.khiin.specs.Converter.{settings_fit, telex, telex_call}
use Rattle.robinflint.specs.Arguments.{mode_of, keys_of, telex_numbered}
use Rattle.robinflint.proofs.rf_telex.Goals as goal
use Rattle.robinflint.proofs.rf_telex.Goals.{then-mode-gt1-via-then-mode-gt1, then-mode-gt1-via-else-mode-gt1+then-key-gt126}

-- the call by the test of its mode
by_test : (text : List ℕ) (key mode : ℕ) (keys buffer : List ℕ) (b : Bool) → leb mode 1 ≡ b → pick_reply b (telex_call unicode16 (mode_of mode) (keys_of keys) key text buffer) (refused Argument buffer) ≡ telex_numbered text key mode keys buffer
by_test text key mode keys buffer b e = ap (λ (x : Bool). pick_reply x (telex_call unicode16 (mode_of mode) (keys_of keys) key text buffer) (refused Argument buffer)) (sym e)

-- a key above 7E is refused whatever the mode
high_key : (text : List ℕ) (key mode : ℕ) (keys buffer : List ℕ) → 0x7E < key → refused Argument buffer ≡ telex_numbered text key mode keys buffer
unfolding telex_call
high_key text key mode keys buffer h =
    let no : telex_call unicode16 (mode_of mode) (keys_of keys) key text buffer ≡ refused Argument buffer = ap (λ (b : Bool). pick_reply b (text_call unicode16 (telex unicode16 (mode_of mode) (keys_of keys) key) text buffer) (refused Argument buffer)) (and_no (within 0x20 0x7E key) (settings_fit (keys_of keys)) (within_above 0x20 0x7E key h)) in
    either (leb mode 1)
    (λ e. sym no ∙ by_test text key mode keys buffer true e)
    (λ e. by_test text key mode keys buffer false e)

pub returns-then-mode-gt1 : goal.returns-then-mode-gt1
returns-then-mode-gt1 c =
    let a = c.args in
    c.refuse.ensures a.out.now
    ∙ elim c.then-mode-gt1.branch [
      | then-mode-gt1-via-then-mode-gt1 w ↦ by_test a.text.now a.key a.mode a.keys.now a.out.now false (lt-leb _ _ w.if-mode-gt1.true)
      | then-mode-gt1-via-else-mode-gt1+then-key-gt126 w ↦ high_key a.text.now a.key a.mode a.keys.now a.out.now w.if-key-gt126.true
    ]

pub returns : goal.returns
returns c =
    let a = c.args in
    c.to_reply.ensures c.convert_to_telex.new.out
    ∙ rw (c.mode_of.ensures, c.keys_of.ensures) at c.convert_to_telex.ensures
    ∙ by_test a.text.now a.key a.mode a.keys.now a.out.now true (le-leb _ _ c.if-mode-gt1.false)
