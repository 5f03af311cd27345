use mathlib.Core.Path.{◌≡◌, sym, ap, ◌∙◌}
use mathlib.Core.Bool.{Bool, true, false, ◌&&◌}
use mathlib.Core.List.{List}
use Prim.Native.Nat.{ℕ}
use Rattle.ji.specs.Unicode.{unicode16}
use Rattle.ji.specs.Text.{within}
use Rattle.ji.specs.Reply.{Reply, refused, pick_reply, text_call}
use Rattle.ji.specs.declared.reply.Refusal.TheVariants.{Argument, TooLong}
use Rattle.ji.proofs.Bools.{and_no, and_yes, and_false}
use Rattle.ji.proofs.Replies.{check_long, text_refused}
use Rattle.khiin.specs.Converter.{keys_in, settings_fit, telex, telex_call}
use Rattle.khiin.specs.Telex.{step_of}
use Rattle.khiin.specs.declared.converter.ToneKeys.{ToneKeys}
use Rattle.khiin.specs.declared.converter.ToneMode.{ToneMode}
use Rattle.std.proofs.Common.{rules}
use Rattle.khiin.proofs.converter.convert_to_telex.Goals as goal
use Rattle.khiin.proofs.converter.convert_to_telex.Goals.{then-not-is_key-via-then-not-is_key, then-not-is_key-via-else-not-is_key+then-not-settings_fit}

module _ (mode : ToneMode) (k : ToneKeys) (key : ℕ) (text buffer : List ℕ) where
  abbrev picked : Bool → Reply
  picked b = pick_reply b (text_call unicode16 (telex unicode16 mode k key) text buffer) (refused Argument buffer)

  refused_key : within 0x20 0x7E key ≡ false → refused Argument buffer ≡ telex_call unicode16 mode k key text buffer
  unfolding telex_call
  refused_key e = sym (ap picked (and_no (within 0x20 0x7E key) (settings_fit k) e))

  refused_settings : settings_fit k ≡ false → refused Argument buffer ≡ telex_call unicode16 mode k key text buffer
  unfolding telex_call
  refused_settings e = sym (ap picked (ap (λ (b : Bool). within 0x20 0x7E key && b) e ∙ and_false (within 0x20 0x7E key)))

  -- the step with the keys that the mode leaves
  taken : within 0x20 0x7E key ≡ true → settings_fit k ≡ true → (used : ToneKeys) → used ≡ keys_in mode k → text_call unicode16 (step_of unicode16 used key) text buffer ≡ telex_call unicode16 mode k key text buffer
  unfolding telex_call telex step_of
  taken e f used g =
      ap (λ (x : ToneKeys). text_call unicode16 (step_of unicode16 x key) text buffer) g
      ∙ sym (ap picked (and_yes (within 0x20 0x7E key) (settings_fit k) e ∙ f))

pub returns-then-not-is_key : goal.returns-then-not-is_key
returns-then-not-is_key c =
    let a = c.args in
    elim c.then-not-is_key.branch [
      | then-not-is_key-via-then-not-is_key w ↦ refused_key a.mode a.keys a.key a.text.now a.out.now (sym c.is_key.ensures ∙ w.if-not-is_key.true)
      | then-not-is_key-via-else-not-is_key+then-not-settings_fit w ↦ refused_settings a.mode a.keys a.key a.text.now a.out.now (sym w.settings_fit.ensures ∙ w.if-not-settings_fit.true)
    ]

pub returns-in-0-to-8 : goal.returns-in-0-to-8
returns-in-0-to-8 c =
    let a = c.args in
    c.step_with.ensures
    ∙ taken a.mode a.keys a.key a.text.now a.out.now (sym c.is_key.ensures ∙ c.if-not-is_key.false) (sym c.settings_fit.ensures ∙ c.if-not-settings_fit.false) _ c.keys_in-k.ensures

pub returns-in-9-to-256 : goal.returns-in-9-to-256
returns-in-9-to-256 c =
    let a = c.args in
    c.step_with-in-9-to-256.ensures
    ∙ taken a.mode a.keys a.key a.text.now a.out.now (sym c.is_key.ensures ∙ c.if-not-is_key.false) (sym c.settings_fit.ensures ∙ c.if-not-settings_fit.false) _ c.keys_in-k.ensures

pub returns-in_default : goal.returns-in_default
returns-in_default c =
    let a = c.args in
    let k = c.keys_in-k in
    text_refused unicode16 (step_of unicode16 k.result a.key) a.text.now a.out.now TooLong (check_long unicode16 a.text.now (search rules))
    ∙ taken a.mode a.keys a.key a.text.now a.out.now (sym c.is_key.ensures ∙ c.if-not-is_key.false) (sym c.settings_fit.ensures ∙ c.if-not-settings_fit.false) _ k.ensures
