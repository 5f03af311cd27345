-- The keys of a syllable, with form and kind as numbers.
use Rattle.std.specs.Prelude.{Bool, true, false, ◌&&◌, List, ℕ, leb, eqb}
use Rattle.ji.specs.Unicode.{unicode16}
use Rattle.ji.specs.Reply.{Reply, refused, pick_reply, text_call}
use Rattle.ji.specs.Lomaji.Keys.{keys}
use Rattle.ji.specs.declared.reply.Refusal.TheVariants.{Argument}
use Rattle.ji.specs.declared.lomaji.keys.Form.{Form}
use Rattle.ji.specs.declared.lomaji.keys.Form.TheVariants.{Plain, Oo}
use Rattle.robinflint.specs.Arguments.{kind_of}

-- 0 plain, 1 `_oo`
abbrev pub pick_form : Bool → Form → Form → Form
pick_form true a b = a
pick_form false a b = b

abbrev pub form_of : ℕ → Form
form_of n = pick_form (eqb n 0) Plain Oo

abbrev pub keys_call : ℕ → ℕ → List ℕ → List ℕ → Reply
keys_call form kind text buffer =
    pick_reply (leb form 1 && leb kind 2) (text_call unicode16 (keys unicode16 (form_of form) (kind_of kind)) text buffer) (refused Argument buffer)
