-- `key_sequence::put_form` meets its contract: the part is good and there is room, so the call gives the form.
use Rattle.std.proofs.Common.{ℕ, ◌+◌, refl, ap, arith}
use Rattle.ji.specs.Unicode.{unicode16}
use Rattle.khiin_entries.specs.Choices.{form_bytes}
use Rattle.khiin_entries.proofs.key_sequence.Forms.{call_length, call_buffer, call_answers}
use Rattle.khiin_entries.proofs.key_sequence.Writing.{part_room, put_back}
use Rattle.khiin_entries.proofs.key_sequence.put_form.Goals as goal

pub unwrap-written-requires : goal.unwrap-written-requires
unwrap-written-requires c =
    let a = c.args in
    call_answers a.form a.kind a.part.now _ c.requires.0 (part_room a.forms.now a.at _ c.requires.1) c.keys.result _ c.keys.ensures _ refl

pub overflow_add-result : goal.overflow_add-result
overflow_add-result c =
    let a = c.args in
    omega (arith, call_length a.form a.kind a.part.now _ c.requires.0 (part_room a.forms.now a.at _ c.requires.1) c.keys.result _ c.keys.ensures _ c.unwrap-written.ensures)

pub returns : goal.returns
returns c =
    let a = c.args in
    let room = part_room a.forms.now a.at _ c.requires.1 in (
      ap (λ (n : ℕ). a.at + n) (call_length a.form a.kind a.part.now _ c.requires.0 room c.keys.result _ c.keys.ensures _ c.unwrap-written.ensures),
      put_back a.forms.now (form_bytes unicode16 a.form a.kind a.part.now) _ a.at c.requires.1 (call_buffer a.form a.kind a.part.now _ c.requires.0 room c.keys.result _ c.keys.ensures _ c.unwrap-written.ensures),
    )
