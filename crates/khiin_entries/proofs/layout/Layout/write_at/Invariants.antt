-- `Layout::write_at` meets its contract: the pieces go in front of each other, from the last part to the first.
use Rattle.std.proofs.Common.{◌≤◌}
use Rattle.khiin_entries.specs.Choices.{length_in, keying_in}
use Rattle.khiin_entries.proofs.key_sequence.Backward.{Backward}
use Rattle.khiin_entries.proofs.layout.Layout.write_at.Given as goal

abbrev pub invariant-loop-i : goal.invariant-loop-i
invariant-loop-i l =
    let a = l.self in
    (length_in a.choices.now.lengths a.choices.now.radices l.i l.left ≤ l.at)
    × Backward l.initial.out l.out (keying_in a.forms.now a.choices.now.offsets a.choices.now.lengths a.choices.now.radices a.parts l.position) (keying_in a.forms.now a.choices.now.offsets a.choices.now.lengths a.choices.now.radices l.i l.left) l.at l.end
