use Rattle.std.proofs.Common.{◌≡◌, ◌+◌, ◌*◌, ◌≤◌}
use Rattle.khiin_entries.specs.Choices.{length_in}
use Rattle.khiin_entries.proofs.layout.Layout.length_at.Given as goal

abbrev pub invariant-loop-i : goal.invariant-loop-i
invariant-loop-i l =
    (l.length + length_in l.self.choices.now.lengths l.self.choices.now.radices l.i l.left ≡ length_in l.self.choices.now.lengths l.self.choices.now.radices l.self.parts l.position) × (l.length + l.i * 65535 ≤ l.self.parts * 65535)
