-- `key_sequence::lay_out` meets its contract. The loop's invariant: the parts that are passed are laid out.
use Rattle.std.proofs.Common.{◌≡◌, ◌≤◌, length}
use Rattle.khiin_entries.proofs.key_sequence.Filling.{Filling}
use Rattle.khiin_entries.proofs.key_sequence.lay_out.Given as goal

abbrev pub invariant-loop-i : goal.invariant-loop-i
invariant-loop-i l =
    record {
      size : length l.forms ≡ length l.initial.forms;
      inside : l.used ≤ length l.forms;
      filling : Filling l.parted.entry.now l.kind l.forms l.choices.offsets l.choices.lengths l.choices.radices (length l.yielded) l.used;
    }
