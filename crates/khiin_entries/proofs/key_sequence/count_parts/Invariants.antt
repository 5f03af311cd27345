-- `key_sequence::count_parts` meets its contract. The loop's invariant: the parts that are passed are short, and not too many.
use Rattle.std.proofs.Common.{◌≡◌, ◌≤◌, length, drop}
use Rattle.khiin_entries.specs.KeySequence.{split}
use Rattle.khiin_entries.specs.Choices.{all_short}
use Rattle.khiin_entries.proofs.key_sequence.count_parts.Given as goal

-- the parts behind those are short just where all are
abbrev pub invariant-loop-part : goal.invariant-loop-part
invariant-loop-part l =
    record {
      passed : l.parts ≡ length l.yielded;
      few : l.parts ≤ 16;
      short : all_short (split l.entry) ≡ all_short (drop l.parts (split l.entry));
    }
