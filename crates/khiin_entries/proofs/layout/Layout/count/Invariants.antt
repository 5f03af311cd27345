-- `Layout::count` meets its contract.
use Rattle.std.proofs.Common.{◌≡◌}
use Rattle.khiin_entries.specs.Choices.{count_in}
use Rattle.khiin_entries.proofs.layout.Layout.count.Given as goal

abbrev pub invariant-loop-radix : goal.invariant-loop-radix
invariant-loop-radix l = l.count ≡ count_in l.self.choices.now.radices l.radix-index
