use Rattle.std.proofs.Common.{◌≤◌, length, take}
use Rattle.std.specs.Io.KnownBytes.{Consumes}
use Rattle.lister.proofs.fill.Given as goal

-- the first n bytes were read, and no others
abbrev pub invariant-loop : goal.invariant-loop
invariant-loop g l =
    record {
      inside : l.n ≤ length l.text;
      read : Consumes (g.R.Read.remaining l.fn.reader) (g.R.Read.remaining l.reader) (take l.n l.text);
    }
