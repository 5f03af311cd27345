-- `ji::nfd::class_of` meets its contract.
use mathlib.Core.Path.{sym}
use Rattle.ucd.proofs.Unicode16.{low_starter}
use Rattle.ji.proofs.nfd.class_of.Goals as goal

pub returns-then-c-lt768 : goal.returns-then-c-lt768
returns-then-c-lt768 c = sym (low_starter c.args.c c.if-c-lt768.true)
