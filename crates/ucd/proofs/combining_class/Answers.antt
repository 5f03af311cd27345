-- `ucd::combining_class` meets its contract: nothing below 0300 has a class. Assumes nothing.
use mathlib.Core.Path.{sym}
use Rattle.ucd.proofs.Unicode16.{low_starter}
use Rattle.ucd.proofs.combining_class.Goals as goal

pub returns-then-c-lt768 : goal.returns-then-c-lt768
returns-then-c-lt768 c = sym (low_starter c.args.c c.if-c-lt768.true)
