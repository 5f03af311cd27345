use mathlib.Core.Path.{◌∙◌}
use borrow.Author.Tests.{lt-leb}
use Rattle.ji.proofs.lomaji.strip.Laws.{ends_short, ends_ignoring}
use Rattle.ji.proofs.lomaji.strip.ends_in.Goals as goal

pub returns-then-s-ending : goal.returns-then-s-ending
returns-then-s-ending c = ends_ignoring c.args.ending.now c.args.s.now c.requires c.if-s-ending.true _ c.eq_ignore_ascii_case.ensures.test

pub returns-else-s-ending : goal.returns-else-s-ending
returns-else-s-ending c = lt-leb _ _ c.if-s-ending.false ∙ ends_short _ _ c.if-s-ending.false
