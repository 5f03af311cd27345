-- `ji::nfd::order` meets its contract: a text that is in order is its own order.
use mathlib.Core.Path.{sym}
use Rattle.ucd.specs.Unicode16.{unicode16}
use Rattle.ji.proofs.Order.{ordered_fixed}
use Rattle.ji.proofs.nfd.order.Goals as goal

pub returns-else-not-is_ordered : goal.returns-else-not-is_ordered
returns-else-not-is_ordered c = sym (ordered_fixed unicode16 c.args.s.now (c.is_ordered.ensures.0 c.if-not-is_ordered.false))
