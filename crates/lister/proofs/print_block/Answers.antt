use Rattle.std.proofs.Common.{refl}
use Rattle.lister.proofs.Laws.{next_told}
use Rattle.lister.proofs.print_block.Goals as goal

pub returns-clause-range : goal.returns-clause-range
returns-clause-range g c =
    rw c.then_some.ensures ((next_told c.args.entry.now c.args.from _ _ c.list-listed.ensures.0 _ refl).0)

pub returns-clause-next : goal.returns-clause-next
returns-clause-next g c =
    rw c.then_some.ensures ((next_told c.args.entry.now c.args.from _ _ c.list-listed.ensures.0 _ refl).1)
