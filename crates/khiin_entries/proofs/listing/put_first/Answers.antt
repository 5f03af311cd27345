-- `listing::put_first` meets its contract.
use Rattle.std.proofs.Common.{inl, inr}
use Rattle.khiin_entries.proofs.listing.Texts.{first_passed, first_over, first_put}
use Rattle.khiin_entries.proofs.listing.put_first.Goals as goal

pub returns-then-from-gt0 : goal.returns-then-from-gt0
returns-then-from-gt0 c =
    let a = c.args in
    elim c.then-from-gt0.either [ inl h ↦ first_passed a.line.now a.from a.out.now h | inr h ↦ first_over a.line.now a.from a.out.now h.0 h.1 ]

pub returns : goal.returns
returns c = first_put c.args.line.now c.args.from c.args.out.now c.if-from-gt0.false _ c.copy_from_slice.ensures.after c.if-out-line.false
