-- `listing::list` meets its contract.
use Rattle.std.proofs.Common.{refl, [], ◌∷◌}
use Rattle.ji.specs.Unicode.{unicode16}
use Rattle.khiin_entries.specs.Lines.{refusal_line}
use Rattle.khiin_entries.specs.Listing.{listing}
use Rattle.khiin_entries.proofs.listing.Sections.{listing_refused, told}
use Rattle.khiin_entries.proofs.listing.list.Goals as goal

pub returns-in-Ok : goal.returns-in-Ok
returns-in-Ok c =
    let a = c.args in
    told a.entry.now (listing unicode16 a.entry.now) a.from a.out.now _ _ _ refl (rw c.in-Ok.ensures at c.list_entry.ensures)

pub returns-in-Err : goal.returns-in-Err
returns-in-Err c =
    let a = c.args in
    told a.entry.now (refusal_line c.in-Err.why ∷ []) a.from a.out.now _ _ _ (listing_refused a.entry.now c.in-Err.why c.in-Err.ensures) c.list_refusal.ensures
