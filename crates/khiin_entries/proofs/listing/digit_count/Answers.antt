-- `listing::digit_count` meets its contract.
use Rattle.khiin_entries.proofs.listing.Decimal.{digits_known}
use Rattle.khiin_entries.proofs.listing.digit_count.Goals as goal

pub returns : goal.returns
returns c =
    let said = c.checked_ilog10.ensures in
    rw c.unwrap_or.ensures (digits_known c.checked_ilog10.result c.args.n said.none said.power_le said.next_power_gt said.bound)
