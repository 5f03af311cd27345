-- `listing::list_refusal` meets its contract.
use Rattle.std.proofs.Common.{arith}
use Rattle.khiin_entries.proofs.listing.Decimal.{decimal_most}
use Rattle.khiin_entries.proofs.listing.Texts.{refusal_cut, line_as}
use Rattle.khiin_entries.proofs.listing.list_refusal.Goals as goal

pub put_number-end-requires : goal.put_number-end-requires
put_number-end-requires c = rw c.copy_from_slice.ensures.after (omega (arith, decimal_most c.number.result))

pub returns : goal.returns
returns c = line_as (refusal_cut _ _ c.args.why _ c.copy_from_slice.ensures.after c.number.ensures c.put_number-end.ensures) c.put_first.ensures
