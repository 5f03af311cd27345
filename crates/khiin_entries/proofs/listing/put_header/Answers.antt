-- `listing::put_header` meets its contract.
use Rattle.std.proofs.Common.{◌≡◌, take, get_or, ap, arith}
use Rattle.std.proofs.lemmas.List.{take_all}
use Rattle.khiin_entries.proofs.listing.Decimal.{decimal_most}
use Rattle.khiin_entries.proofs.listing.Putting.{put_start, put_as}
use Rattle.khiin_entries.proofs.listing.Texts.{number_length, numbered, numbered_next, header_cut, line_as}
use Rattle.khiin_entries.proofs.listing.put_header.Goals as goal

pub loop-count-init : goal.loop-count-init
loop-count-init c = (omega arith, omega arith, (_, put_start _ 0 (omega arith)))

pub put_number-end-requires : goal.put_number-end-requires
put_number-end-requires c =
    let h = c.loop-count.invariant in
    omega (arith, h.1, c.loop-count-test.array_long, decimal_most (get_or c.args.counts c.loop-count.count-index 0))

pub loop-count-preserved : goal.loop-count-preserved
loop-count-preserved c =
    let h = c.loop-count.invariant in
    let n = get_or c.args.counts c.loop-count.count-index 0 in
    let p = c.put_number-end.ensures in (
      omega (arith, h.0, p.ends, number_length n 0x20),
      omega (arith, h.1, p.ends, number_length n 0x20, decimal_most n),
      (h.2.0, numbered_next c.args.counts c.loop-count.count-index (omega arith) h.2.1 p),
    )

pub overflow_sub-line : goal.overflow_sub-line
overflow_sub-line c = omega (arith, c.loop-count.invariant.0)

pub returns : goal.returns
returns c =
    let h = c.loop-count.invariant in
    let all : take c.loop-count.count-index c.args.counts ≡ c.args.counts = take_all c.loop-count.count-index c.args.counts (omega arith) in
    line_as (header_cut c.args.counts (omega arith) (put_as (ap numbered all) h.2.1)) c.put_first.ensures
