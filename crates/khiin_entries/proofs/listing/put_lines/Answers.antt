-- `listing::put_lines` meets its contract.
use Rattle.std.proofs.Common.{◌≡◌, arith}
use Rattle.khiin_entries.proofs.listing.Putting.{put_length, showing_next, showing_over, showing_all}
use Rattle.khiin_entries.proofs.listing.Texts.{lines_length, lines_line, line_length}
use Rattle.khiin_entries.proofs.listing.put_lines.Goals as goal

pub returns-then-out-end : goal.returns-then-out-end
returns-then-out-end c =
    let a = c.args in
    let h = c.loop-i.invariant.1 in
    let n = lines_length a.letter a.layout.now in
    showing_over h (omega (arith, n, c.count-count.ensures.0)) _ (lines_line a.letter a.layout.now c.loop-i.i (omega (arith, c.count-count.ensures.0)))
    (omega (arith, c.if-out-end.true, c.length_at-n.ensures.0, c.digit_count.ensures.0, put_length h.put, line_length a.layout.now c.loop-i.i a.letter))

pub loop-i-preserved : goal.loop-i-preserved
loop-i-preserved c =
    let a = c.args in
    let n = lines_length a.letter a.layout.now in
    (omega arith, showing_next c.loop-i.invariant.1 (omega (arith, n, c.count-count.ensures.0)) _ (lines_line a.letter a.layout.now c.loop-i.i (omega (arith, c.count-count.ensures.0))) _ _ c.put_line-end.ensures)

pub returns : goal.returns
returns c =
    let a = c.args in
    let n = lines_length a.letter a.layout.now in
    let z : c.loop-i.i ≡ c.max.result = omega (arith, c.max.ensures) in
    rw (← z) (showing_all c.loop-i.invariant.1 (omega (arith, n, c.count-count.ensures.0)))
