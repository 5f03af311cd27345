use Rattle.std.proofs.lemmas.Result.{err_from_is_err_and}
-- `unicode::long_points` meets its contract: what the count says of the text and its room is settled before a byte is written.
use mathlib.Core.Path.{ap, ◌∙◌}
use native.Mathlib.Omega.{arith}
use lib.ListN.{length}
use Rattle.ucd.specs.Unicode16.{unicode16}
use Rattle.ji.specs.Unicode.{accepted}
use Rattle.ji.proofs.Replies.{placed_not}
use Rattle.ji.proofs.unicode.Laws.{spread_plain}
use Rattle.ji.proofs.unicode.Replied.{counted, reply, read}
use Rattle.ji.proofs.unicode.long_points.Goals as goal

pub returns-in_err-len : goal.returns-in_err-len
returns-in_err-len c =
    let p = err_from_is_err_and c.from_residual.result c.from_residual.ensures.1 in
    rw (p.1, p.2) (reply c.args.text.now (counted c.args.text.now c.in_err-len.was c.count_points.ensures) c.args.out.now)

pub returns-then-out-len : goal.returns-then-out-len
returns-then-out-len c =
    let s = c.args.text.now in
    let k = counted s c.in_ok-len.was c.count_points.ensures in
    placed_not 0 k.0 c.args.out.now (omega (arith, k.3)) ∙ reply s k.1 c.args.out.now

pub decode-requires : goal.decode-requires
decode-requires c =
    let s = c.args.text.now in
    let k = counted s c.in_ok-len.was c.count_points.ensures in
    omega (arith, k.3, ap length (spread_plain unicode16 (accepted unicode16 s) ∙ k.2))

pub returns : goal.returns
returns c =
    let s = c.args.text.now in
    let k = counted s c.in_ok-len.was c.count_points.ensures in
    read s k.0 c.args.out.now c.decode.new.out k.1 c.decode.result c.decode.ensures ∙ reply s k.1 c.args.out.now
