use Rattle.std.proofs.lemmas.Result.{err_from_is_err_and}
use Rattle.ji.proofs.unicode.Reader.{accepted_room}
use mathlib.Core.Bool.{true}
use Rattle.ucd.specs.Unicode16.{unicode16}
use Rattle.ji.proofs.Readings.{told, nfd_long, nfd_refused, nfd_ordered}
use native.Mathlib.Omega.{arith}
use Rattle.ji.proofs.nfd.read_nfd.Goals as goal

pub returns-then-text-gt256 : goal.returns-then-text-gt256
returns-then-text-gt256 c = let a = c.args in nfd_long unicode16 a.text.now a.points.now a.points.now c.if-text-gt256.true

pub returns-in_err-len : goal.returns-in_err-len
returns-in_err-len c =
    let p = err_from_is_err_and c.from_residual.result c.from_residual.ensures.1 in
    rw (p.1, p.2) (let a = c.args in
    nfd_refused unicode16 a.text.now a.points.now _ c.if-text-gt256.false _ (told unicode16 _ _ _ true c.in_err-len.was c.decode.ensures))

pub returns : goal.returns
returns c =
    let a = c.args in
    nfd_ordered unicode16 a.text.now a.points.now _ c.if-text-gt256.false _ _ (told unicode16 _ _ _ true c.in_ok-len.was c.decode.ensures) c.order.ensures

pub decode-requires : goal.decode-requires
decode-requires c = omega (arith, accepted_room true c.args.text.now, c.requires)
