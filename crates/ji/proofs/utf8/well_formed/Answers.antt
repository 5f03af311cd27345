use mathlib.Core.Path.{refl, sym, ◌∙◌, ap}
use Prim.Native.Nat.{ℕ, ◌+◌, ◌<◌}
use lib.ListN.{drop}
use Rattle.ji.specs.Utf8.{width_at, decode, is_decoded}
use Rattle.ji.proofs.utf8.Decoding.{width_most, decode_at_ill, decode_end, decoded_at, read_part, ill_part}
use native.Mathlib.Omega.{arith}
use Rattle.ji.proofs.utf8.well_formed.Goals as goal

pub loop-i-init : goal.loop-i-init
loop-i-init c = refl

pub returns-in_default : goal.returns-in_default
returns-in_default c =
    let l = c.loop-i in
    let a = c.args in
    sym (l.invariant ∙ ap is_decoded (decode_at_ill a.s.now l.i c.loop-i-test.true (ill_part a.s.now l.i c.in_default.ensures)))

pub overflow_add-i : goal.overflow_add-i
overflow_add-i c =
    let l = c.loop-i in
    let a = c.args in
    omega (arith, width_most (drop l.i a.s.now), (read_part a.s.now l.i _ _ c.in-Some.ensures).wide)

pub loop-i-preserved : goal.loop-i-preserved
loop-i-preserved c =
    let l = c.loop-i in
    let a = c.args in
    let q = read_part a.s.now l.i _ _ c.in-Some.ensures in
    let e = q.wide in
    let pos : 0 < width_at (drop l.i a.s.now) = omega (arith, e, q.some) in
    l.invariant ∙ decoded_at a.s.now l.i c.loop-i-test.true pos ∙ ap (λ (w : ℕ). is_decoded (decode (drop (l.i + w) a.s.now))) (sym e)

pub returns : goal.returns
returns c =
    let l = c.loop-i in
    let a = c.args in
    sym (l.invariant ∙ ap is_decoded (decode_end a.s.now l.i c.loop-i-test.false))
