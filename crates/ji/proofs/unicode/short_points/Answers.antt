use Rattle.std.proofs.lemmas.Result.{err_from_is_err_and}
-- `unicode::short_points` meets its contract: what was read is placed whole.
use mathlib.Core.Path.{ap, ◌∙◌}
use mathlib.Core.Bool.{false}
use mathlib.Core.List.{List}
use Prim.Native.Nat.{ℕ}
use lib.ListN.{length}
use native.Mathlib.Omega.{arith}
use Rattle.ucd.specs.Unicode16.{unicode16}
use Rattle.ji.specs.Reply.{placed}
use Rattle.ji.proofs.unicode.Laws.{spread_plain}
use Rattle.ji.proofs.Readings.{told}
use Rattle.ji.proofs.Writing.{written_length, written_take}
use Rattle.ji.proofs.unicode.Reader.{accepted_room}
use Rattle.ji.proofs.unicode.Replied.{reply}
use Rattle.ji.proofs.unicode.short_points.Goals as goal

pub decode-requires : goal.decode-requires
decode-requires c = omega (arith, accepted_room false c.args.text.now, c.requires)

pub slice_bounds-place_points-end : goal.slice_bounds-place_points-end
slice_bounds-place_points-end c =
    let w = (told unicode16 _ _ _ false c.in_ok-len.was c.decode.ensures).2 in
    omega (arith, w.fits, w.size, written_length w, ap length (written_take w))

pub returns-in_err-len : goal.returns-in_err-len
returns-in_err-len c =
    let p = err_from_is_err_and c.from_residual.result c.from_residual.ensures.1 in
    rw (p.1, p.2) (reply c.args.text.now (told unicode16 _ _ _ false c.in_err-len.was c.decode.ensures).0 c.args.out.now)

pub returns : goal.returns
returns c =
    let r = told unicode16 _ _ _ false c.in_ok-len.was c.decode.ensures in
    c.place_points.ensures
    ∙ ap (λ (l : List ℕ). placed 0 l c.args.out.now) (written_take r.2 ∙ spread_plain unicode16 r.0)
    ∙ reply c.args.text.now r.1 c.args.out.now
