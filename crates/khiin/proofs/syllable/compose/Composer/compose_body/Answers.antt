use Rattle.std.proofs.lemmas.Result.{err_from_is_err_and}
use mathlib.Core.Path.{sym, ap, ◌∙◌}
use mathlib.Core.List.{List}
use Prim.Native.Nat.{ℕ}
use Rattle.ji.specs.Unicode.{unicode16}
use Rattle.ji.specs.Utf8.{encode}
use Rattle.ji.specs.Reply.{placed, Checked, good}
use Rattle.ji.proofs.Writing.{written_length, written_take}
use Rattle.ji.proofs.Replies.{check_within_law}
use Rattle.ji.proofs.Points.{points_refused}
use Rattle.khiin.specs.Syllable.{compose, compose_of}
use Rattle.khiin.proofs.syllable.compose.Reading.{points_fewer, read_whole}
use native.Mathlib.Omega.{arith}
use Rattle.khiin.proofs.syllable.compose.Composer.compose_body.Goals as goal

pub compose_points-requires : goal.compose_points-requires
compose_points-requires c =
    let h = read_whole c.args.body.now c.args.points.now c.code_points.new.out c.requires.0 c.requires.1 c.code_points.ensures c.in_ok-len.len c.in_ok-len.was in
    (omega (arith, points_fewer c.args.body.now h.0 h.1, h.2.size, c.requires.0), omega (arith, points_fewer c.args.body.now h.0 h.1, h.2.size, written_length h.2, c.requires.2))

pub returns-in_err-len : goal.returns-in_err-len
returns-in_err-len c =
    let p = err_from_is_err_and c.from_residual.result c.from_residual.ensures.1 in
    rw (p.1, p.2) (let h = points_refused c.args.body.now c.args.points.now c.code_points.new.out c.requires.1 c.code_points.ensures c.in_err-len.field-0.0 c.in_err-len.was in
    ap (λ (k : Checked). compose_of unicode16 c.args.self.tone c.args.self.khin (good c.args.self.input.points) k c.args.out.now) (sym (check_within_law unicode16 c.args.body.now c.requires.0 ∙ h)))

pub returns : goal.returns
returns c =
    let h = read_whole c.args.body.now c.args.points.now c.code_points.new.out c.requires.0 c.requires.1 c.code_points.ensures c.in_ok-len.len c.in_ok-len.was in
    c.compose_points.ensures
    ∙ ap (λ (s : List ℕ). placed 0 (encode (compose unicode16 c.args.self.input.points s c.args.self.tone c.args.self.khin)) c.args.out.now) (written_take h.2)
    ∙ ap (λ (k : Checked). compose_of unicode16 c.args.self.tone c.args.self.khin (good c.args.self.input.points) k c.args.out.now) (sym h.1)
