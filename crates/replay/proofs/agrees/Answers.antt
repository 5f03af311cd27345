use Rattle.std.proofs.Common.{ℕ, ◌+◌, take, drop, ap}
use Rattle.std.proofs.Math.Nat.{add-sub_cancel_left}
use Rattle.replay.proofs.Laws.{agrees_by}
use Rattle.replay.proofs.agrees.Goals as goal

pub returns : goal.returns
returns c =
    let a = c.args in
    agrees_by a.h a.body.now _ _ c.fresh_buffer-buffer.result _ c.is_as_said.result
    (ap (λ (n : ℕ). take n (drop a.h.input a.body.now)) (add-sub_cancel_left a.h.input a.h.other))
    (ap (λ (n : ℕ). take n (drop (a.h.input + a.h.other) a.body.now)) (add-sub_cancel_left (a.h.input + a.h.other) a.h.wanted))
    c.fresh_buffer-buffer.ensures.0
    c.answer-reply.ensures
    c.is_as_said.ensures
