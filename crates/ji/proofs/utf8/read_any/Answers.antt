use Rattle.ji.proofs.utf8.Laws.{read_one, read_none}
use native.Mathlib.Omega.{arith}
use Rattle.ji.proofs.utf8.read_any.Goals as goal

pub returns-in-0-to-127 : goal.returns-in-0-to-127
returns-in-0-to-127 c =
    rw c.byte_at-a.ensures.0 (read_one c.args.s.now 0 c.requires (omega (arith, c.byte_at-a.ensures.0)))

pub returns-in_default : goal.returns-in_default
returns-in_default c =
    let e = c.byte_at-a.ensures.0 in
    read_none c.args.s.now 0 c.requires (λ k. omega (arith, e)) (λ k l. omega (arith, e))

pub returns-in_default-2 : goal.returns-in_default-2
returns-in_default-2 c =
    let e = c.byte_at-a.ensures.0 in
    read_none c.args.s.now 0 c.requires (λ k. omega (arith, e)) (λ k l. omega (arith, e))
