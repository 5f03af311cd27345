use mathlib.Core.Path.{sym, ◌∙◌}
use Rattle.ji.proofs.Parts.{part_is}
use Rattle.ji.proofs.utf8.Laws.{read_if, read_one, read_two, read_two_not}
use native.Mathlib.Omega.{arith}
use Rattle.ji.proofs.utf8.read.Goals as goal

pub returns-in-0-to-127 : goal.returns-in-0-to-127
returns-in-0-to-127 c =
    rw c.byte_at-a.ensures.0 (read_one c.args.s.now c.args.at c.requires (omega (arith, c.byte_at-a.ensures.0)))

pub returns-in-194-to-223 : goal.returns-in-194-to-223
returns-in-194-to-223 c =
    let later = sym c.is_later.ensures in
    rw (c.then_some.ensures, c.byte_at-a.ensures.0)
    (read_if _ _ _ (λ e. read_two c.args.s.now c.args.at c.requires _ c.byte_at-b.ensures.0 (omega (arith, c.byte_at-a.ensures.0)) (omega (arith, c.byte_at-a.ensures.0)) (later ∙ e))
    (λ e. read_two_not c.args.s.now c.args.at c.requires _ c.byte_at-b.ensures.0 (omega (arith, c.byte_at-a.ensures.0)) (omega (arith, c.byte_at-a.ensures.0)) (later ∙ e)))

pub returns-in_default : goal.returns-in_default
returns-in_default c = rw (← part_is c.args.s.now c.args.at) c.read_any.ensures
