use mathlib.Core.Path.{sym, ◌∙◌}
use mathlib.Core.Logic.{inl, inr}
use borrow.Author.Tests.{le-ltb}
use Rattle.ji.proofs.Bools.{false_true, and_no}
use Rattle.khiin_records.specs.RawBytes.{takes_below, byte_before}
use Rattle.khiin_records.proofs.Walking.{below_first}
use Rattle.khiin_records.proofs.from_composed.is_below.Goals as goal
use Rattle.khiin_records.proofs.from_composed.is_below.Goals.{then-is_pair, else-is_pair}

pub returns-else-at-gt0 : goal.returns-else-at-gt0
returns-else-at-gt0 c =
    let a = c.args in
    elim c.if-is_pair.branch [
      | then-is_pair w ↦ elim c.if-at-gt0.either [
        | inl p ↦ (let first = below_first a.s.now a.at p.1 in let none = le-ltb 0 a.at p.1 in cc)
        | inr p ↦ absurd (false_true (sym p ∙ w.if-is_pair.true))
      ]
      | else-is_pair w ↦ (let not_here = and_no _ (takes_below (byte_before a.s.now a.at)) (sym c.is_pair.ensures ∙ w.if-is_pair.false) in cc)
    ]
