use mathlib.Core.Path.{sym, ap, ◌∙◌}
use borrow.Author.Tests.{ltb-true, eqb-false}
use Rattle.ji.specs.Text.{lower}
use Rattle.khiin.proofs.syllable.compose.Laws.{nasal_short, nasal_not_last, nasal_not_second}
use native.Mathlib.Omega.{arith}
use Rattle.khiin.proofs.syllable.plain.ends_in_nn.Goals as goal
use Rattle.khiin.proofs.syllable.plain.ends_in_nn.Goals.{then-n-gt2, else-n-gt2}

pub returns-then-lower-eq-N : goal.returns-then-lower-eq-N
returns-then-lower-eq-N c = λ e.
    let s = c.args.s.now in
    elim c.if-n-gt2.branch [
      | then-n-gt2 w ↦ nasal_not_second s (omega (arith, w.if-n-gt2.true)) (λ z. eqb-false _ _ e (c.lower-then-lower-eq-N.ensures ∙ ap lower c.from-then-lower-eq-N.ensures ∙ z))
      | else-n-gt2 w ↦ absurd (omega (arith, w.if-n-gt2.false, ltb-true 2 _ (sym w.value-is ∙ c.if-lower-eq-N.true)))
    ]

pub returns-else-lower-eq-N : goal.returns-else-lower-eq-N
returns-else-lower-eq-N c = λ e.
    let s = c.args.s.now in
    elim c.if-n-gt2.branch [
      | then-n-gt2 w ↦ nasal_not_last s (omega (arith, w.if-n-gt2.true)) (λ z. eqb-false _ _ (sym w.value-is ∙ e) (w.lower.ensures ∙ ap lower w.from.ensures ∙ z))
      | else-n-gt2 w ↦ nasal_short s (omega (arith, w.if-n-gt2.false))
    ]
