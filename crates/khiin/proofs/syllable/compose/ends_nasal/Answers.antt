use mathlib.Core.Path.{sym, ◌∙◌}
use borrow.Author.Tests.{eqb-false}
use Rattle.khiin.proofs.syllable.compose.Laws.{nasal_short, nasal_not_last, nasal_not_second}
use native.Mathlib.Omega.{arith}
use Rattle.khiin.proofs.syllable.compose.ends_nasal.Goals as goal
use Rattle.khiin.proofs.syllable.compose.ends_nasal.Goals.{then-n-gt2, else-n-gt2, then-lower-eq-N, else-lower-eq-N}

pub returns-else-lower-eq-N-2 : goal.returns-else-lower-eq-N-2
returns-else-lower-eq-N-2 c =
    let s = c.args.s.now in
    c.if-lower-eq-N-2.false
    ∙ sym
    (elim c.if-lower-eq-N.branch [
      | then-lower-eq-N w ↦
          elim c.if-n-gt2.branch [
            | then-n-gt2 v ↦ nasal_not_second s (omega (arith, v.if-n-gt2.true)) (λ z. eqb-false _ _ (sym w.value-is ∙ c.if-lower-eq-N-2.false) (w.lower-then-lower-eq-N.ensures ∙ z))
            | else-n-gt2 v ↦ nasal_short s (omega (arith, v.if-n-gt2.false))
          ]
      | else-lower-eq-N w ↦
          elim c.if-n-gt2.branch [
            | then-n-gt2 v ↦ nasal_not_last s (omega (arith, v.if-n-gt2.true)) (λ z. eqb-false _ _ (sym v.value-is ∙ w.if-lower-eq-N.false) (v.lower.ensures ∙ z))
            | else-n-gt2 v ↦ nasal_short s (omega (arith, v.if-n-gt2.false))
          ]
    ])
