use mathlib.Core.Path.{sym, ◌∙◌}
use mathlib.Core.List.{[], ◌∷◌}
use borrow.Author.Tests.{le-ltb}
use Rattle.ji.proofs.Bools.{false_true, and_yes, and_no}
use Rattle.khiin_records.proofs.Walking.{begins_first, nasal_short}
use Rattle.khiin_records.proofs.from_composed.is_nasal.Goals as goal
use Rattle.khiin_records.proofs.from_composed.is_nasal.Goals.{then-at-s, else-at-s}

pub returns-then-s-at : goal.returns-then-s-at
returns-then-s-at c =
    let a = c.args in
    elim c.if-at-s.branch [
      | then-at-s w ↦ c.is_pair.ensures ∙ sym (begins_first 0xE2 (0x81 ∷ 0xBF ∷ []) a.s.now a.at c.requires ∙ and_yes _ _ (sym w.value-is ∙ c.if-s-at.true))
      | else-at-s w ↦ absurd (false_true (sym (w.value-is ∙ le-ltb _ _ w.if-at-s.false) ∙ c.if-s-at.true))
    ]

pub returns-else-s-at : goal.returns-else-s-at
returns-else-s-at c =
    let a = c.args in
    elim c.if-at-s.branch [
      | then-at-s w ↦ c.if-s-at.false ∙ sym (begins_first 0xE2 (0x81 ∷ 0xBF ∷ []) a.s.now a.at c.requires ∙ and_no _ _ (sym w.value-is ∙ c.if-s-at.false))
      | else-at-s w ↦ c.if-s-at.false ∙ sym (nasal_short a.s.now a.at c.requires w.if-at-s.false)
    ]
