use mathlib.Core.Path.{sym, ◌∙◌}
use Rattle.ji.proofs.lomaji.khin.Laws.{marked_fits, part_after, after_none}
use native.Mathlib.Omega.{arith}
use Rattle.ji.proofs.lomaji.khin.strip_khin.Goals as goal

pub slice_bounds-result-count : goal.slice_bounds-result-count
slice_bounds-result-count c = omega (arith, marked_fits c.args.text.now (sym c.has_mark.ensures ∙ c.if-has_mark.true))

pub slice_bounds-result-start : goal.slice_bounds-result-start
slice_bounds-result-start c = omega (arith, marked_fits c.args.text.now (sym c.has_mark.ensures ∙ c.if-has_mark.true))

pub returns-then-has_mark : goal.returns-then-has_mark
returns-then-has_mark c = part_after c.args.text.now (sym c.has_mark.ensures ∙ c.if-has_mark.true)

pub returns-else-has_mark : goal.returns-else-has_mark
returns-else-has_mark c = sym (after_none c.args.text.now (sym c.has_mark.ensures ∙ c.if-has_mark.false))
