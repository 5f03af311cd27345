use mathlib.Core.Path.{ap, ◌∙◌}
use Rattle.ji.specs.Text.{begins}
use Rattle.ji.proofs.Parts.{part_is}
use Rattle.ji.proofs.text.Laws.{begins_with}
use Rattle.ji.proofs.text.begins_at.Goals as goal

pub returns : goal.returns
returns c =
    let a = c.args in
    c.starts_with.ensures.value
    ∙ begins_with _ a.pattern.now
    ∙ ap (begins a.pattern.now) (part_is a.s.now a.at)
