use mathlib.Core.Path.{◌∙◌}
use Rattle.khiin.proofs.converter.Laws.{edit_read}
use Rattle.khiin.proofs.converter.edit_at.Goals as goal

pub returns : goal.returns
returns c =
    λ given e.
    let a = c.args in
    c.edit_by.ensures
    ∙ edit_read a.key given a.text.now e c.lower_byte.ensures c.last_start-start.ensures.0 c.last_point-before.ensures c.lower.ensures c.last_point.ensures
