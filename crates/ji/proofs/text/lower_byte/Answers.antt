use mathlib.Core.Path.{◌∙◌}
use Rattle.ji.proofs.text.Laws.{lower_ascii}
use Rattle.ji.proofs.text.lower_byte.Goals as goal

pub returns : goal.returns
returns c = c.to_ascii_lowercase.ensures.value ∙ lower_ascii c.args.x
