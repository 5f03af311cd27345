use mathlib.Core.Path.{sym, ap, ◌∙◌}
use Rattle.robinflint.proofs.reply.to_reply.Goals as goal

pub returns-in-Err : goal.returns-in-Err
returns-in-Err g c =
    λ buffer. c.refuse.ensures buffer ∙ sym (ap (λ answer. g.A.Answer.reply answer buffer) c.in-Err.is ∙ g.met.A.Answer.refusal c.in-Err.why buffer)
