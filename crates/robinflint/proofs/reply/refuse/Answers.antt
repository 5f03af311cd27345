use Rattle.robinflint.proofs.reply.refuse.Goals as goal

pub returns : goal.returns
returns c = λ buffer. rw c.number.ensures
