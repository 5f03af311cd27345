use Rattle.ucd.specs.Unicode16.{unicode16}
use Rattle.ji.proofs.Replies.{check_long}
use Rattle.ji.proofs.lomaji.tone_letter.Laws.{letter_refused}
use native.Mathlib.Omega.{arith}
use Rattle.ji.proofs.lomaji.tone_letter.tone_letter.Goals as goal

pub returns-in_default : goal.returns-in_default
returns-in_default c = let a = c.args in letter_refused unicode16 a.text.now _ (check_long unicode16 a.text.now (omega arith))
