-- `ucd::composite` meets its contract: only a mark of 0300 to 0338 ends a composite, and the candidate is one exactly if its decomposition is
-- the two code points. Assumes nothing.
use Rattle.std.proofs.Common.{rules}
use native.Mathlib.Omega.{arith}
use Rattle.ucd.proofs.Unicode16.{no_composite}
use Rattle.ucd.proofs.Answer.{made, unmade}
use Rattle.ucd.proofs.composite.Goals as goal
use Rattle.ucd.proofs.composite.Goals.{then-b-lt768-via-then-b-lt768, then-b-lt768-via-else-b-lt768+then-b-gt824}

pub returns-then-b-lt768 : goal.returns-then-b-lt768
returns-then-b-lt768 c =
    no_composite c.args.a c.args.b
    (λ marks.
    elim c.then-b-lt768.branch [
      | then-b-lt768-via-then-b-lt768 w ↦ omega arith
      | then-b-lt768-via-else-b-lt768+then-b-gt824 w ↦ omega arith
    ])

pub returns-then-eq : goal.returns-then-eq
returns-then-eq c = made c.args.a c.args.b c.candidate-p.result c.decomposition.result c.decomposition.ensures.text c.candidate-p.ensures (search rules)

pub returns-else-eq : goal.returns-else-eq
returns-else-eq c = unmade c.args.a c.args.b c.candidate-p.result c.decomposition.result c.decomposition.ensures.text c.candidate-p.ensures (λ e. search rules)
