-- `unicode::points` meets its contract: where the buffer might not hold the text, it is not read.
use mathlib.Core.Path.{refl}
use native.Mathlib.Omega.{arith}
use Rattle.ji.proofs.unicode.points.Goals as goal

pub returns-then-out-text : goal.returns-then-out-text
returns-then-out-text c = (λ h. absurd (omega arith), λ h. (refl, refl))

pub returns : goal.returns
returns c = (λ h. c.read_points.ensures, λ h. absurd (omega arith))
