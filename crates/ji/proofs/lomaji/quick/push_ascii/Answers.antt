use Rattle.ji.proofs.lomaji.quick.Laws.{stripping_ascii}
use native.Mathlib.Omega.{arith}
use Rattle.ji.proofs.lomaji.quick.push_ascii.Goals as goal

pub returns : goal.returns
returns c = let a = c.args in (omega arith, λ before s h. stripping_ascii before a.out.now a.n a.marks.now s h a.x c.requires.0 c.requires.1)
