use mathlib.Core.Path.{sym}
use Rattle.ucd.proofs.Unicode16.{low_atom}
use Rattle.ji.proofs.lomaji.quick.Laws.{further_both, further_same}
use Rattle.ji.proofs.unicode.Laws.{told}
use native.Mathlib.Omega.{arith}
use Rattle.ji.proofs.lomaji.quick.push_first.Goals as goal

pub returns-then-a-lt128 : goal.returns-then-a-lt128
returns-then-a-lt128 c = let w = c.push_ascii in let a = c.args in (omega (arith, w.ensures.0), further_same (sym (low_atom a.a (omega (arith, c.if-a-lt128.true)))) w.ensures.1)

pub returns-in-Itself : goal.returns-in-Itself
returns-in-Itself c = let w = c.push in let a = c.args in (omega (arith, w.ensures.0), further_same (sym (told a.a c.decomposition.ensures.text c.in-Itself.is)) w.ensures.1)

pub returns-in-One : goal.returns-in-One
returns-in-One c = let w = c.push-in-One in let a = c.args in (omega (arith, w.ensures.0), further_same (sym (told a.a c.decomposition.ensures.text c.in-One.is)) w.ensures.1)

pub returns-in-Two : goal.returns-in-Two
returns-in-Two c = let w = c.push-in-Two in let v = c.push-m in let a = c.args in (omega (arith, v.ensures.0, w.ensures.0), further_same (sym (told a.a c.decomposition.ensures.text c.in-Two.is)) (further_both v.ensures.1 w.ensures.1))
