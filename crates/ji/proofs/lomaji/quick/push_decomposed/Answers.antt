use mathlib.Core.Path.{sym}
use Rattle.ucd.proofs.Unicode16.{full_itself, full_one, full_two}
use Rattle.ji.proofs.lomaji.quick.Laws.{further_both, further_same, letter_full, stripping_mark}
use Rattle.ji.proofs.unicode.Laws.{told}
use native.Mathlib.Omega.{arith}
use Rattle.ji.proofs.lomaji.quick.push_decomposed.Goals as goal

pub push_ascii-m-requires : goal.push_ascii-m-requires
push_ascii-m-requires c = (c.in-Some.ensures.2, omega arith)

pub returns-in-Some : goal.returns-in-Some
returns-in-Some c =
    let v = c.push_ascii-m in
    let l = c.in-Some.ensures in
    (omega (arith, v.ensures.0), further_same (letter_full _ _ l) (further_both v.ensures.1 (λ before s h. stripping_mark before v.new.out v.result v.new.marks s h l.0 l.3 _ (sym l.4))))

pub returns-in-Itself : goal.returns-in-Itself
returns-in-Itself c =
    let w = c.push in
    let a = c.args in
    (omega (arith, w.ensures.0), further_same (sym (full_itself a.c (told a.c c.decomposition.ensures.text c.in-Itself.is))) w.ensures.1)

pub returns-in-One : goal.returns-in-One
returns-in-One c =
    let w = c.push-in-One in
    let a = c.args in
    (omega (arith, w.ensures.0), further_same (sym (full_one a.c _ (told a.c c.decomposition.ensures.text c.in-One.is))) w.ensures.1)

pub returns-in-Two : goal.returns-in-Two
returns-in-Two c =
    let w = c.push-in-Two in
    let v = c.push_first-m in
    let a = c.args in
    (omega (arith, v.ensures.0, w.ensures.0), further_same (sym (full_two a.c _ _ (told a.c c.decomposition.ensures.text c.in-Two.is))) (further_both v.ensures.1 w.ensures.1))
