use mathlib.Core.Path.{sym, ◌∙◌}
use Rattle.ucd.proofs.Unicode16.{full_itself, full_one, full_two}
use Rattle.ji.specs.Unicode.{spread}
use Rattle.ji.proofs.unicode.Laws.{told, spread_itself}
use Rattle.ji.proofs.unicode.spread_point.Goals as goal
use Rattle.ji.proofs.unicode.spread_point.Goals.{then-c-lt192-via-then-c-lt192, then-c-lt192-via-else-c-lt192+then-not-decomposed}

pub returns-then-c-lt192 : goal.returns-then-c-lt192
unfolding spread
returns-then-c-lt192 c =
    let a = c.args in
    elim c.then-c-lt192.branch [
      | then-c-lt192-via-then-c-lt192 w ↦ sym (spread_itself a.decomposed a.c w.if-c-lt192.true)
      | then-c-lt192-via-else-c-lt192+then-not-decomposed w ↦ rw w.if-not-decomposed.true
    ]

pub returns-in-Itself : goal.returns-in-Itself
unfolding spread
returns-in-Itself c =
    let x = c.args.c in
    rw c.if-not-decomposed.false (sym (full_itself x (told x c.decomposition.ensures.text c.in-Itself.is)))

pub returns-in-One : goal.returns-in-One
unfolding spread
returns-in-One c =
    let x = c.args.c in
    rw c.if-not-decomposed.false (sym (full_one x _ (told x c.decomposition.ensures.text c.in-One.is)))

pub returns-in-Two : goal.returns-in-Two
unfolding spread
returns-in-Two c =
    let x = c.args.c in
    rw c.if-not-decomposed.false (c.spread_pair.ensures ∙ sym (full_two x _ _ (told x c.decomposition.ensures.text c.in-Two.is)))
