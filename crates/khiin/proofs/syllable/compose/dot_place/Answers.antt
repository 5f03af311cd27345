use mathlib.Core.Path.{sym, ◌∙◌}
use Rattle.khiin.proofs.syllable.compose.Once.{dot_short, dot_low, dot_last, dot_second, dot_nowhere}
use native.Mathlib.Omega.{arith}
use Rattle.khiin.proofs.syllable.compose.dot_place.Goals as goal
use Rattle.khiin.proofs.syllable.compose.dot_place.Goals.{then-n-lt2-via-then-n-lt2, then-n-lt2-via-else-n-lt2+then-s-n-lt-CAPITAL_SIGN, else-n-gt2-via-then-n-gt2+else-takes_dot-2, else-n-gt2-via-else-n-gt2}

pub returns-then-n-lt2 : goal.returns-then-n-lt2
returns-then-n-lt2 c =
    λ n.
    elim c.then-n-lt2.branch [
      | then-n-lt2-via-then-n-lt2 w ↦ dot_short c.args.s.now n w.if-n-lt2.true
      | then-n-lt2-via-else-n-lt2+then-s-n-lt-CAPITAL_SIGN w ↦ dot_low c.args.s.now n w.if-s-n-lt-CAPITAL_SIGN.true
    ]

pub returns-then-takes_dot : goal.returns-then-takes_dot
returns-then-takes_dot c =
    λ n.
    dot_last c.args.s.now n c.if-n-lt2.false (sym c.takes_dot.ensures ∙ c.if-takes_dot.true)

pub returns-then-takes_dot-2 : goal.returns-then-takes_dot-2
returns-then-takes_dot-2 c =
    λ n.
    dot_second c.args.s.now n c.if-n-lt2.false c.if-n-gt2.true (sym c.takes_dot.ensures ∙ c.if-takes_dot.false) (sym c.takes_dot-then-n-gt2.ensures ∙ c.if-takes_dot-2.true)

pub returns : goal.returns
returns c =
    λ n.
    dot_nowhere c.args.s.now n c.if-n-lt2.false (sym c.takes_dot.ensures ∙ c.if-takes_dot.false)
    (λ h. elim c.else-n-gt2.branch [
      | else-n-gt2-via-then-n-gt2+else-takes_dot-2 w ↦ sym w.takes_dot-then-n-gt2.ensures ∙ w.if-takes_dot-2.false
      | else-n-gt2-via-else-n-gt2 w ↦ absurd (omega (arith, h, w.if-n-gt2.false))
    ])
