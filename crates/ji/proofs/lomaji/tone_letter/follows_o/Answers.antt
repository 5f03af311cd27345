use mathlib.Core.Path.{sym, ◌∙◌}
use mathlib.Core.List.{map}
use Rattle.ji.proofs.Bools.{and_yes}
use Rattle.ji.proofs.lomaji.tone_letter.Laws.{follows}
use Rattle.ji.proofs.lomaji.tone_letter.follows_o.Goals as goal

pub returns-then-is_a_or_e : goal.returns-then-is_a_or_e
returns-then-is_a_or_e g c =
    let s = map g.L.Letter.number c.args.s.now in
    c.is_final.ensures
    ∙ sym (follows s c.args.at _ _ c.letter_at.ensures c.letter_at-then-is_a_or_e.ensures ∙ and_yes _ _ (sym c.is_a_or_e.ensures ∙ c.if-is_a_or_e.true))
