use mathlib.Core.Path.{sym, ◌∙◌, ◌≡◌}
use Rattle.khiin.proofs.converter.Laws.{edit_else, edit_other}
use borrow.Author.Rules.{rules}
use native.Mathlib.Omega.{arith}
use Rattle.khiin.proofs.converter.Step.edit_of.Goals as goal

pub returns-in_default : goal.returns-in_default
returns-in_default c =
    let a = c.args in
    let l = c.lower_byte.ensures in
    λ given e.
    sym (edit_other a.self.key given (λ f. omega (arith, l, f)) (λ f. omega (arith, l, f)) (λ f. omega (arith, l, f)))
    ∙ edit_else a.self.keys a.self.key a.self.tone given (sym c.repeats_tone.ensures ∙ c.if-repeats_tone.false)

pub returns-in_default-2 : goal.returns-in_default-2
returns-in_default-2 c =
    let a = c.args in
    let l = c.lower_byte.ensures in
    let not_u : c.lower_byte.result ≡ 117 → ⊥ = search rules in
    λ given e.
    sym (edit_other a.self.key given (λ f. omega (arith, l, f)) (λ f. not_u (l ∙ f)) (λ f. omega (arith, l, f)))
    ∙ edit_else a.self.keys a.self.key a.self.tone given (sym c.repeats_tone.ensures ∙ c.if-repeats_tone.false)
