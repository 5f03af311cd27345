use mathlib.Core.Path.{◌≡◌, sym, ap, ◌∙◌}
use mathlib.Core.Bool.{Bool, ◌&&◌}
use Rattle.ji.specs.Text.{within}
use Rattle.ji.proofs.Bools.{and_yes, and_no, and_group}
use Rattle.ji.proofs.utf8.Laws.{read_if, read_four, read_four_not}
use Rattle.ji.proofs.utf8.read_four.Goals as goal
use Rattle.ji.proofs.utf8.read_four.Goals.{then-is_second, else-is_second, then-is_later, else-is_later}

pub returns : goal.returns
returns c =
    let s = c.args.s.now in
    let a = c.byte_at-a.ensures.0 in
    let third = within 0x80 0xBF c.byte_at-c.result in
    let last = within 0x80 0xBF c.byte_at-d.result in
    let both : c.if-is_second.value ≡ (c.is_second.result && third) = elim c.if-is_second.branch [
      | then-is_second w ↦ w.value-is ∙ w.is_later.ensures ∙ sym (and_yes _ _ w.if-is_second.true)
      | else-is_second w ↦ w.value-is ∙ w.if-is_second.false ∙ sym (and_no _ _ w.if-is_second.false)
    ] in
    let all : c.if-is_later.then_some ≡ (c.if-is_second.value && last) = elim c.if-is_later.branch [
      | then-is_later w ↦ w.then_some-is ∙ w.is_later-then-is_later.ensures ∙ sym (and_yes _ _ w.if-is_later.true)
      | else-is_later w ↦ w.then_some-is ∙ w.if-is_later.false ∙ sym (and_no _ _ w.if-is_later.false)
    ] in
    let told = all ∙ ap (λ (b : Bool). b && last) both ∙ and_group c.is_second.result third last ∙ ap (λ (b : Bool). b && (third && last)) (rw a at c.is_second.ensures) in
    rw (c.then_some.ensures, a)
    (read_if _ _ _ (λ e. read_four s 0 c.requires.0 _ c.byte_at-b.ensures.0 _ c.byte_at-c.ensures.0 _ c.byte_at-d.ensures.0 c.requires.1 c.requires.2 (sym told ∙ e))
    (λ e. read_four_not s 0 c.requires.0 _ c.byte_at-b.ensures.0 _ c.byte_at-c.ensures.0 _ c.byte_at-d.ensures.0 c.requires.1 c.requires.2 (sym told ∙ e)))
