use mathlib.Core.Path.{◌≡◌, sym, ap, ◌∙◌}
use mathlib.Core.Bool.{Bool, ◌&&◌}
use Rattle.ji.specs.Text.{within}
use Rattle.ji.proofs.Bools.{and_yes, and_no}
use Rattle.ji.proofs.utf8.Laws.{read_if, read_three, read_three_not}
use Rattle.ji.proofs.utf8.read_three.Goals as goal
use Rattle.ji.proofs.utf8.read_three.Goals.{then-is_second, else-is_second}

pub returns : goal.returns
returns c =
    let s = c.args.s.now in
    let a = c.byte_at-a.ensures.0 in
    let last = within 0x80 0xBF c.byte_at-c.result in
    let both : c.if-is_second.then_some ≡ (c.is_second.result && last) = elim c.if-is_second.branch [
      | then-is_second w ↦ w.then_some-is ∙ w.is_later.ensures ∙ sym (and_yes _ _ w.if-is_second.true)
      | else-is_second w ↦ w.then_some-is ∙ w.if-is_second.false ∙ sym (and_no _ _ w.if-is_second.false)
    ] in
    let told = both ∙ ap (λ (b : Bool). b && last) (rw a at c.is_second.ensures) in
    rw (c.then_some.ensures, a)
    (read_if _ _ _ (λ e. read_three s 0 c.requires.0 _ c.byte_at-b.ensures.0 _ c.byte_at-c.ensures.0 c.requires.1 c.requires.2 (sym told ∙ e))
    (λ e. read_three_not s 0 c.requires.0 _ c.byte_at-b.ensures.0 _ c.byte_at-c.ensures.0 c.requires.1 c.requires.2 (sym told ∙ e)))
