use mathlib.Core.Path.{sym, ◌∙◌}
use Rattle.ji.proofs.utf8.Laws.{read_if, read_two, read_two_not}
use Rattle.ji.proofs.utf8.read_two.Goals as goal

pub returns : goal.returns
returns c =
    let later = sym c.is_later.ensures in
    rw (c.then_some.ensures, c.byte_at-a.ensures.0)
    (read_if _ _ _ (λ e. read_two c.args.s.now 0 c.requires.0 _ c.byte_at-b.ensures.0 c.requires.1 c.requires.2 (later ∙ e))
    (λ e. read_two_not c.args.s.now 0 c.requires.0 _ c.byte_at-b.ensures.0 c.requires.1 c.requires.2 (later ∙ e)))
