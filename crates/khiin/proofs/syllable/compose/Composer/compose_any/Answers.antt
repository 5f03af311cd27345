use mathlib.Core.Path.{refl, sym, ap, ◌∙◌}
use Rattle.ji.specs.Unicode.{unicode16}
use Rattle.ji.specs.Reply.{Checked, good}
use Rattle.ji.proofs.Replies.{check_within_law}
use Rattle.ji.proofs.unicode.Ascii.{ascii_good}
use Rattle.khiin.specs.Syllable.{compose_of}
use Rattle.khiin.proofs.syllable.compose.Composer.compose_any.Goals as goal

pub returns-in-Some : goal.returns-in-Some
returns-in-Some c =
    let body = c.args.body.now in
    c.in-Some.ensures.1
    ∙ ap (λ (k : Checked). compose_of unicode16 c.args.self.tone c.args.self.khin (good c.args.self.input.points) k c.args.out.now) (sym (check_within_law unicode16 body c.requires ∙ ascii_good body (c.in-Some.ensures.0 refl)))
