use mathlib.Core.Path.{sym, ap, ◌∙◌}
use Rattle.ucd.specs.Unicode16.{unicode16}
use Rattle.ji.specs.Reply.{verdict_of}
use Rattle.ji.proofs.Replies.{within_long, within_points}
use Rattle.ji.proofs.unicode.Ascii.{ascii_good}
use Rattle.ji.proofs.unicode.check.Goals as goal

pub returns-then-limit-text : goal.returns-then-limit-text
returns-then-limit-text c = let a = c.args in ap verdict_of (sym (within_long unicode16 a.text.now a.limit c.if-limit-text.true))

pub returns-then-is_ascii : goal.returns-then-is_ascii
returns-then-is_ascii c =
    let a = c.args in
    ap verdict_of (sym (within_points unicode16 a.text.now a.limit c.if-limit-text.false ∙ ascii_good a.text.now (sym c.is_ascii.ensures ∙ c.if-is_ascii.true)))

pub returns-else-is_ascii : goal.returns-else-is_ascii
returns-else-is_ascii c =
    let a = c.args in
    c.check_points.ensures ∙ ap verdict_of (sym (within_points unicode16 a.text.now a.limit c.if-limit-text.false))
