-- `unicode::code_points` meets its contract: a text of ASCII letters needs no reading.
use mathlib.Core.Path.{sym, ◌∙◌}
use Rattle.ji.proofs.Replies.{placed_not, placed_written}
use Rattle.ji.proofs.unicode.Ascii.{ascii_good}
use Rattle.ji.proofs.unicode.Replied.{reply}
use Rattle.ji.proofs.unicode.code_points.Goals as goal

pub returns-then-out-text : goal.returns-then-out-text
returns-then-out-text c =
    let s = c.args.text.now in
    placed_not 0 s c.args.out.now c.if-out-text.true ∙ reply s (ascii_good s (sym c.is_ascii.ensures ∙ c.if-is_ascii.true)) c.args.out.now

pub returns-else-out-text : goal.returns-else-out-text
returns-else-out-text c =
    let s = c.args.text.now in
    placed_written 0 s c.args.out.now _ _ c.widen.ensures ∙ reply s (ascii_good s (sym c.is_ascii.ensures ∙ c.if-is_ascii.true)) c.args.out.now
