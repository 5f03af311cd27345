use mathlib.Core.Path.{sym, ◌∙◌}
use mathlib.Core.List.{[]}
use borrow.Author.Tests.{eqb-true}
use Rattle.ji.specs.Unicode.{unicode16}
use Rattle.ji.specs.declared.reply.Refusal.TheVariants.{TooLong}
use Rattle.ji.proofs.Replies.{check_long}
use Rattle.ji.proofs.unicode.Ascii.{ascii_take}
use Rattle.khiin_records.proofs.Candidates.{empty_good}
use Rattle.khiin_records.proofs.Prefixes.{aligned_nothing, align_target_refused, align_target_good}
use Rattle.khiin_records.proofs.alignment.align.Goals as goal

pub returns-then-is_empty : goal.returns-then-is_empty
returns-then-is_empty c =
    c.place_keys.ensures (ascii_take 0 c.args.keys.bytes.now c.args.keys.ascii)
    ∙ align_target_good unicode16 c.args.keys.bytes.now c.args.target.now c.args.out.now 0 [] (empty_good c.args.target.now (eqb-true _ 0 (sym c.is_empty.ensures ∙ c.if-is_empty.true)))
    (sym (aligned_nothing unicode16 c.args.keys.bytes.now))

pub returns-else-target-le256 : goal.returns-else-target-le256
returns-else-target-le256 c = let a = c.args in align_target_refused unicode16 a.keys.bytes.now a.target.now a.out.now TooLong (check_long unicode16 a.target.now c.if-target-le256.false)
