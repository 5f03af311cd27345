use Rattle.std.proofs.Common.{◌≡◌, length, sym, ◌∙◌, [], true, rules}
use borrow.Author.Tests.{ne_eqb}
use Rattle.std.proofs.lemmas.Bool.Decides.{Decides-eqb}
use Rattle.std.proofs.lemmas.Slice.Eq.{strip_prefix_is}
use Rattle.replay.specs.Expected.{written, said, same_numbers}
use Rattle.robinflint.specs.Reply.{reply_of}
use Rattle.replay.proofs.Laws.{true_false, count_of, numbers_of, rest_decides}
use Rattle.replay.proofs.expected.is_as_said.Goals as goal
use Rattle.replay.proofs.expected.is_as_said.Goals.{then-wanted-bytes_written, else-wanted-bytes_written}

pub returns-then-has_numbers : goal.returns-then-has_numbers
returns-then-has_numbers c =
    let a = c.args in
    let told : (length a.wanted.now ≡ written a.h) × (same_numbers (reply_of a.reply []) (said a.h []) ≡ true) = elim c.if-wanted-bytes_written.branch [
      | then-wanted-bytes_written w ↦ (w.if-wanted-bytes_written.true ∙ c.bytes_written.ensures, sym w.has_numbers.ensures ∙ sym w.value-is ∙ c.if-has_numbers.true)
      | else-wanted-bytes_written w ↦ absurd (true_false (sym c.if-has_numbers.true ∙ w.value-is ∙ ne_eqb _ _ w.if-wanted-bytes_written.false))
    ] in
    rest_decides a.h a.wanted.now a.reply a.buffer.now told.0 told.1 c.is_some_and.result c.strip_prefix.result
    (strip_prefix_is Decides-eqb a.buffer.now a.wanted.now c.strip_prefix.result c.strip_prefix.ensures.cases)
    (search rules)

pub returns-else-has_numbers : goal.returns-else-has_numbers
returns-else-has_numbers c =
    let a = c.args in (
      λ e. absurd (true_false (sym e ∙ c.if-has_numbers.false)),
      λ p. elim c.if-wanted-bytes_written.branch [
        | then-wanted-bytes_written w ↦ w.value-is ∙ w.has_numbers.ensures ∙ numbers_of a.h a.wanted.now a.reply a.buffer.now p
        | else-wanted-bytes_written w ↦ absurd (w.if-wanted-bytes_written.false (count_of a.h a.wanted.now (reply_of a.reply a.buffer.now) p ∙ sym c.bytes_written.ensures))
      ],
    )
