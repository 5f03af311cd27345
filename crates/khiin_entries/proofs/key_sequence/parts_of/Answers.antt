-- `key_sequence::parts_of` meets its contract.
use Rattle.std.proofs.Common.{sym, ◌∙◌}
use Rattle.std.proofs.lemmas.Result.{err_from_is_err_and}
use Rattle.khiin_entries.proofs.key_sequence.Calling.{entry_refused, parts_refused, parts_good}
use Rattle.khiin_entries.proofs.key_sequence.parts_of.Goals as goal

pub returns-in_err-check : goal.returns-in_err-check
returns-in_err-check c =
    let p = err_from_is_err_and c.from_residual.result c.from_residual.ensures.1 in
    rw (p.1, p.2) (entry_refused c.args.entry.now _ c.check.ensures _ c.in_err-check.was)

pub returns-in_err-parts : goal.returns-in_err-parts
returns-in_err-parts c =
    let p = err_from_is_err_and c.from_residual-in_err-parts.result c.from_residual-in_err-parts.ensures.1 in
    rw (p.1, p.2) (parts_refused c.args.entry.now _ c.check.ensures c.in_ok-check.was _ c.count_parts.ensures _ (sym c.ok_or.ensures.value ∙ c.in_err-parts.was))

pub invariant_of-result : goal.invariant_of-result
invariant_of-result c =
    record { good = parts_good c.args.entry.now _ c.check.ensures c.in_ok-check.was _ c.count_parts.ensures _ (sym c.ok_or.ensures.value ∙ c.in_ok-parts.was) }
