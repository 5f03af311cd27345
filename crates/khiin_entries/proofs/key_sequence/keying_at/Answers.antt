-- `key_sequence::keying_at` meets its contract.
use Rattle.std.proofs.lemmas.Result.{err_from_is_err_and}
use Rattle.khiin_entries.proofs.key_sequence.Calling.{call_refused}
use Rattle.khiin_entries.proofs.key_sequence.keying_at.Goals as goal

pub returns-in_err-parted : goal.returns-in_err-parted
returns-in_err-parted c =
    let p = err_from_is_err_and c.from_residual.result c.from_residual.ensures.1 in
    rw (p.1, p.2) (let a = c.args in call_refused a.entry.now a.kind a.position a.out.now _ c.in_err-parted.ensures)
