-- `lomaji::keys::keys` meets its contract.
use Rattle.ucd.specs.Unicode16.{unicode16}
use Rattle.ji.specs.Lomaji.Keys.{keys}
use Rattle.ji.proofs.Replies.{text_refused, check_long}
use native.Mathlib.Omega.{arith}
use Rattle.ji.proofs.lomaji.keys.keys.Goals as goal

pub returns-else-text-le256 : goal.returns-else-text-le256
returns-else-text-le256 c =
    let a = c.args in
    text_refused unicode16 (keys unicode16 a.form a.kind) a.text.now a.out.now _ (check_long unicode16 a.text.now (omega (arith, c.if-text-le256.false)))
