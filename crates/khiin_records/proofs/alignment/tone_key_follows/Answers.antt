use mathlib.Core.Path.{sym, ◌∙◌}
use Prim.Native.Nat.{◌+◌}
use borrow.Author.Tests.{le-ltb}
use lib.ListN.{length}
use Rattle.khiin_records.proofs.Prefixes.{no_key, key_is}
use Rattle.khiin_records.proofs.alignment.tone_key_follows.Goals as goal

pub returns-then-prefix-keys : goal.returns-then-prefix-keys
returns-then-prefix-keys c =
    let a = c.args in
    sym (key_is a.keys.now (a.prefix + 1) a.ending.tone a.ending.toned c.digit.result c.digit.ensures c.if-prefix-keys.true)

pub returns-else-prefix-keys : goal.returns-else-prefix-keys
returns-else-prefix-keys c =
    let a = c.args in
    le-ltb (a.prefix + 1) (length a.keys.now) c.if-prefix-keys.false ∙ sym (no_key a.keys.now (a.prefix + 1) a.ending.tone a.ending.toned c.if-prefix-keys.false)
