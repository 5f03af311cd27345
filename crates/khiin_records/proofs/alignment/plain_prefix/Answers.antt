use Prim.Native.Nat.{◌+◌}
use Rattle.khiin_records.specs.Prefixes.{NearestPrefix}
use Rattle.khiin_records.proofs.Prefixes.{prefix_fits, near_within, near_through}
use native.Mathlib.Omega.{arith}
use Rattle.khiin_records.proofs.alignment.plain_prefix.Goals as goal
use Rattle.khiin_records.proofs.alignment.plain_prefix.Goals.{After-digits_prefix}

through : (c : After-digits_prefix)
    → NearestPrefix c.args.keys.bytes.now c.args.text.rest.now c.args.text.ending (c.shared_prefix-body.result + c.digits_prefix.result)
through c =
    let a = c.args in
    let body = c.shared_prefix-body in
    near_through a.text.rest.now c.requires a.keys.bytes.now a.text.ending c.args.keys.ascii body.result c.digits_prefix.result body.ensures c.if-body-text.false c.digits_prefix.ensures

pub returns-then-body-text : goal.returns-then-body-text
returns-then-body-text c =
    near_within c.args.text.rest.now c.requires c.args.keys.bytes.now c.args.text.ending c.args.keys.ascii c.shared_prefix-body.result c.shared_prefix-body.ensures c.if-body-text.true

pub digits_prefix-requires : goal.digits_prefix-requires
digits_prefix-requires c = rw c.shared_prefix-body.ensures (prefix_fits _ _)

pub overflow_add-result : goal.overflow_add-result
overflow_add-result c = omega (arith, (through (goal.at.overflow_add-result c).After-digits_prefix).inside)

pub returns-else-body-text : goal.returns-else-body-text
returns-else-body-text c = through (goal.at.returns-else-body-text c).After-digits_prefix
