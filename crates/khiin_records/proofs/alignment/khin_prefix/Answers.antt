use mathlib.Core.Path.{◌≡◌, refl, sym, ◌∙◌}
use mathlib.Core.Bool.{Bool, true, false}
use mir.Val.{bool_byte}
use mathlib.Core.List.{[]}
use Prim.Native.Nat.{ℕ, suc, ◌+◌, ◌≤◌}
use lib.ListN.{drop}
use Rattle.ji.specs.Unicode.{pick_number}
use Rattle.khiin_records.specs.Alignment.{shared_prefix}
use Rattle.khiin_records.proofs.Prefixes.{with_nothing}
use native.Mathlib.Omega.{arith}
use Rattle.khiin_records.proofs.alignment.khin_prefix.Goals as goal

pub returns-in-No : goal.returns-in-No
returns-in-No c = let a = c.args in rw c.in-No.is (sym (with_nothing (drop a.at a.keys.now)), omega arith)

-- a truth as a number
as_number : (b : Bool) (n : ℕ) → n ≡ 0 → (bool_byte b ≡ pick_number b (suc n) 0) × (bool_byte b ≤ 1)
as_number true n e = (omega (arith, e), omega arith)
as_number false n e = (refl, omega arith)

pub returns-in-Yes : goal.returns-in-Yes
returns-in-Yes c =
    let a = c.args in
    let shared = as_number c.is_key_at.result (shared_prefix (drop (a.at + 1) a.keys.now) []) (with_nothing (drop (a.at + 1) a.keys.now)) in
    rw (c.in-Yes.is, c.from.ensures) (shared.0 ∙ sym (c.is_key_at.ensures []), shared.1)
