use mathlib.Core.Path.{◌≡◌, ap₂}
use Prim.Native.Nat.{ℕ, ◌+◌, ◌*◌, ◌/◌, ◌%◌}
use lib.ListN.{get_or}
use Rattle.std.proofs.lemmas.Option.{IfSome_then}
use Rattle.ji.proofs.Parts.{part}
use Rattle.ji.proofs.lomaji.single.Laws.{letter_marked}
use native.Mathlib.Omega.{arith}
use Rattle.ji.proofs.lomaji.single.marked_at.Goals as goal

pub returns-in-192-to-223 : goal.returns-in-192-to-223
returns-in-192-to-223 c =
    let s = c.args.s.now in
    let at = c.args.at in
    let first : get_or (part s at) 0 0 / 32 ≡ 6 = omega arith in
    let second : get_or (part s at) 1 0 / 64 ≡ 2 = omega arith in
    let here = ap₂ (λ (x y : ℕ). x % 32 * 64 + y % 64) c.from.ensures c.from-in-192-to-223.ensures in
    IfSome_then c.letter.result c.letter.ensures (λ x l. letter_marked s at _ x c.in-192-to-223.len_at_least first second here l)
