use mathlib.Core.Path.{◌≡◌, sym, ◌∙◌}
use mathlib.Core.List.{List}
use Prim.Native.Nat.{ℕ, ◌≤◌, ◌<◌}
use borrow.Author.Tests.{eqb-true, eqb-false}
use Rattle.std.specs.Prelude.{Result, Ok, Err}
use Rattle.std.specs.Result.{OkIff, result_unwrap_or}
use Rattle.ji.specs.Utf8.{last_point}
use Rattle.ji.proofs.Parts.{part_some}
use Rattle.ji.proofs.utf8.Decoding.{read_part, ill_part}
use Rattle.ji.proofs.utf8.Last.{point_none, point_ill, point_read, point_large}
use native.Mathlib.Omega.{arith}
use Rattle.ji.proofs.unicode.last_point.Goals as goal

pub returns-then-is_empty : goal.returns-then-is_empty
returns-then-is_empty c = point_none c.args.text.now (eqb-true _ _ (sym c.if-is_empty.ensures))

pub read_any-requires : goal.read_any-requires
read_any-requires c = let ne = eqb-false _ _ (sym c.if-is_empty.ensures) in part_some c.args.text.now c.last_start.result (c.last_start.ensures.2 (omega (arith, ne)))

-- a point of more than sixteen bits is none of the table
cast : {E : Type 0} (s : List ℕ) (p : ℕ) → (p ≤ 0xFFFF → p ≡ last_point s) → (0xFFFF < p → 0 ≡ last_point s)
    → (r : Result ℕ E) → OkIff r (p < 65536) p → result_unwrap_or r 0 ≡ last_point s
cast s p small large (Ok x) h = h.1 ∙ small (omega (arith, h.0))
cast s p small large (Err e) h = large (omega (arith, h))

pub returns-in-Some : goal.returns-in-Some
returns-in-Some c =
    let s = c.args.text.now in
    c.unwrap_or.ensures
    ∙ cast s _ (point_read s c.last_start.result _ _ c.last_start.ensures.0 (read_part s c.last_start.result _ _ c.in-Some.ensures)) (point_large s c.last_start.result _ _ c.last_start.ensures.0 (read_part s c.last_start.result _ _ c.in-Some.ensures))
    c.try_from.result c.try_from.ensures

pub returns-in-None : goal.returns-in-None
returns-in-None c = point_ill c.args.text.now c.last_start.result c.last_start.ensures.0 (ill_part c.args.text.now c.last_start.result c.in-None.ensures)
