use lib.ListN.{length-set, length, get_or}
use mathlib.Core.Path.{sym, ◌∙◌}
use mathlib.Core.List.{List}
use Prim.Native.Nat.{ℕ, ◌+◌, ◌*◌, ◌≤◌, ◌<◌}
use Rattle.ji.proofs.Writing.{written_length}
use Rattle.ji.proofs.Underway.{Underway, underway_start, underway_one, underway_end}
use Rattle.khiin.specs.Syllable.{o_rules}
use Rattle.khiin.proofs.syllable.compose.Laws.{underway_two, dotted, o_dotted, dotted_here, dotted_not, dotted_end}
use native.Mathlib.Omega.{arith}
use Rattle.khiin.proofs.syllable.compose.write_dotted.Goals as goal
use Rattle.khiin.proofs.syllable.compose.write_dotted.Goals.{then-takes_dot, else-takes_dot}

room : {s before after : List ℕ} {i n : ℕ} → (n ≤ 2 * i) × Underway (dotted o_rules) s before after i n → 2 * length s ≤ length before → i < length s → n + 2 ≤ length after
room v h more = omega (arith, v.0, written_length v.1.written)

pub loop-i-init : goal.loop-i-init
loop-i-init c = (omega arith, underway_start (dotted o_rules) c.args.s.now c.args.out.now)

pub bounds-out-n : goal.bounds-out-n
bounds-out-n c = omega (arith, room c.loop-i.invariant c.requires (omega arith))

pub bounds-out-n-then-takes_dot : goal.bounds-out-n-then-takes_dot
bounds-out-n-then-takes_dot c = simp length-set (omega (arith, room c.loop-i.invariant c.requires (omega arith)))

pub loop-i-preserved : goal.loop-i-preserved
loop-i-preserved c =
    let s = c.args.s.now in
    let v = c.loop-i.invariant in
    let inside = room v c.requires (omega arith) in
    elim c.if-takes_dot.branch [
      | then-takes_dot w ↦
          rw (w.out-is, w.n-is)
          (omega arith, underway_two v.1 (c.loop-i.i + 1) (get_or s c.loop-i.i 0) 0x0358 (dotted_here s c.loop-i.i (omega arith) (sym c.takes_dot.ensures ∙ w.if-takes_dot.true)) (omega arith) (omega (arith, inside)))
      | else-takes_dot w ↦
          rw (w.out-is, w.n-is)
          (omega arith, underway_one v.1 (c.loop-i.i + 1) (get_or s c.loop-i.i 0) (dotted_not s c.loop-i.i (omega arith) (sym c.takes_dot.ensures ∙ w.if-takes_dot.false)) (omega arith) (omega (arith, inside)))
    ]

pub returns : goal.returns
returns c =
    let s = c.args.s.now in
    let v = c.loop-i.invariant in
    (rw (o_dotted s) (underway_end v.1 (dotted_end s c.loop-i.i (omega arith))), omega (arith, v.1.inside))
