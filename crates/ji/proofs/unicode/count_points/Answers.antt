use mathlib.Core.Path.{◌≡◌, refl, sym, ap, ◌∙◌}
use mathlib.Core.Bool.{Bool, true, false}
use mathlib.Core.List.{List, [], ◌∷◌, ◌++◌}
use Prim.Native.Nat.{ℕ, ◌+◌, ◌≤◌, ◌<◌}
use lib.ListN.{length, drop, get_or, length-append}
use Rattle.ucd.specs.Table.{member}
use Rattle.ucd.specs.Unicode16.{unicode16}
use Rattle.ji.specs.Utf8.{width_at, point_at, SequenceOf}
use Rattle.ji.specs.Unicode.{accepted}
use Rattle.ji.proofs.Parts.{part_is}
use Rattle.ji.proofs.utf8.Decoding.{width_most}
use Rattle.ji.proofs.unicode.Laws.{accepted_end}
use Rattle.ji.proofs.unicode.Reader.{taken_start, taken_end, taken_all, taken_ill, taken_fault, taken_more}
use native.Mathlib.Omega.{arith}
use Rattle.ji.proofs.utf8.Laws.{read_one}
use Rattle.ji.proofs.unicode.Ascii.{ascii_member}
use Rattle.ji.proofs.unicode.count_points.Invariants.{Counted}
use Rattle.ji.proofs.unicode.count_points.Goals as goal

-- a turn that reads a sequence of width w and code point p
module _ (s : List ℕ) (i w p : ℕ) (q : SequenceOf (drop i s) w p) where
  positive : 0 < width_at (drop i s)
  positive = omega (arith, q.wide, q.some)

  step : w ≤ 4
  step = omega (arith, q.wide, width_most (drop i s))

  told : (b : Bool) → b ≡ member unicode16 p → member unicode16 (point_at (drop i s)) ≡ b
  told b e = ap (member unicode16) (sym q.read) ∙ sym e

pub loop-i-init : goal.loop-i-init
loop-i-init c = let a = c.args in ([], taken_start unicode16 a.s.now, refl, omega arith)

pub returns-in_default : goal.returns-in_default
returns-in_default c =
    let l = c.loop-i in
    taken_ill unicode16 c.args.s.now l.invariant.0 l.i l.invariant.1 c.loop-i-test.true c.in_default.ensures

one_more : (s : List ℕ) (i n w p : ℕ) (taken : Counted s i n) → i < length s → SequenceOf (drop i s) w p → member unicode16 p ≡ true → Counted s (i + w) (n + 1)
one_more s i n w p (u, taken, size, few) h q m = (
  u ++ (point_at (drop i s) ∷ []),
  rw q.wide (taken_more unicode16 s u i taken h (positive s i w p q) (told s i w p q true (sym m))),
  omega (arith, size, length-append u (point_at (drop i s) ∷ [])),
  omega (arith, few, q.some),
)

pub loop-i-preserved-then-s-i-lt128 : goal.loop-i-preserved-then-s-i-lt128
loop-i-preserved-then-s-i-lt128 c =
    let l = c.loop-i in
    let low = c.if-s-i-lt128.true in
    let s = c.args.s.now in
    one_more s l.i l.n 1 (get_or s l.i 0) l.invariant c.loop-i-test.true (read_one s l.i c.loop-i-test.true (omega arith)) (ascii_member (get_or s l.i 0) low)

pub overflow_add-i-else-s-i-lt128 : goal.overflow_add-i-else-s-i-lt128
overflow_add-i-else-s-i-lt128 c =
    let k = step c.args.s.now c.loop-i.i _ _ c.in-Some.ensures in
    omega arith

pub overflow_add-n : goal.overflow_add-n
overflow_add-n c = omega (arith, c.loop-i.invariant.3)

pub overflow_add-n-else-s-i-lt128 : goal.overflow_add-n-else-s-i-lt128
overflow_add-n-else-s-i-lt128 c = omega (arith, c.loop-i.invariant.3)

pub loop-i-smaller : goal.loop-i-smaller
loop-i-smaller c = omega (arith, c.in-Some.ensures.some)

pub loop-i-preserved : goal.loop-i-preserved
loop-i-preserved c =
    one_more c.args.s.now c.loop-i.i c.loop-i.n _ _ c.loop-i.invariant c.loop-i-test.true c.in-Some.ensures (sym c.if-not-is_member.ensures)

pub returns-then-not-is_member : goal.returns-then-not-is_member
returns-then-not-is_member c =
    let l = c.loop-i in
    let s = c.args.s.now in
    let r = c.in-Some.ensures in
    rw (c.fault_of.ensures, part_is s l.i)
    (taken_fault unicode16 s l.invariant.0 l.i l.invariant.1 c.loop-i-test.true (positive s l.i _ _ r) (told s l.i _ _ r false c.if-not-is_member.ensures))

pub returns : goal.returns
returns c =
    let a = c.args in
    let l = c.loop-i in
    let good_text = taken_end unicode16 a.s.now l.invariant.0 l.i l.invariant.1 c.loop-i-test.false in
    let all : accepted unicode16 a.s.now ≡ l.invariant.0 =
    taken_all unicode16 a.s.now l.invariant.0 l.i l.invariant.1 (accepted_end unicode16 a.s.now l.i c.loop-i-test.false) in
    (l.invariant.0, good_text, all, sym l.invariant.2)
