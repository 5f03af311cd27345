use mathlib.Core.Path.{◌≡◌, sym, ap, ◌∙◌, subst}
use mathlib.Core.Bool.{Bool, true, false}
use mathlib.Core.List.{List, [], ◌∷◌}
use Prim.Native.Nat.{ℕ, ◌+◌, ◌≤◌, ◌<◌}
use lib.ListN.{length, drop, get_or}
use lib.Dec.{T}
use lib.Seq.{paste}
use Rattle.ucd.specs.Table.{member}
use Rattle.ucd.specs.Unicode16.{unicode16}
use Rattle.ucd.proofs.Unicode16.{member_below}
use Rattle.ji.specs.Utf8.{width_at, point_at, SequenceOf, decode}
use Rattle.ji.specs.Unicode.{accepted, spread}
use Rattle.ji.specs.Reading.{spread_text, fault_in, Reading}
use Rattle.ji.specs.declared.unicode.Spread.{Spread}
use Rattle.ji.proofs.Writing.{written_length}
use Rattle.ji.proofs.Parts.{part_is}
use Rattle.ji.proofs.utf8.Decoding.{width_most}
use Rattle.ji.proofs.unicode.Reader.{spread_room, Read, read_start, read_end, read_ill, read_fault, read_room, read_more}
use native.Mathlib.Omega.{arith}
use Rattle.ji.specs.declared.unicode.Spread.TheVariants.{One}
use Rattle.ji.proofs.utf8.Laws.{read_one}
use Rattle.ji.proofs.unicode.Laws.{spread_itself}
use Rattle.ji.proofs.unicode.Ascii.{ascii_member}
use Rattle.ji.proofs.unicode.decode.Goals as goal
use Rattle.std.specs.Prelude.{Err}

-- a turn that reads a sequence of width w and code point p
module _ (d : Bool) (s before out : List ℕ) (i n w p : ℕ) (r : Read unicode16 d s before out i n) (h : i < length s) (q : SequenceOf (drop i s) w p) where
  wide : w ≡ width_at (drop i s)
  wide = q.wide

  positive : 0 < width_at (drop i s)
  positive = omega (arith, wide, q.some)

  point : p ≡ point_at (drop i s)
  point = q.read

  step : w ≤ 4
  step = omega (arith, wide, width_most (drop i s))

  -- outside the table
  returns_outside : false ≡ member unicode16 p → Reading unicode16 d s before out (Err (fault_in (decode (drop i s))))
  returns_outside m = read_fault unicode16 d s before out i n r h positive (ap (member unicode16) (sym point) ∙ sym m)

  -- in the table
  module _ (m : true ≡ member unicode16 p) where
    inside : member unicode16 (point_at (drop i s)) ≡ true
    inside = ap (member unicode16) (sym point) ∙ sym m

    low : p < 0xD800
    low = member_below p (subst T m tt)

    module _ (x : Spread) (e : spread_text x ≡ spread unicode16 d (p ∷ [])) (room : length (spread unicode16 d (accepted unicode16 s)) ≤ length before) where
      same_text : spread unicode16 d (point_at (drop i s) ∷ []) ≡ spread_text x
      same_text = ap (λ (k : ℕ). spread unicode16 d (k ∷ [])) (sym point) ∙ sym e

      enough : n + length (spread unicode16 d (point_at (drop i s) ∷ [])) ≤ length before
      enough = read_room unicode16 d s before out i n r h positive inside room

      room_left : n + length (spread_text x) ≤ length out
      room_left = rw (written_length r.written, ← same_text) enough

      again : (m' : ℕ) (out' : List ℕ) → m' ≡ n + length (spread_text x) → out' ≡ paste out n (spread_text x) (length (spread_text x)) → Read unicode16 d s before out' (i + w) m'
      again m' out' em eo =
          rw (em, eo, wide, ← same_text) (read_more unicode16 d s before out i n r h positive inside (spread_room d s i h positive) enough)

pub loop-i-init : goal.loop-i-init
loop-i-init c = let a = c.args in read_start unicode16 a.decomposed a.s.now a.out.now

pub returns-in_default : goal.returns-in_default
returns-in_default c =
    let a = c.args in
    read_ill unicode16 a.decomposed a.s.now a.out.now c.loop-i.out c.loop-i.i c.loop-i.n c.loop-i.invariant c.loop-i-test.true c.in_default.ensures

pub overflow_cast-sequence : goal.overflow_cast-sequence
overflow_cast-sequence c =
    let x = c.args in
    let k = low x.decomposed x.s.now x.out.now c.loop-i.out c.loop-i.i c.loop-i.n _ _ c.loop-i.invariant c.loop-i-test.true c.in-Some.ensures c.if-not-is_member.ensures in
    omega arith

pub put-n-requires : goal.put-n-requires
put-n-requires c =
    let x = c.args in
    let low = c.if-a-lt128.true in
    room_left x.decomposed x.s.now x.out.now c.loop-i.out c.loop-i.i c.loop-i.n 1 (get_or x.s.now c.loop-i.i 0) c.loop-i.invariant c.loop-i-test.true (read_one x.s.now c.loop-i.i c.loop-i-test.true (omega arith)) (sym (ascii_member _ low)) (One (get_or x.s.now c.loop-i.i 0)) (sym (spread_itself x.decomposed _ (omega arith))) c.requires

pub loop-i-preserved-then-a-lt128 : goal.loop-i-preserved-then-a-lt128
loop-i-preserved-then-a-lt128 c =
    let x = c.args in
    let low = c.if-a-lt128.true in
    again x.decomposed x.s.now x.out.now c.loop-i.out c.loop-i.i c.loop-i.n 1 (get_or x.s.now c.loop-i.i 0) c.loop-i.invariant c.loop-i-test.true (read_one x.s.now c.loop-i.i c.loop-i-test.true (omega arith)) (sym (ascii_member _ low)) (One (get_or x.s.now c.loop-i.i 0)) (sym (spread_itself x.decomposed _ (omega arith))) c.requires c.put-n.result c.put-n.new.out c.put-n.ensures.0 (rw (← c.from.ensures) c.put-n.ensures.1)

pub put-n-requires-else-a-lt128 : goal.put-n-requires-else-a-lt128
put-n-requires-else-a-lt128 c =
    let x = c.args in
    room_left x.decomposed x.s.now x.out.now c.loop-i.out c.loop-i.i c.loop-i.n _ _ c.loop-i.invariant c.loop-i-test.true c.in-Some.ensures c.if-not-is_member.ensures c.spread_point.result c.spread_point.ensures c.requires

pub overflow_add-i-else-a-lt128 : goal.overflow_add-i-else-a-lt128
overflow_add-i-else-a-lt128 c =
    let x = c.args in
    let k = step x.decomposed x.s.now x.out.now c.loop-i.out c.loop-i.i c.loop-i.n _ _ c.loop-i.invariant c.loop-i-test.true c.in-Some.ensures in
    omega arith

pub loop-i-smaller : goal.loop-i-smaller
loop-i-smaller c =
    omega (arith, c.in-Some.ensures.some)

pub loop-i-preserved : goal.loop-i-preserved
loop-i-preserved c =
    let x = c.args in
    again x.decomposed x.s.now x.out.now c.loop-i.out c.loop-i.i c.loop-i.n _ _ c.loop-i.invariant c.loop-i-test.true c.in-Some.ensures c.if-not-is_member.ensures c.spread_point.result c.spread_point.ensures c.requires c.put-n-else-a-lt128.result c.put-n-else-a-lt128.new.out c.put-n-else-a-lt128.ensures.0 c.put-n-else-a-lt128.ensures.1

pub returns-then-not-is_member : goal.returns-then-not-is_member
returns-then-not-is_member c =
    let x = c.args in
    rw (c.fault_of.ensures, part_is x.s.now c.loop-i.i)
    (returns_outside x.decomposed x.s.now x.out.now c.loop-i.out c.loop-i.i c.loop-i.n _ _ c.loop-i.invariant c.loop-i-test.true c.in-Some.ensures c.if-not-is_member.ensures)

pub returns : goal.returns
returns c =
    let x = c.args in
    read_end unicode16 x.decomposed x.s.now x.out.now c.loop-i.out c.loop-i.i c.loop-i.n c.loop-i.invariant c.loop-i-test.false
