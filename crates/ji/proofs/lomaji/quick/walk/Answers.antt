use mathlib.Core.Path.{◌≡◌, refl, sym, subst}
use mathlib.Core.Bool.{Bool, true, false}
use mathlib.Core.List.{List, [], ◌∷◌}
use Prim.Native.Nat.{ℕ, ◌+◌, ◌-◌, ◌≤◌, ◌<◌}
use lib.Dec.{T}
use lib.ListN.{length, drop, get_or}
use Rattle.std.specs.Bool.{then_some}
use Rattle.ucd.specs.Table.{member}
use Rattle.ucd.specs.Full.{full}
use Rattle.ucd.specs.Unicode16.{unicode16}
use Rattle.ucd.proofs.Unicode16.{member_below}
use Rattle.ji.specs.Utf8.{SequenceOf}
use Rattle.ji.specs.Lomaji.Quick.{Further, Walked}
use Rattle.ji.specs.declared.lomaji.quick.Marks.{Marks}
use Rattle.ji.proofs.Writing.{written_length}
use Rattle.ji.proofs.utf8.Laws.{read_one}
use Rattle.ji.proofs.unicode.Reader.{width_within}
use Rattle.ji.proofs.unicode.Ascii.{ascii_member}
use Rattle.ji.proofs.lomaji.quick.Laws.{further_same, ascii_full, Walking, walking_start, walking_more, walking_end}
use native.Mathlib.Omega.{arith}
use Rattle.ji.proofs.lomaji.quick.walk.Goals as goal

module _ (s before out : List ℕ) (i n : ℕ) (p : Marks) (r : Walking s before out i n p) (h : i < length s) where
  out_length : length out ≡ length before
  out_length = written_length r.stripping.written

  -- a turn over an ASCII character
  ascii_again : get_or s i 0 < 0x80 → (m : ℕ) (q : Marks) (out' : List ℕ) → m ≤ n + 1 → Further n p m q out out' (get_or s i 0 ∷ []) → Walking s before out' (i + 1) m q
  ascii_again k m q out' few step =
      walking_more s before out i n p r h 1 (get_or s i 0) (read_one s i h (omega arith)) (ascii_member (get_or s i 0) k) m q out'
      (further_same (sym (ascii_full (get_or s i 0) k)) step) (omega (arith, r.room))

  -- a turn over a sequence of width w and code point x
  module _ (w x : ℕ) (read : SequenceOf (drop i s) w x) where
    ends : i + w ≤ length s
    ends = omega (arith, read.wide, width_within s i h)

    again : true ≡ member unicode16 x → n + (length s - i) + 9 ≤ length out → (m : ℕ) (q : Marks) (out' : List ℕ) → m ≤ n + 9 → Further n p m q out out' (full unicode16 (x ∷ [])) → Walking s before out' (i + w) m q
    again mem fit m q out' few step = walking_more s before out i n p r h w x read (sym mem) m q out' step (omega (arith, out_length, ends))

pub loop-i-init : goal.loop-i-init
loop-i-init c = walking_start c.args.s.now c.args.out.now c.requires.0

pub push_ascii-n-requires : goal.push_ascii-n-requires
push_ascii-n-requires c = (c.if-a-lt128.true, omega (arith, c.loop-i.invariant.room, out_length c.args.s.now c.args.out.now c.loop-i.out c.loop-i.i c.loop-i.n c.loop-i.marks c.loop-i.invariant c.loop-i-test.true))

pub loop-i-preserved-then-a-lt128 : goal.loop-i-preserved-then-a-lt128
loop-i-preserved-then-a-lt128 c =
    let w = c.push_ascii-n in
    ascii_again c.args.s.now c.args.out.now c.loop-i.out c.loop-i.i c.loop-i.n c.loop-i.marks c.loop-i.invariant c.loop-i-test.true c.if-a-lt128.true w.result w.new.marks _ w.ensures.0 w.ensures.1

pub overflow_add-n : goal.overflow_add-n
overflow_add-n c = omega (arith, c.loop-i.invariant.room, c.requires.1)

pub overflow_add-n-else-a-lt128 : goal.overflow_add-n-else-a-lt128
overflow_add-n-else-a-lt128 c = omega (arith, c.loop-i.invariant.room, c.requires.1)

pub overflow_cast-sequence : goal.overflow_cast-sequence
overflow_cast-sequence c = let low = member_below _ (subst T c.if-not-is_member.ensures tt) in omega arith

pub push_point-n-requires : goal.push_point-n-requires
push_point-n-requires c = omega (arith, c.if-out-n.false)

pub overflow_add-i-else-a-lt128 : goal.overflow_add-i-else-a-lt128
overflow_add-i-else-a-lt128 c = omega (arith, ends c.args.s.now c.args.out.now c.loop-i.out c.loop-i.i c.loop-i.n c.loop-i.marks c.loop-i.invariant c.loop-i-test.true _ _ c.in_ok-sequence.ensures)

pub loop-i-smaller : goal.loop-i-smaller
loop-i-smaller c = omega (arith, c.in_ok-sequence.ensures.some)

pub loop-i-preserved : goal.loop-i-preserved
loop-i-preserved c =
    let w = c.push_point-n in
    again c.args.s.now c.args.out.now c.loop-i.out c.loop-i.i c.loop-i.n c.loop-i.marks c.loop-i.invariant c.loop-i-test.true _ _ c.in_ok-sequence.ensures c.if-not-is_member.ensures c.if-out-n.false w.result w.new.marks _ w.ensures.0 w.ensures.1

module _ (s before out : List ℕ) (i n : ℕ) (p : Marks) (r : Walking s before out i n p) (h : length s ≤ i) where
  ended : (b : Bool) → p.sorted ≡ b → Walked s before out (then_some b (record { 0 = n }, p.tone))
  ended true e = walking_end s before out i n p r h e
  ended false e = tt

pub returns : goal.returns
returns c = rw c.then_some.ensures (ended c.args.s.now c.args.out.now c.loop-i.out c.loop-i.i c.loop-i.n c.loop-i.marks c.loop-i.invariant c.loop-i-test.false c.loop-i.marks.sorted refl)
