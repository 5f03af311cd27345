use mathlib.Core.Path.{◌≡◌, sym, ◌∙◌}
use mathlib.Core.Bool.{true, false, ◌&&◌}
use mathlib.Core.List.{List}
use Prim.Native.Nat.{ℕ, ◌+◌, ◌-◌, ◌≤◌, ◌<◌}
use lib.ListN.{length, drop, get_or, length-set}
use Rattle.ji.specs.Text.{begins}
use Rattle.ji.proofs.Writing.{written_length}
use Rattle.khiin_records.specs.RawBytes.{takes_below, dot, nasal, below, byte_before, Walking}
use Rattle.khiin_records.proofs.Walking.{begins_fits, before_some, below_some, walk_dot, walk_nasal, walk_below, walk_copy}
use native.Mathlib.Omega.{arith}
use Rattle.khiin_records.proofs.from_composed.spell_rest.Goals as goal
use Rattle.khiin_records.proofs.from_composed.spell_rest.Goals.{Else-is_nasal, In-loop-i, Then-is_below}

-- a turn of the loop
module _ (c : In-loop-i) where
  abbrev s : List ℕ
  s = c.args.s.now

  abbrev i : ℕ
  i = c.loop-i.i

  abbrev n : ℕ
  n = c.loop-i.n

  h : Walking c.args.vowel s c.args.out.now c.loop-i.out i n c.loop-i.count
  h = c.loop-i.invariant.1

  more : i < length s
  more = c.loop-i-test.true

  -- there is room for k bytes, where as many are left to read
  before_room : (k : ℕ) → n + k ≤ length s → n + k ≤ length c.args.out.now
  before_room k f = omega (arith, c.requires.0)

  room : (k : ℕ) → n + k ≤ length s → n + k ≤ length c.loop-i.out
  room k f = omega (arith, before_room k f, written_length h.written)

-- neither U+0358 nor U+207F stands here
module _ (c : Else-is_nasal) where
  abbrev here : List ℕ
  here = drop c.loop-i.i c.args.s.now

  no_dot_here : begins dot here ≡ false
  no_dot_here = sym c.is_pair.ensures ∙ c.if-is_pair.false

  no_nasal_here : begins nasal here ≡ false
  no_nasal_here = sym c.is_nasal.ensures ∙ c.if-is_nasal.false

-- U+0324 stands here, behind a letter
module _ (c : Then-is_below) where
  is_below_here : (begins below (drop c.loop-i.i c.args.s.now) && takes_below (byte_before c.args.s.now c.loop-i.i)) ≡ true
  is_below_here = sym c.is_below.ensures ∙ c.if-is_below.true

  behind_letter : 0 < c.loop-i.i
  behind_letter = below_some c.args.s.now c.loop-i.i is_below_here

  letter_written : 0 < c.loop-i.n
  letter_written = omega (arith, behind_letter, c.loop-i.invariant.1.longer)

pub loop-i-preserved-then-is_pair : goal.loop-i-preserved-then-is_pair
loop-i-preserved-then-is_pair c = (omega (arith, c.loop-i.invariant.0), walk_dot c.loop-i.invariant.1 c.loop-i-test.true (sym c.is_pair.ensures ∙ c.if-is_pair.true) (omega (arith, before_room (goal.at.loop-i-preserved-then-is_pair c).In-loop-i 1 (omega arith))))

pub bounds-out-n-then-is_nasal-2 : goal.bounds-out-n-then-is_nasal-2
bounds-out-n-then-is_nasal-2 c = simp length-set (omega (arith, room (goal.at.bounds-out-n-then-is_nasal-2 c).In-loop-i 2 (let k = begins_fits nasal c.args.s.now c.loop-i.i c.loop-i.invariant.1.inside (sym c.is_nasal.ensures ∙ c.if-is_nasal.true) in omega arith)))

pub loop-i-preserved-then-is_nasal : goal.loop-i-preserved-then-is_nasal
loop-i-preserved-then-is_nasal c = (
  omega (arith, c.loop-i.invariant.0),
  walk_nasal c.loop-i.invariant.1 c.loop-i-test.true (sym c.is_pair.ensures ∙ c.if-is_pair.false) (sym c.is_nasal.ensures ∙ c.if-is_nasal.true) (omega (arith, before_room (goal.at.loop-i-preserved-then-is_nasal c).In-loop-i 2 (let k = begins_fits nasal c.args.s.now c.loop-i.i c.loop-i.invariant.1.inside (sym c.is_nasal.ensures ∙ c.if-is_nasal.true) in omega arith))),
)

pub overflow_sub-x : goal.overflow_sub-x
overflow_sub-x c = behind_letter (goal.at.overflow_sub-x c).Then-is_below

pub overflow_sub-out : goal.overflow_sub-out
overflow_sub-out c = letter_written (goal.at.overflow_sub-out c).Then-is_below

pub loop-i-preserved-then-is_below : goal.loop-i-preserved-then-is_below
loop-i-preserved-then-is_below c =
    let x : get_or c.args.s.now (c.loop-i.i - 1) 0 ≡ byte_before c.args.s.now c.loop-i.i = sym (before_some c.args.s.now c.loop-i.i (behind_letter (goal.at.loop-i-preserved-then-is_below c).Then-is_below)) in (
      omega (arith, c.loop-i.invariant.0),
      rw (c.first_of.ensures, c.second_of.ensures, x) (walk_below c.loop-i.invariant.1 c.loop-i-test.true (no_dot_here (goal.at.loop-i-preserved-then-is_below c).Else-is_nasal) (no_nasal_here (goal.at.loop-i-preserved-then-is_below c).Else-is_nasal) (is_below_here (goal.at.loop-i-preserved-then-is_below c).Then-is_below) (letter_written (goal.at.loop-i-preserved-then-is_below c).Then-is_below) (omega (arith, before_room (goal.at.loop-i-preserved-then-is_below c).In-loop-i 1 (omega arith)))),
    )

pub loop-i-preserved : goal.loop-i-preserved
loop-i-preserved c = (
  omega (arith, c.loop-i.invariant.0),
  walk_copy c.loop-i.invariant.1 c.loop-i-test.true (no_dot_here (goal.at.loop-i-preserved c).Else-is_nasal) (no_nasal_here (goal.at.loop-i-preserved c).Else-is_nasal) (sym c.is_below.ensures ∙ c.if-is_below.false) (omega (arith, before_room (goal.at.loop-i-preserved c).In-loop-i 1 (omega arith))),
)
