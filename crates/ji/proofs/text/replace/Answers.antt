-- `text::replace` meets its contract. The loop's invariant: what replace-all makes of the text up to i is written up to j.
use mathlib.Core.Path.{◌≡◌, sym, ◌∙◌}
use mathlib.Core.Bool.{true, false}
use mathlib.Core.List.{List, [], ◌∷◌, ◌++◌}
use Prim.Native.Nat.{ℕ, ◌+◌, ◌≤◌, ◌<◌}
use native.Mathlib.Omega.{arith}
use lib.ListN.{length, drop, get_or, set, length-drop}
use lib.Seq.{paste}
use Rattle.ji.specs.Text.{begins, replace_all}
use Rattle.ji.proofs.Writing.{written_length}
use Rattle.ji.proofs.Underway.{Underway, underway_start, underway_room, underway_run, underway_one, underway_end}
use Rattle.ji.proofs.text.Laws.{begins_length, replace_at_hit, replace_at_miss, replace_end}
use Rattle.ji.proofs.text.replace.Goals as goal
use Rattle.ji.proofs.text.replace.Goals.{Else-begins_at, In-loop-i, Then-begins_at}

-- a turn of the loop
module _ (c : In-loop-i) where
  abbrev src : List ℕ
  src = c.args.src.now

  abbrev pattern : List ℕ
  pattern = c.args.pattern.now

  abbrev by : List ℕ
  by = c.args.by.now

  abbrev i : ℕ
  i = c.loop-i.i

  abbrev j : ℕ
  j = c.loop-i.j

  abbrev out : List ℕ
  out = c.loop-i.out

  abbrev Goes : List ℕ → ℕ → ℕ → Type 0
  Goes out i j = Underway (replace_all pattern by) src c.args.out.now out i j

  h : Goes out i j
  h = c.loop-i.invariant

  out_length : length out ≡ length c.args.out.now
  out_length = written_length h.written

  module _ (e : begins pattern (drop i src) ≡ true) where
    hit_inside : i + length pattern ≤ length src
    hit_inside = omega (arith, simp length-drop at (begins_length pattern (drop i src) e))

    hit_piece : replace_all pattern by (drop i src) ≡ by ++ replace_all pattern by (drop (i + length pattern) src)
    hit_piece = replace_at_hit pattern by src i c.requires.0 c.loop-i-test.true e

    hit_room : j + length by ≤ length out
    hit_room = rw out_length (underway_room h (i + length pattern) by hit_piece c.requires.1)

    hit : (r : ℕ) (out' : List ℕ) → r ≡ j + length by → out' ≡ paste out j by (length by) → Goes out' (i + length pattern) r
    hit r out' is_r is_out = rw (is_r, is_out) (underway_run h (i + length pattern) by hit_piece hit_inside (rw out_length at hit_room))

  module _ (e : begins pattern (drop i src) ≡ false) where
    miss_piece : replace_all pattern by (drop i src) ≡ get_or src i 0 ∷ replace_all pattern by (drop (i + 1) src)
    miss_piece = replace_at_miss pattern by src i c.loop-i-test.true e

    miss_room : j < length out
    miss_room = omega (arith, out_length, underway_room h (i + 1) (get_or src i 0 ∷ []) miss_piece c.requires.1)

    miss : Goes (set out j (get_or src i 0)) (i + 1) (j + 1)
    miss = underway_one h (i + 1) (get_or src i 0) miss_piece (omega arith) (rw out_length at miss_room)

yes : (t : Then-begins_at) → begins t.args.pattern.now (drop t.loop-i.i t.args.src.now) ≡ true
yes t = sym t.begins_at.ensures ∙ t.if-begins_at.true

no : (t : Else-begins_at) → begins t.args.pattern.now (drop t.loop-i.i t.args.src.now) ≡ false
no t = sym t.begins_at.ensures ∙ t.if-begins_at.false

pub loop-i-init : goal.loop-i-init
loop-i-init c = let a = c.args in underway_start (replace_all a.pattern.now a.by.now) a.src.now a.out.now

pub put-j-requires : goal.put-j-requires
put-j-requires c = hit_room (goal.at.put-j-requires c).In-loop-i (yes (goal.at.put-j-requires c).Then-begins_at)

pub overflow_add-i : goal.overflow_add-i
overflow_add-i c = omega (arith, hit_inside (goal.at.overflow_add-i c).In-loop-i (yes (goal.at.overflow_add-i c).Then-begins_at))

pub loop-i-preserved-then-begins_at : goal.loop-i-preserved-then-begins_at
loop-i-preserved-then-begins_at c =
    let put = c.put-j in
    hit (goal.at.loop-i-preserved-then-begins_at c).In-loop-i (yes (goal.at.loop-i-preserved-then-begins_at c).Then-begins_at) put.result put.new.out put.ensures.0 put.ensures.1

pub bounds-out-j : goal.bounds-out-j
bounds-out-j c = miss_room (goal.at.bounds-out-j c).In-loop-i (no (goal.at.bounds-out-j c).Else-begins_at)

pub loop-i-preserved : goal.loop-i-preserved
loop-i-preserved c = miss (goal.at.loop-i-preserved c).In-loop-i (no (goal.at.loop-i-preserved c).Else-begins_at)

pub returns : goal.returns
returns c =
    let l = c.loop-i in
    let a = c.args in
    underway_end l.invariant (replace_end a.pattern.now a.by.now a.src.now l.i (omega arith))
