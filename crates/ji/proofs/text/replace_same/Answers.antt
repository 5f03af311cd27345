-- `text::replace_same` meets its contract. The loop's invariant: what replace-all makes of the text up to i stands in its place, and behind i
-- the text is as it was.
use mathlib.Core.Path.{◌≡◌, sym, ap, ◌∙◌}
use mathlib.Core.Bool.{Bool, true, false}
use mathlib.Core.List.{List, ◌++◌}
use Prim.Native.Nat.{ℕ, ◌+◌, ◌≤◌, ◌<◌}
use native.Mathlib.Omega.{arith}
use lib.ListN.{length, drop, length-drop}
use lib.Seq.{paste}
use Rattle.ji.specs.Text.{begins, replace_all}
use Rattle.ji.proofs.Writing.{written_length, written_drop, written_whole}
use Rattle.ji.proofs.Underway.{Underway, underway_start, underway_run, underway_kept, underway_end}
use Rattle.ji.proofs.text.Laws.{begins_length, replace_at_hit, replace_at_miss, replace_end}
use Rattle.ji.proofs.text.replace_same.Goals as goal
use Rattle.ji.proofs.text.replace_same.Goals.{In-loop-i}

-- a turn of the loop
module _ (c : In-loop-i) where
  abbrev s₀ : List ℕ
  s₀ = c.args.s.now

  abbrev pattern : List ℕ
  pattern = c.args.pattern.now

  abbrev by : List ℕ
  by = c.args.by.now

  abbrev s : List ℕ
  s = c.loop-i.s

  abbrev i : ℕ
  i = c.loop-i.i

  abbrev Goes : List ℕ → ℕ → Type 0
  Goes s i = Underway (replace_all pattern by) s₀ s₀ s i i

  h : Goes s i
  h = c.loop-i.invariant

  same_size : length s ≡ length s₀
  same_size = written_length h.written

  more : i < length s₀
  more = omega (arith, same_size)

  -- behind i the text is as it was
  begins_as : (b : Bool) → begins pattern (drop i s) ≡ b → begins pattern (drop i s₀) ≡ b
  begins_as b e = ap (begins pattern) (sym (written_drop h.written)) ∙ e

  module _ (e : begins pattern (drop i s₀) ≡ true) where
    hit_room : i + length by ≤ length s₀
    hit_room = omega (arith, c.requires.1, simp length-drop at (begins_length pattern (drop i s₀) e))

    hit_piece : replace_all pattern by (drop i s₀) ≡ by ++ replace_all pattern by (drop (i + length by) s₀)
    hit_piece = rw c.requires.1 (replace_at_hit pattern by s₀ i c.requires.0 more e)

    hit : (r : ℕ) (s' : List ℕ) → r ≡ i + length by → s' ≡ paste s i by (length by) → Goes s' r
    hit r s' is_r is_s = rw (is_r, is_s) (underway_run h (i + length by) by hit_piece hit_room hit_room)

  miss : begins pattern (drop i s₀) ≡ false → Goes s (i + 1)
  miss e = underway_kept h (i + 1) (replace_at_miss pattern by s₀ i more e) (omega (arith, more)) more

pub loop-i-init : goal.loop-i-init
loop-i-init c = let a = c.args in underway_start (replace_all a.pattern.now a.by.now) a.s.now a.s.now

pub put-i-requires : goal.put-i-requires
put-i-requires c = rw (same_size (goal.at.put-i-requires c).In-loop-i) (hit_room (goal.at.put-i-requires c).In-loop-i (begins_as (goal.at.put-i-requires c).In-loop-i true (sym c.begins_at.ensures ∙ c.if-begins_at.true)))

pub loop-i-preserved-then-begins_at : goal.loop-i-preserved-then-begins_at
loop-i-preserved-then-begins_at c =
    let put = c.put-i in
    hit (goal.at.loop-i-preserved-then-begins_at c).In-loop-i (begins_as (goal.at.loop-i-preserved-then-begins_at c).In-loop-i true (sym c.begins_at.ensures ∙ c.if-begins_at.true)) put.result put.new.out put.ensures.0 put.ensures.1

pub loop-i-preserved : goal.loop-i-preserved
loop-i-preserved c = miss (goal.at.loop-i-preserved c).In-loop-i (begins_as (goal.at.loop-i-preserved c).In-loop-i false (sym c.begins_at.ensures ∙ c.if-begins_at.false))

pub returns : goal.returns
returns c =
    let l = c.loop-i in
    let a = c.args in
    let all : length a.s.now ≤ l.i = omega (arith, written_length l.invariant.written) in
    written_whole (underway_end l.invariant (replace_end a.pattern.now a.by.now a.s.now l.i all)) all
