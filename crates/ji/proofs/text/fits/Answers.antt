-- `text::fits` meets its contract. The loop's invariant: what replace-all makes of the whole text fits the room just where what it makes of
-- the text from i on fits what is left.
use mathlib.Core.Path.{◌≡◌, sym, ap, ◌∙◌}
use mathlib.Core.Bool.{true, false}
use mathlib.Core.List.{List}
use Prim.Native.Nat.{ℕ, ◌+◌, ◌≤◌, ◌<◌}
use native.Mathlib.Omega.{arith}
use borrow.Author.Tests.{le-leb, lt-leb}
use lib.ListN.{length, drop, length-append, length-drop}
use Rattle.ji.specs.Text.{begins, replace_all}
use Rattle.ji.proofs.text.Laws.{begins_length, replace_at_hit, replace_at_miss, replace_end}
use Rattle.ji.proofs.text.fits.Goals as goal
use Rattle.ji.proofs.text.fits.Goals.{Joined-begins_at, then-begins_at, else-begins_at}

-- of the text s, the `width` elements from i on become `size` elements
record Piece (p r s : List ℕ) (i width size : ℕ) : Type 0 where
  some : 0 < width
  inside : i + width ≤ length s
  counted : length (replace_all p r (drop i s)) ≡ size + length (replace_all p r (drop (i + width) s))

module _ (p r s : List ℕ) (i width size : ℕ) (more : i < length s) where
  hit : 0 < length p → begins p (drop i s) ≡ true → width ≡ length p → size ≡ length r → Piece p r s i width size
  hit some e is_width is_size =
      rw (is_width, is_size)
      record {
        some = some;
        inside = omega (arith, simp length-drop at (begins_length p (drop i s) e));
        counted = ap length (replace_at_hit p r s i some more e) ∙ length-append r _;
      }

  miss : begins p (drop i s) ≡ false → width ≡ 1 → size ≡ 1 → Piece p r s i width size
  miss e is_width is_size =
      rw (is_width, is_size)
      record { some = omega arith; inside = omega arith; counted = omega (arith, ap length (replace_at_miss p r s i more e)) }

-- a turn of the loop, where its two ways meet
module _ (c : Joined-begins_at) where
  abbrev s : List ℕ
  s = c.args.s.now

  abbrev pattern : List ℕ
  pattern = c.args.pattern.now

  abbrev by : List ℕ
  by = c.args.by.now

  abbrev i : ℕ
  i = c.loop-i.i

  abbrev more : i < length s
  more = c.loop-i-test.true

  piece : Piece pattern by s i c.if-begins_at.width.0 c.if-begins_at.width.1
  piece =
      elim c.if-begins_at.branch [
        | then-begins_at w ↦ hit pattern by s i _ _ more c.requires (sym c.begins_at.ensures ∙ w.if-begins_at.true) (ap (λ (p : ℕ × ℕ). p.0) w.width-is) (ap (λ (p : ℕ × ℕ). p.1) w.width-is)
        | else-begins_at w ↦ miss pattern by s i _ _ more (sym c.begins_at.ensures ∙ w.if-begins_at.false) (ap (λ (p : ℕ × ℕ). p.0) w.width-is) (ap (λ (p : ℕ × ℕ). p.1) w.width-is)
      ]

pub returns-in_default : goal.returns-in_default
returns-in_default c =
    let a = c.args in
    let h = piece (goal.at.returns-in_default c).Joined-begins_at in
    sym (lt-leb (length (replace_all a.pattern.now a.by.now a.s.now)) a.room (omega (arith, h.counted)))

pub overflow_add-i : goal.overflow_add-i
overflow_add-i c = let h = piece (goal.at.overflow_add-i c).Joined-begins_at in omega (arith, h.inside)

pub loop-i-smaller : goal.loop-i-smaller
loop-i-smaller c = let h = piece (goal.at.loop-i-smaller c).Joined-begins_at in omega (arith, h.some, h.inside)

pub loop-i-preserved : goal.loop-i-preserved
loop-i-preserved c = let h = piece (goal.at.loop-i-preserved c).Joined-begins_at in (h.inside, omega (arith, h.counted))

pub returns : goal.returns
returns c =
    let l = c.loop-i in
    let a = c.args in
    let end = ap length (replace_end a.pattern.now a.by.now a.s.now l.i (omega arith)) in
    sym (le-leb (length (replace_all a.pattern.now a.by.now a.s.now)) a.room (omega (arith, end)))
