use mathlib.Core.Path.{◌≡◌}
use mathlib.Core.List.{List, ◌++◌, append_assoc}
use Prim.Native.Nat.{ℕ, ◌+◌, ◌≤◌}
use lib.ListN.{length, length-append}
use Rattle.ji.specs.Written.{Written}
use Rattle.ji.specs.Utf8.{bytes_of}
use Rattle.ji.proofs.Replies.{placed_not, placed_written}
use Rattle.ji.proofs.Writing.{written_run, written_behind}
use native.Mathlib.Omega.{arith}
use Rattle.ji.proofs.reply.place_between.Goals as goal
use Rattle.ji.proofs.reply.place_between.Goals.{After-byte_count-size, then-left-size-via-then-left-size, then-left-size-via-else-left-size+then-left-size-2}

-- the whole text, and its length
module _ (c : After-byte_count-size) where
  abbrev text : List ℕ
  text = c.args.before.now ++ (bytes_of c.args.x ++ c.args.after.now)

  text_length : length text ≡ length c.args.before.now + (c.byte_count-size.result + length c.args.after.now)
  text_length =
      let a = c.args in
      omega (arith, length-append a.before.now (bytes_of a.x ++ a.after.now), length-append (bytes_of a.x) a.after.now, c.byte_count-size.ensures.0)

pub returns-in_default : goal.returns-in_default
returns-in_default c = placed_not 0 (text (goal.at.returns-in_default c).After-byte_count-size) c.args.out.now (omega (arith, text_length (goal.at.returns-in_default c).After-byte_count-size))

pub returns-then-left-size : goal.returns-then-left-size
returns-then-left-size c =
    let d = (goal.at.returns-then-left-size c).After-byte_count-size in
    placed_not 0 (text d) c.args.out.now
    elim c.then-left-size.branch [
      | then-left-size-via-then-left-size w ↦ omega (arith, text_length d)
      | then-left-size-via-else-left-size+then-left-size-2 w ↦ omega (arith, text_length d)
    ]

pub returns : goal.returns
returns c =
    let a = c.args in
    let room : length a.before.now + length (bytes_of a.x) ≤ length a.out.now = omega (arith, c.byte_count-size.ensures.0, c.if-left-size.false) in
    let w : Written a.out.now c.put_point-at.new.out c.put_point-at.result (a.before.now ++ bytes_of a.x) = rw (c.put_point-at.ensures.0, c.put_point-at.ensures.1, c.from.ensures) (written_run c.copy.ensures (bytes_of a.x) room) in
    placed_written 0 (text (goal.at.returns c).After-byte_count-size) a.out.now _ _ (rw (← append_assoc a.before.now (bytes_of a.x) a.after.now) (written_behind w c.copy-2.ensures))
