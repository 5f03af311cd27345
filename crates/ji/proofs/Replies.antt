-- Replies, case by case: where a text is refused, and where an output has room.
use mathlib.Core.Path.{◌≡◌, sym, ap}
use mathlib.Core.Bool.{Bool}
use mathlib.Core.List.{List}
use Prim.Native.Nat.{ℕ, ◌≤◌, ◌<◌}
use native.Mathlib.Omega.{arith}
use lib.ListN.{length}
use borrow.Author.Tests.{le-leb, lt-leb}
use Rattle.ucd.specs.Table.{Table}
use Rattle.ji.specs.Written.{Written}
use Rattle.ji.specs.Utf8.{decode, encode}
use Rattle.ji.specs.Reply.{Reply, refusal_number, refused, answered, pick_reply, placed, Checked, good, bad, pick_checked, check_points, check_within, check_text, text_of, text_call}
use Rattle.ji.specs.declared.reply.Refusal.{Refusal}
use Rattle.ji.specs.declared.reply.Refusal.TheVariants.{Argument, TooLong, IllFormed, OutsideTable, Parts, Position, NoRoom}

-- no refusal has the number 0
pub refusal_some : (why : Refusal) → 0 < refusal_number why
refusal_some Argument = omega arith
refusal_some TooLong = omega arith
refusal_some IllFormed = omega arith
refusal_some OutsideTable = omega arith
refusal_some Parts = omega arith
refusal_some Position = omega arith
refusal_some NoRoom = omega arith

module _ (tone : ℕ) (output buffer : List ℕ) where
  pub placed_not : length buffer < length output → refused NoRoom buffer ≡ placed tone output buffer
  placed_not h = sym (ap (λ (b : Bool). pick_reply b (answered tone output buffer) (refused NoRoom buffer)) (lt-leb (length output) (length buffer) h))

  pub placed_whole : length output ≤ length buffer → answered tone output buffer ≡ placed tone output buffer
  placed_whole h = sym (ap (λ (b : Bool). pick_reply b (answered tone output buffer) (refused NoRoom buffer)) (le-leb (length output) (length buffer) h))

  -- what a writer left in the buffer is the answer
  pub placed_written : (n : ℕ) (after : List ℕ) → Written buffer after n output
      → ◌≡◌ {A = Reply} (record { code = 0; length = n; count = 0; body = 0; tone = tone; khin = 0; position = 0; buffer = after }) (placed tone output buffer)
  placed_written n after w = rw (w.is, ← w.size) (placed_whole (rw w.size w.fits))

module _ (t : Table) (s : List ℕ) where
  pub within_long : (limit : ℕ) → limit < length s → check_within t limit s ≡ bad TooLong
  unfolding check_within
  within_long limit h = ap (λ (b : Bool). pick_checked b (check_points t (decode s)) (bad TooLong)) (lt-leb (length s) limit h)

  pub within_points : (limit : ℕ) → length s ≤ limit → check_within t limit s ≡ check_points t (decode s)
  unfolding check_within
  within_points limit h = ap (λ (b : Bool). pick_checked b (check_points t (decode s)) (bad TooLong)) (le-leb (length s) limit h)

  pub check_long : 256 < length s → check_text t s ≡ bad TooLong
  unfolding check_text
  check_long h = within_long 256 h

  pub check_within_law : length s ≤ 256 → check_text t s ≡ check_points t (decode s)
  unfolding check_text
  check_within_law h = within_points 256 h

-- a call that gives one text
module _ (t : Table) (f : List ℕ → List ℕ) (text buffer : List ℕ) where
  pub text_refused : (why : Refusal) → check_text t text ≡ bad why → refused why buffer ≡ text_call t f text buffer
  unfolding text_call
  text_refused why e = sym (ap (λ (k : Checked). text_of f k buffer) e)

  pub text_good : (s : List ℕ) → check_text t text ≡ good s → placed 0 (encode (f s)) buffer ≡ text_call t f text buffer
  unfolding text_call
  text_good s e = sym (ap (λ (k : Checked). text_of f k buffer) e)
