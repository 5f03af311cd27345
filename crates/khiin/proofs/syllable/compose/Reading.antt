-- Reading a body: its code points, and that they are no more than its bytes.
use mathlib.Core.Path.{◌≡◌, ap, ◌∙◌}
use mathlib.Core.Bool.{false}
use mathlib.Core.List.{List}
use Prim.Native.Nat.{ℕ, ◌*◌, ◌/◌, ◌≤◌}
use native.Mathlib.Omega.{arith}
use lib.ListN.{length}
use Rattle.ji.specs.Unicode.{unicode16, spread}
use Rattle.ji.specs.Written.{Written}
use Rattle.ji.specs.Reading.{PointsReading, points_reply, points_call}
use Rattle.ji.specs.Reply.{good, check_text}
use Rattle.ji.specs.declared.unicode.CharLen.{CharLen}
use Rattle.ji.proofs.Replies.{check_within_law}
use Rattle.ji.proofs.Points.{points_done}
use Rattle.ji.proofs.Readings.{told}
pub use Rattle.ji.proofs.unicode.Bytes.{fewer}
use Rattle.ji.proofs.unicode.Checked.{text_passed}
use Rattle.std.specs.Prelude.{Result, Ok}
use Rattle.ji.specs.declared.reply.Refusal.{Refusal}

-- a text has no more code points than bytes
pub points_fewer : (bytes s : List ℕ) → check_text unicode16 bytes ≡ good s → length s ≤ length bytes
points_fewer bytes s e = omega (arith, fewer s, ap length (text_passed bytes s e).written)

-- the code points that were read
pub read_whole : (s before after : List ℕ) {answer : Result CharLen Refusal} → length s ≤ 256 → length s ≤ length before → points_reply answer after ≡ points_call unicode16 s before
    → (n : CharLen) → answer ≡ Ok n → (u : List ℕ) × (check_text unicode16 s ≡ good u) × Written before after n.0 u
read_whole s before after h room says n e =
    let v = points_done s before after room says n e in
    (v.0, check_within_law unicode16 s h ∙ v.1, v.2)

-- and those that `points` read
pub read : (s before after : List ℕ) {n : ℕ} {answer : Result CharLen Refusal} → length s ≤ 256 → length s ≤ length before / 3 * 2 → answer ≡ Ok (record { 0 = n }) → PointsReading unicode16 s before after answer → (u : List ℕ) × (check_text unicode16 s ≡ good u) × Written before after n u
unfolding spread
read s before after h fits e r =
    let v = told unicode16 s before after false e (r.0 fits) in
    (v.0, check_within_law unicode16 s h ∙ v.1, v.2)
