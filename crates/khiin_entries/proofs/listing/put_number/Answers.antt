-- `listing::put_number` meets its contract: the digits go in front of each other, from the last to the first.
use Rattle.std.proofs.Common.{◌≡◌, ℕ, ◌+◌, ◌-◌, ◌/◌, ◌%◌, ◌≤◌, ◌<◌, List, [], ◌∷◌, ◌++◌, length, set, ap, ap₂, ◌∙◌, arith}
use Rattle.std.proofs.Math.Seq.{paste}
use Rattle.ji.proofs.Writing.{stores_1}
use Rattle.khiin_entries.specs.Listing.{decimal, last_digits}
use Rattle.khiin_entries.proofs.key_sequence.Backward.{Backward, backward_start, backward_step, backward_length, backward_end}
use Rattle.khiin_entries.proofs.listing.Decimal.{last_length, decimal_is, last_turn}
use Rattle.khiin_entries.proofs.listing.Texts.{number_put}
use Rattle.khiin_entries.proofs.listing.put_number.Goals as goal

-- one digit more: it stands before what is written
next_digit : {before after whole : List ℕ} {end : ℕ} (at i left : ℕ) → end ≤ length before → at < i → i ≤ end → Backward before after whole (last_digits (i - at) left) i end
    → Backward before (set after (i - 1) (48 + left % 10)) whole (last_digits (i - 1 - at) (left / 10)) (i - 1) end
next_digit {before} {after} at i left room more most h =
    let z : i - at - 1 ≡ i - 1 - at = omega arith in
    let e = last_turn (i - at) left (omega arith) ∙ ap (λ (k : ℕ). last_digits k (left / 10) ++ ((48 + left % 10) ∷ [])) z in
    rw (stores_1 after (i - 1) (48 + left % 10) (omega (arith, backward_length h room)))
    (backward_step h room (last_digits (i - 1 - at) (left / 10)) ((48 + left % 10) ∷ []) (i - 1) e (omega arith))

-- no digit is left
all_digits : (n at d i left : ℕ) → d ≡ length (decimal n) → {before after : List ℕ} → at + d ≤ length before → i ≤ at → Backward before after (last_digits (at + d - at) n) (last_digits (i - at) left) i (at + d)
    → after ≡ paste before at (decimal n) (length (decimal n))
all_digits n at d i left e {before} room last h =
    let none : i - at ≡ 0 = omega arith in
    let back : at + d - d ≡ at = omega arith in
    let digits : at + d - at ≡ d = omega arith in
    backward_end h room (ap (λ (k : ℕ). last_digits k left) none) d (last_length (at + d - at) n ∙ digits)
    ∙ ap (λ (k : ℕ). paste before k (last_digits (at + d - at) n) d) back
    ∙ ap₂ (λ (w : List ℕ) (k : ℕ). paste before at w k) (ap (λ (k : ℕ). last_digits k n) (digits ∙ e) ∙ decimal_is n) e

pub loop-i-init : goal.loop-i-init
loop-i-init c = backward_start _ _ _

pub loop-i-preserved : goal.loop-i-preserved
loop-i-preserved c = next_digit c.args.at c.loop-i.i c.loop-i.left (omega (arith, c.digit_count.ensures)) c.loop-i-test.true c.loop-i.auto.i c.loop-i.invariant

pub returns : goal.returns
returns c =
    let d = c.digit_count.ensures.0 in
    rw d
    (number_put c.args.out.now c.loop-i.out c.args.at c.args.n c.args.last c.requires
    (all_digits c.args.n c.args.at c.digit_count.result c.loop-i.i c.loop-i.left d (omega (arith, d)) (omega arith) c.loop-i.invariant))
