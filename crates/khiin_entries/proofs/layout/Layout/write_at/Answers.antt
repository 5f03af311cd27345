-- `Layout::write_at` meets its contract: the pieces go in front of each other, from the last part to the first.
use Rattle.std.proofs.Common.{◌≡◌, ℕ, ◌+◌, ◌-◌, ◌≤◌, ◌<◌, List, [], length, take, drop, get_or, sym, ap, ap₂, ◌∙◌, arith}
use Rattle.std.proofs.Math.Seq.{paste}
use native.Mathlib.Nat.{add-sub_cancel_left}
use Rattle.khiin_entries.specs.declared.layout.Layout.{Layout}
use Rattle.khiin_entries.specs.Choices.{choice_at, length_in, keying_in}
use Rattle.khiin_entries.proofs.key_sequence.Laying.{digit_below, digit_inside, length_turn, keying_turn, keying_none, choice_length, keying_length}
use Rattle.khiin_entries.proofs.key_sequence.Backward.{Backward, backward_step, backward_length, backward_end}
use Rattle.khiin_entries.proofs.layout.Layout.write_at.Goals as goal
use Rattle.khiin_entries.proofs.layout.Layout.write_at.Goals.{After-from-length}

-- one part less: its piece stands before what is written
module _ (t : After-from-length) where
  abbrev layout : Layout
  layout = t.args.self.now

  abbrev i : ℕ
  i = t.loop-i.i - 1

  abbrev value : ℕ
  value = t.digit_of-digit.result.value

  abbrev offsets : List ℕ
  offsets = get_or layout.choices.now.offsets i []

  abbrev lengths : List ℕ
  lengths = get_or layout.choices.now.lengths i []

  abbrev from : ℕ
  from = get_or offsets value 0

  abbrev n : ℕ
  n = get_or lengths value 0

  before_end : i < layout.parts
  before_end = omega arith

  inside : from + n ≤ length layout.forms.now
  inside = digit_inside layout.choices.now.offsets layout.choices.now.lengths layout.choices.now.radices _ layout.parts i t.loop-i.left value layout.laid before_end t.digit_of-digit.ensures.0

  goes_in : length_in layout.choices.now.lengths layout.choices.now.radices i t.digit_of-digit.result.rest + n ≤ t.loop-i.at
  goes_in = omega (arith, length_turn layout.choices.now.lengths layout.choices.now.radices t.loop-i.i t.loop-i.left value _ t.loop-i-test.true t.digit_of-digit.ensures.0 t.digit_of-digit.ensures.1)

  pub fits : t.from-length.result ≤ t.loop-i.at
  fits = omega (arith, goes_in, t.from-length.ensures)

  abbrev piece : List ℕ
  piece = choice_at layout.forms.now offsets lengths value

  piece_length : length piece ≡ n
  piece_length = choice_length layout.choices.now.offsets layout.choices.now.lengths layout.choices.now.radices (length layout.forms.now) layout.forms.now (omega arith) offsets lengths _ value (layout.laid i before_end) (digit_below t.loop-i.left _ value (layout.laid i before_end).few t.digit_of-digit.ensures.0)

  abbrev at : ℕ
  at = t.loop-i.at - t.from-length.result

  -- the piece as the code cuts it out
  abbrev cut : List ℕ
  cut = take (t.from-from.result + t.from-length.result - t.from-from.result) (drop t.from-from.result layout.forms.now)

  cut_is : cut ≡ piece
  cut_is = ap₂ (λ (a k : ℕ). take k (drop a layout.forms.now)) t.from-from.ensures (add-sub_cancel_left t.from-from.result t.from-length.result ∙ t.from-length.ensures)

  turned : (length_in layout.choices.now.lengths layout.choices.now.radices i t.digit_of-digit.result.rest ≤ at)
      × Backward t.args.out.now (paste t.loop-i.out at cut (length cut)) (keying_in layout.forms.now layout.choices.now.offsets layout.choices.now.lengths layout.choices.now.radices layout.parts t.args.position) (keying_in layout.forms.now layout.choices.now.offsets layout.choices.now.lengths layout.choices.now.radices i t.digit_of-digit.result.rest) at t.args.end
  turned =
      let size = piece_length ∙ sym t.from-length.ensures in (
        omega (arith, goes_in, t.from-length.ensures),
        rw cut_is
            (backward_step t.loop-i.invariant.1 t.requires.1 _ piece at
            (keying_turn layout.choices.now.offsets layout.choices.now.lengths layout.choices.now.radices (length layout.forms.now) layout.forms.now t.loop-i.i t.loop-i.left value _ t.loop-i-test.true t.digit_of-digit.ensures.0 t.digit_of-digit.ensures.1)
            (omega (arith, size, fits))),
      )

pub overflow_sub-at : goal.overflow_sub-at
overflow_sub-at c = fits c

pub put-requires : goal.put-requires
put-requires c =
    let t = (goal.at.put-requires c).After-from-length in
    omega (arith, fits t, ap length (cut_is t), piece_length t, t.from-length.ensures, c.loop-i.invariant.1.sized, backward_length c.loop-i.invariant.1 c.requires.1)

pub loop-i-preserved : goal.loop-i-preserved
loop-i-preserved c = rw c.put.ensures (turned (goal.at.loop-i-preserved c).After-from-length)

pub returns : goal.returns
returns c =
    let a = c.args.self.now in
    let z : c.loop-i.i ≡ 0 = omega arith in
    backward_end c.loop-i.invariant.1 c.requires.1
    (ap (λ (k : ℕ). keying_in a.forms.now a.choices.now.offsets a.choices.now.lengths a.choices.now.radices k c.loop-i.left) z ∙ keying_none a.choices.now.offsets a.choices.now.lengths a.choices.now.radices 0 a.forms.now c.loop-i.left)
    _
    (keying_length a.choices.now.offsets a.choices.now.lengths a.choices.now.radices (length a.forms.now) a.forms.now (omega arith) a.parts c.args.position a.laid)
