-- `key_sequence::place` meets its contract.
use Rattle.std.proofs.Common.{◌≡◌, ℕ, ◌-◌, List, length, sym, ap, ◌∙◌, arith}
use Rattle.std.proofs.Math.Seq.{paste}
use Rattle.khiin_entries.specs.declared.layout.Layout.{Layout}
use Rattle.khiin_entries.specs.Choices.{count_in, length_in, keying_in}
use Rattle.khiin_entries.proofs.key_sequence.Laying.{keying_length}
use Rattle.khiin_entries.proofs.key_sequence.Calling.{laid_position, laid_no_room, laid_done}
use Rattle.khiin_entries.proofs.key_sequence.place.Goals as goal

-- the keying, and how long it is
module _ (l : Layout) (position : ℕ) where
  abbrev output : List ℕ
  output = keying_in l.forms.now l.choices.now.offsets l.choices.now.lengths l.choices.now.radices l.parts position

  output_length : length output ≡ length_in l.choices.now.lengths l.choices.now.radices l.parts position
  output_length = keying_length l.choices.now.offsets l.choices.now.lengths l.choices.now.radices (length l.forms.now) l.forms.now (omega arith) l.parts position l.laid

pub returns-then-count-position : goal.returns-then-count-position
returns-then-count-position c =
    let l = c.args.layout.now in
    laid_position (count_in l.choices.now.radices l.parts) (output l c.args.position) c.args.position c.args.out.now (omega arith)

pub returns-then-out-n : goal.returns-then-out-n
returns-then-out-n c =
    let l = c.args.layout.now in
    laid_no_room (count_in l.choices.now.radices l.parts) (output l c.args.position) c.args.position c.args.out.now (omega arith) (omega (arith, output_length l c.args.position))

pub returns : goal.returns
returns c =
    let l = c.args.layout.now in
    let n = c.length_at-n.ensures.0 in
    let e = c.count-count.ensures.0 in
    rw e
    (laid_done (count_in l.choices.now.radices l.parts) (output l c.args.position) c.args.position c.args.out.now (omega (arith, e)) c.length_at-n.result _ (output_length l c.args.position ∙ sym n) (omega arith)
    (c.write_at.ensures ∙ ap (λ (m : ℕ). paste c.args.out.now (c.length_at-n.result - m) (output l c.args.position) m) (sym n)))
