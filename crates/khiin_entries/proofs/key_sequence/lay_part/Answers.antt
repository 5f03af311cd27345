-- `key_sequence::lay_part` meets its contract: the forms stand in the buffer, and the row has each of them with and without its tone.
use mathlib.Core.Path.{◌≡◌, sym, ◌∙◌}
use mathlib.Core.Bool.{Bool, true, false}
use mathlib.Core.List.{List}
use Prim.Native.Nat.{ℕ}
use Rattle.ji.specs.Unicode.{unicode16}
use Rattle.ji.specs.declared.lomaji.keys.Form.{Form}
use Rattle.ji.specs.declared.lomaji.keys.Form.TheVariants.{Plain, Oo}
use Rattle.ji.specs.declared.lomaji.keys.Kind.{Kind}
use Rattle.ji.specs.declared.lomaji.keys.Kind.TheVariants.{Detoned}
use Rattle.ji.proofs.lomaji.keys.Bytes.{added_key}
use Rattle.ji.specs.Lomaji.Dot.{dot_in}
use Rattle.khiin_entries.specs.Choices.{points_of, form_bytes, is_toned, row_one, row_two, RowOf}
use Rattle.khiin_entries.specs.declared.key_sequence.Row.{Row}
use Rattle.khiin_entries.proofs.key_sequence.Forms.{form_toned, several_detoned, several_toned}
use Rattle.khiin_entries.proofs.key_sequence.Rows.{one_row, one_toned_row, two_row, two_toned_row, first_room, OnePut, one_stands, one_front, one_short, TwoPut, two_first, two_second, two_front, two_short}
use native.Mathlib.Omega.{arith}
use Rattle.khiin_entries.proofs.key_sequence.lay_part.Goals as goal
use Rattle.khiin_entries.proofs.key_sequence.lay_part.Goals.{After-put_form-end, After-put_form-mid}

module _ (f : After-put_form-mid) where
  abbrev part : List ℕ
  part = f.args.part.now

  abbrev kind : Kind
  kind = f.args.kind

  abbrev before : List ℕ
  before = f.args.forms.now

  abbrev at : ℕ
  at = f.args.at

  abbrev mid : ℕ
  mid = f.put_form-mid.result

  abbrev middle : List ℕ
  middle = f.put_form-mid.new.forms

  abbrev form : Form → Kind → List ℕ
  form x k = form_bytes unicode16 x k part

  -- the plain form is put
  plain : OnePut kind part before at mid middle
  plain = record { room = f.requires; ends = f.put_form-mid.ensures.0; put = f.put_form-mid.ensures.1 }

  one : (row : Row) (toned : Bool) → row ≡ row_one at mid toned → is_toned kind ≡ toned → dot_in part ≡ false → RowOf unicode16 false kind part at before middle row
  one row false e t dot =
      rw e
      (one_row false kind part before middle at (one_front _ _ _ _ plain) (form Plain kind) (one_stands _ _ _ _ plain) mid plain.ends (several_detoned part f.requires.0 kind t false dot) (one_short _ _ _ _ plain).0)
  one row true e t dot =
      rw e
      (one_toned_row false kind part before middle at (one_front _ _ _ _ plain) (form Plain kind) (one_stands _ _ _ _ plain) mid plain.ends (form Plain Detoned) (added_key unicode16 kind (points_of part)) (form_toned part f.requires.0 Plain kind t) (several_toned part f.requires.0 kind t false dot) (one_short _ _ _ _ plain).0)

-- the other form is put behind it
both : (b : After-put_form-end) → TwoPut b.args.kind b.args.part.now b.args.forms.now b.args.at b.put_form-mid.result b.put_form-end.result b.put_form-end.new.forms
both b =
    record {
      middle = b.put_form-mid.new.forms;
      one = record { room = b.requires; ends = b.put_form-mid.ensures.0; put = b.put_form-mid.ensures.1 };
      ends = b.put_form-end.ensures.0;
      put = b.put_form-end.ensures.1;
    }

module _ (f : After-put_form-mid) {end : ℕ} {after : List ℕ} (both : TwoPut (kind f) (part f) (before f) (at f) (mid f) end after) where
  two : (row : Row) (toned : Bool) → row ≡ row_two (at f) (mid f) end toned → is_toned (kind f) ≡ toned → dot_in (part f) ≡ true → RowOf unicode16 false (kind f) (part f) (at f) (before f) after row
  two row false e t dot =
      rw e
      (two_row false (kind f) (part f) (before f) after (at f) (two_front _ _ _ _ both) (form f Plain (kind f)) (two_first _ _ _ _ both) (mid f) (plain f).ends (form f Oo (kind f)) (two_second _ _ _ _ both) end both.ends (several_detoned (part f) f.requires.0 (kind f) t true dot) (two_short _ _ _ _ both).1)
  two row true e t dot =
      rw e
      (two_toned_row false (kind f) (part f) (before f) after (at f) (two_front _ _ _ _ both) (form f Plain (kind f)) (two_first _ _ _ _ both) (mid f) (plain f).ends (form f Oo (kind f)) (two_second _ _ _ _ both) end both.ends
      (form f Plain Detoned) (form f Oo Detoned) (added_key unicode16 (kind f) (points_of (part f))) (form_toned (part f) f.requires.0 Plain (kind f) t) (form_toned (part f) f.requires.0 Oo (kind f) t) (several_toned (part f) f.requires.0 (kind f) t true dot) (two_short _ _ _ _ both).1)

pub put_form-mid-requires : goal.put_form-mid-requires
put_form-mid-requires c = (c.requires.0, first_room c.args.kind c.args.part.now c.args.forms.now c.args.at c.requires)

pub put_form-end-requires : goal.put_form-end-requires
put_form-end-requires c =
    (c.requires.0, (one_short _ _ _ _ (plain (goal.at.put_form-end-requires c).After-put_form-mid)).1)

pub row_two-requires : goal.row_two-requires
row_two-requires c =
    omega (arith, (plain (goal.at.row_two-requires c).After-put_form-mid).ends, (both (goal.at.row_two-requires c).After-put_form-end).ends, two_short _ _ _ _ (both (goal.at.row_two-requires c).After-put_form-end))

pub returns-then-holds_dot : goal.returns-then-holds_dot
returns-then-holds_dot c =
    two (goal.at.returns-then-holds_dot c).After-put_form-mid (both (goal.at.returns-then-holds_dot c).After-put_form-end) c.row_two.result _ c.row_two.ensures (sym c.is_toned.ensures) (sym c.holds_dot.ensures ∙ c.if-holds_dot.true)

pub row_one-requires : goal.row_one-requires
row_one-requires c =
    omega (arith, (plain (goal.at.row_one-requires c).After-put_form-mid).ends, one_short _ _ _ _ (plain (goal.at.row_one-requires c).After-put_form-mid))

pub returns-else-holds_dot : goal.returns-else-holds_dot
returns-else-holds_dot c =
    one (goal.at.returns-else-holds_dot c).After-put_form-mid c.row_one.result _ c.row_one.ensures (sym c.is_toned-else-holds_dot.ensures) (sym c.holds_dot.ensures ∙ c.if-holds_dot.false)
