-- `key_sequence::lay_single` meets its contract: both forms stand in the buffer, and the row has one of them or both.
use mathlib.Core.Path.{◌≡◌, sym, ap₂, ◌∙◌, subst}
use mathlib.Core.Bool.{Bool, true, false}
use mathlib.Core.List.{List}
use Prim.Native.Nat.{ℕ, ◌-◌, ◌≤◌}
use lib.ListN.{length, take, drop}
use Rattle.ji.specs.Unicode.{unicode16, same}
use Rattle.ji.specs.declared.lomaji.keys.Form.TheVariants.{Plain, Oo}
use Rattle.khiin_entries.specs.Choices.{form_bytes, row_one, row_two, RowOf}
use Rattle.khiin_entries.specs.declared.key_sequence.Row.{Row}
use Rattle.std.specs.Cmp.Lexicographic.{pointwise}
use lib.Dec.{eqb}
use Rattle.khiin_entries.proofs.key_sequence.Forms.{same_pointwise, single_one, single_two}
use Rattle.khiin_entries.proofs.key_sequence.Rows.{cut, one_row, two_row, first_room, one_short, TwoPut, two_length, two_first, two_second, two_front, two_short}
use native.Mathlib.Omega.{arith}
use Rattle.khiin_entries.proofs.key_sequence.lay_single.Goals as goal
use Rattle.khiin_entries.proofs.key_sequence.lay_single.Goals.{After-put_form-end}

module _ (b : After-put_form-end) where
  abbrev part : List ℕ
  part = b.args.part.now

  abbrev before : List ℕ
  before = b.args.forms.now

  abbrev at : ℕ
  at = b.args.at

  abbrev mid : ℕ
  mid = b.put_form-mid.result

  abbrev end : ℕ
  end = b.put_form-end.result

  abbrev after : List ℕ
  after = b.put_form-end.new.forms

  abbrev p : List ℕ
  p = form_bytes unicode16 Plain b.args.kind part

  abbrev o : List ℕ
  o = form_bytes unicode16 Oo b.args.kind part

  -- both forms are put
  both : TwoPut b.args.kind part before at mid end after
  both =
      record {
        middle = b.put_form-mid.new.forms;
        one = record { room = b.requires; ends = b.put_form-mid.ensures.0; put = b.put_form-mid.ensures.1 };
        ends = b.put_form-end.ensures.0;
        put = b.put_form-end.ensures.1;
      }

  ordered : (at ≤ mid) × (mid ≤ end) × (end ≤ length after) × (end ≤ 65535)
  ordered = (omega (arith, b.put_form-mid.ensures.0), (two_short _ _ _ _ both).0, omega (arith, (two_short _ _ _ _ both).2, two_length _ _ _ _ both), (two_short _ _ _ _ both).3)

  -- what the comparison says
  compared : (r : Bool) → r ≡ pointwise eqb (take (mid - at) (drop at after)) (take (end - mid) (drop mid after)) → same p o ≡ r
  compared r e =
      sym (e ∙ same_pointwise _ _ ∙ ap₂ same (cut (two_first _ _ _ _ both) (mid - at) (omega (arith, b.put_form-mid.ensures.0))) (cut (two_second _ _ _ _ both) (end - mid) (omega (arith, b.put_form-end.ensures.0))))

  one : (row : Row) → row ≡ row_one at mid false → same p o ≡ true → RowOf unicode16 true b.args.kind part at before after row
  one row e same =
      subst (λ (r : Row). RowOf unicode16 true b.args.kind part at before after r) (sym e)
      (one_row true _ part before after at (two_front _ _ _ _ both) p (two_first _ _ _ _ both) mid b.put_form-mid.ensures.0 (single_one part b.requires.0 b.args.kind same) (one_short _ _ _ _ both.one).0)

  two : (row : Row) → row ≡ row_two at mid end false → same p o ≡ false → RowOf unicode16 true b.args.kind part at before after row
  two row e differ =
      subst (λ (r : Row). RowOf unicode16 true b.args.kind part at before after r) (sym e)
      (two_row true _ part before after at (two_front _ _ _ _ both) p (two_first _ _ _ _ both) mid b.put_form-mid.ensures.0 o (two_second _ _ _ _ both) end b.put_form-end.ensures.0 (single_two part b.requires.0 b.args.kind differ) (two_short _ _ _ _ both).1)

pub put_form-mid-requires : goal.put_form-mid-requires
put_form-mid-requires c = (c.requires.0, first_room c.args.kind c.args.part.now c.args.forms.now c.args.at c.requires)

pub put_form-end-requires : goal.put_form-end-requires
put_form-end-requires c =
    (c.requires.0, (one_short c.args.kind c.args.part.now c.args.forms.now c.args.at (record { room = c.requires; ends = c.put_form-mid.ensures.0; put = c.put_form-mid.ensures.1 })).1)

pub row_one-requires : goal.row_one-requires
row_one-requires c = omega (arith, ordered (goal.at.row_one-requires c).After-put_form-end)

pub returns-then-eq : goal.returns-then-eq
returns-then-eq c =
    one (goal.at.returns-then-eq c).After-put_form-end c.row_one.result c.row_one.ensures (compared (goal.at.returns-then-eq c).After-put_form-end _ c.eq.ensures ∙ c.if-eq.true)

pub row_two-requires : goal.row_two-requires
row_two-requires c = omega (arith, ordered (goal.at.row_two-requires c).After-put_form-end)

pub returns-else-eq : goal.returns-else-eq
returns-else-eq c =
    two (goal.at.returns-else-eq c).After-put_form-end c.row_two.result c.row_two.ensures (compared (goal.at.returns-else-eq c).After-put_form-end _ c.eq.ensures ∙ c.if-eq.false)
