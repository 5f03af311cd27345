use Rattle.std.proofs.lemmas.Result.{err_from_is_err_and}
use Rattle.khiin.specs.declared.converter.ToneKeys.{ToneKeys}
use mathlib.Core.Path.{◌≡◌, sym, ap, ◌∙◌}
use mathlib.Core.Bool.{true}
use mathlib.Core.List.{List}
use Prim.Native.Nat.{ℕ, ◌*◌, ◌≤◌}
use lib.ListN.{length, take}
use Rattle.ji.specs.Unicode.{unicode16}
use Rattle.ji.specs.Text.{all_ascii}
use Rattle.ji.specs.Utf8.{encode, decode}
use Rattle.ji.specs.Reply.{Reply, placed, good, check_points, text_call}
use Rattle.ji.specs.Lomaji.Strip.{strip, strip_call, strip_reply, unmarked_tone}
use Rattle.ji.specs.declared.tone.Tone.{Tone}
use Rattle.ji.specs.declared.lomaji.strip.StripResult.{StripResult}
use Rattle.ji.proofs.Writing.{written_length, written_take}
use Rattle.ji.proofs.Replies.{check_within_law, text_refused, text_good}
use Rattle.ji.proofs.unicode.Ascii.{ascii_bytes, ascii_members, ascii_good}
use Rattle.ji.proofs.unicode.Checked.{Passed, text_passed}
use Rattle.ji.proofs.lomaji.keys.Bytes.{stripped_bytes}
use Rattle.ji.proofs.lomaji.strip.Answers.{stripped_inside, stripped_points, Stripping, strip_done, strip_not}
use Rattle.ji.proofs.lomaji.tone_letter.Marks.{letter_stripped}
use Rattle.khiin.specs.Telex.{edit_of, composed_of, edited, step_of, RestIn}
use Rattle.khiin.specs.declared.converter.Edit.{Edit}
use Rattle.khiin.specs.declared.converter.Edit.TheVariants.{Compose}
use Rattle.khiin.proofs.converter.Laws.{step_is, ascii_step}
use native.Mathlib.Omega.{arith}
use Rattle.khiin.proofs.converter.step_in.Goals as goal
use Rattle.khiin.proofs.converter.step_in.Goals.{After-unmarked_tone-tone, After-edit_of-edit}
use Rattle.std.specs.Prelude.{Result, Ok}
use Rattle.ji.specs.declared.reply.Refusal.{Refusal}

module _ (k : ToneKeys) (key : ℕ) (text lent out : List ℕ) (short : length text ≤ 256) where
  abbrev here : List ℕ → Reply
  here l = placed 0 (encode l) out

  -- what is known of the stripped text, its tone and its branch: it is there, has room behind it, and the branch makes the answer of it
  abbrev Known : List ℕ → ℕ → Tone → Edit → Type 0
  Known bytes n tone edit =
      (2 * n ≤ 5 * length text) × (length bytes ≡ length lent)
      × ((h : RestIn bytes n) × (here (edited unicode16 k edit key tone h.rest) ≡ text_call unicode16 (step_of unicode16 k key) text out))

  -- ── an ASCII text was copied
  module _ (copied : List ℕ) (kept : length copied ≡ length lent) (ascii : all_ascii text ≡ true) (same : take (length text) copied ≡ text) where
    ascii_in : RestIn copied (length text)
    ascii_in =
        record {
          rest = text;
          inside = ascii_members text ascii;
          few = omega (arith, short);
          written = same ∙ sym (ascii_bytes text ascii);
        }

    ascii_known : (o : Tone) → o ≡ unmarked_tone text → Known copied (length text) o Compose
    unfolding ascii_in
    ascii_known o is = (
      omega arith,
      kept,
      (
        ascii_in,
        ap (λ (x : Tone). here (composed_of unicode16 k key x text)) is
            ∙ ap here (sym (ascii_step k key text ascii))
            ∙ text_good unicode16 (step_of unicode16 k key) text out text (check_within_law unicode16 text short ∙ ascii_good text ascii),
      ),
    )

  -- ── any other text was stripped into `bytes`, where `before` stood
  module _ (before bytes : List ℕ) (s : Result StripResult Refusal) (called : strip_reply s bytes ≡ strip_call unicode16 text before) where
    -- and the branch is known
    module _ (kept : length before ≡ length lent) (r : StripResult) (is : s ≡ Ok r) where
      stripping : Stripping text before bytes r
      stripping = strip_done text before bytes r (ap (λ (x : Result StripResult Refusal). strip_reply x bytes) (sym is) ∙ called)

      abbrev u : List ℕ
      u = stripping.points

      abbrev rest : List ℕ
      rest = (strip unicode16 u).rest

      whole : Passed unicode16 256 text u
      whole = text_passed text u stripping.good

      bytes_few : 2 * r.len.0 ≤ 5 * length text
      bytes_few = omega (arith, stripping.written.size, stripped_bytes u, ap length whole.written)

      rest_in : RestIn bytes r.len.0
      rest_in =
          record {
            rest = rest;
            inside = stripped_inside u whole.inside;
            few = omega (arith, stripped_points u, ap length whole.written, short);
            written = written_take stripping.written;
          }

      module _ (edit : Edit) (told : (given : List ℕ) → check_points unicode16 (decode text) ≡ good given → edit ≡ edit_of k key r.tone given) where
        edit_is : edit ≡ edit_of k key r.tone u
        edit_is = told u (sym (check_within_law unicode16 text short) ∙ stripping.good)

        finished : here (edited unicode16 k edit key r.tone rest) ≡ text_call unicode16 (step_of unicode16 k key) text out
        unfolding step_of
        finished =
            ap (λ (e : Edit). here (edited unicode16 k e key r.tone rest)) edit_is
            ∙ ap (λ (o : Tone). here (edited unicode16 k (edit_of k key o u) key o rest)) stripping.tone
            ∙ ap here (sym (step_is unicode16 k key u (strip unicode16 u).tone rest (letter_stripped unicode16 u)))
            ∙ text_good unicode16 (step_of unicode16 k key) text out u stripping.good

        stripped_known : Known bytes r.len.0 r.tone edit
        unfolding rest_in
        stripped_known = (bytes_few, written_length stripping.written ∙ kept, (rest_in, finished))

pub copy_ascii-requires : goal.copy_ascii-requires
copy_ascii-requires c = let p = c.requires.2 in omega (arith, p)

-- an ASCII text
known : (c : After-unmarked_tone-tone) → Known c.args.k c.args.key c.args.text.now c.args.bytes.now c.args.out.now c.requires.1 c.copy_ascii.new.bytes (length c.args.text.now) c.unmarked_tone-tone.result Compose
known c =
    let ascii = c.copy_ascii.ensures c.if-copy_ascii.true in
    ascii_known c.args.k c.args.key c.args.text.now c.args.bytes.now c.args.out.now c.requires.1 c.copy_ascii.new.bytes c.copy_ascii.auto.bytes ascii.0 ascii.1 c.unmarked_tone-tone.result c.unmarked_tone-tone.ensures

pub finish-requires : goal.finish-requires
finish-requires c =
    let n = known (goal.at-finish-requires c).After-unmarked_tone-tone in
    let q = c.requires.2 in
    let r = c.requires.3 in
    (omega (arith, n.0, n.1, q), omega (arith, n.0, q, r), omega (arith, n.0, q, r), n.2.0)

pub returns-then-copy_ascii : goal.returns-then-copy_ascii
returns-then-copy_ascii c =
    let n = known (goal.at-returns-then-copy_ascii c).After-unmarked_tone-tone in
    c.finish.ensures n.2.0 ∙ n.2.1

pub returns-in_err-stripped : goal.returns-in_err-stripped
returns-in_err-stripped c =
    let p = err_from_is_err_and c.from_residual.result c.from_residual.ensures.1 in
    let a = c.args in
    let why = c.in_err-stripped.field-0.0 in
    let room : 5 * length a.text.now ≤ 2 * length c.copy_ascii.new.bytes = let q = c.requires.2 in omega (arith, q, c.copy_ascii.auto.bytes) in
    rw (p.1, p.2)
    (text_refused unicode16 (step_of unicode16 a.k a.key) a.text.now a.out.now why
    (strip_not a.text.now c.copy_ascii.new.bytes c.strip_tone_diacritic.new.out why room
    (ap (λ (x : Result StripResult Refusal). strip_reply x c.strip_tone_diacritic.new.out) (sym c.in_err-stripped.was) ∙ c.strip_tone_diacritic.ensures)))

-- any other
other : (c : After-edit_of-edit) → Known c.args.k c.args.key c.args.text.now c.args.bytes.now c.args.out.now c.requires.1 c.strip_tone_diacritic.new.out c.in_ok-stripped.stripped.len.0 c.in_ok-stripped.stripped.tone c.edit_of-edit.result
other c =
    stripped_known c.args.k c.args.key c.args.text.now c.args.bytes.now c.args.out.now c.requires.1 c.copy_ascii.new.bytes c.strip_tone_diacritic.new.out
    c.strip_tone_diacritic.result c.strip_tone_diacritic.ensures c.copy_ascii.auto.bytes c.in_ok-stripped.stripped c.in_ok-stripped.was
    c.edit_of-edit.result c.edit_of-edit.ensures

pub finish-requires-2 : goal.finish-requires-2
finish-requires-2 c =
    let n = other (goal.at-finish-requires-2 c).After-edit_of-edit in
    let q = c.requires.2 in
    let r = c.requires.3 in
    (omega (arith, n.0, n.1, q), omega (arith, n.0, q, r), omega (arith, n.0, q, r), n.2.0)

pub returns : goal.returns
returns c =
    let n = other (goal.at-returns c).After-edit_of-edit in
    c.finish-2.ensures n.2.0 ∙ n.2.1
