use Rattle.std.proofs.lemmas.Result.{err_from_is_err_and}
-- `lomaji::keys::keys_with` meets its contract: the text is stripped, and its letters are written as they are or respelled, with the key of its tone.
use mathlib.Core.Path.{◌≡◌, sym, ap, ◌∙◌}
use mathlib.Core.Bool.{true}
use mathlib.Core.List.{List, ◌++◌}
use Prim.Native.Nat.{ℕ, ◌+◌, ◌*◌, ◌≤◌, ◌<◌}
use lib.ListN.{length, take, drop}
use Rattle.ucd.specs.Unicode16.{unicode16}
use Rattle.ji.specs.Utf8.{encode}
use Rattle.ji.specs.Unicode.{members}
use Rattle.ji.specs.Text.{all_ascii}
use Rattle.ji.specs.Tone.{tone_number}
use Rattle.ji.specs.Reply.{placed, text_call}
use Rattle.ji.specs.Lomaji.Strip.{strip, strip_reply, strip_call}
use Rattle.ji.specs.Lomaji.Keys.{rules_of, respell, tone_keys, keys, key_text}
use Rattle.ji.specs.declared.lomaji.strip.StripResult.{StripResult}
use Rattle.ji.specs.declared.lomaji.keys.Form.{Form}
use Rattle.ji.specs.declared.lomaji.keys.Kind.{Kind}
use Rattle.ji.specs.declared.reply.Refusal.{Refusal}
use Rattle.ji.proofs.Writing.{written_take}
use Rattle.ji.proofs.Replies.{text_refused, text_good}
use Rattle.ji.proofs.unicode.Checked.{Passed, text_passed}
use Rattle.ji.proofs.lomaji.strip.Answers.{stripped_inside, Stripping, strip_done, strip_not}
use Rattle.ji.proofs.lomaji.keys.Bytes.{stripped_bytes}
use Rattle.ji.proofs.lomaji.keys.Laws.{keys_are, ascii_keys}
use native.Mathlib.Omega.{arith}
use Rattle.ji.proofs.lomaji.keys.keys_with.Goals as goal
use Rattle.std.specs.Prelude.{Result, Option, Ok}

-- the text was stripped
module _ (text before after : List ℕ) (r : StripResult) {answer : Result StripResult Refusal} (was : answer ≡ Ok r) (told : strip_reply answer after ≡ strip_call unicode16 text before) where
  stripping : Stripping text before after r
  stripping = strip_done text before after r (ap (λ (x : Result StripResult Refusal). strip_reply x after) (sym was) ∙ told)

  abbrev u : List ℕ
  u = stripping.points

  abbrev rest : List ℕ
  rest = (strip unicode16 u).rest

  whole : Passed unicode16 256 text u
  whole = text_passed text u stripping.good

  inside : members unicode16 rest ≡ true
  inside = stripped_inside u whole.inside

  -- there is a place behind the stripped text
  below : (room : ℕ) → 5 * length text + 2 ≤ 2 * room → r.len.0 < room
  below room h = omega (arith, stripping.written.size, stripped_bytes u, ap length whole.written)

  part_is : take r.len.0 after ≡ encode rest
  part_is = written_take stripping.written

  -- its keys are the answer
  module _ (form : Form) (kind : Kind) (key : Option ℕ) (key_is : key_text key ≡ take 1 (drop (tone_number r.tone) (tone_keys kind))) (out : List ℕ) where
    answered : placed 0 (encode (respell (rules_of form) rest ++ key_text key)) out ≡ text_call unicode16 (keys unicode16 form kind) text out
    answered =
        ap (λ (l : List ℕ). placed 0 (encode l) out) (keys_are form kind u r.tone (key_text key) stripping.tone key_is)
        ∙ text_good unicode16 (keys unicode16 form kind) text out u stripping.good

    as_they_are : all_ascii (take r.len.0 after) ≡ true → placed 0 (take r.len.0 after ++ key_text key) out ≡ text_call unicode16 (keys unicode16 form kind) text out
    as_they_are low =
        ap (λ (l : List ℕ). placed 0 l out) (ascii_keys form kind (tone_number r.tone) rest (take r.len.0 after) (key_text key) inside part_is low key_is)
        ∙ answered

pub shared_whole_as_front-is_ascii : goal.shared_whole_as_front-is_ascii
shared_whole_as_front-is_ascii g c = let k = below c.args.text.now _ c.strip_tone_diacritic.new.out c.in_ok-stripped.stripped c.in_ok-stripped.was c.strip_tone_diacritic.ensures g.row.BYTES c.requires.bytes.0 in (omega arith, omega arith)

pub place_toned-requires : goal.place_toned-requires
place_toned-requires g c =
    let stripped = c.strip_tone_diacritic in
    let k = below c.args.text.now _ stripped.new.out c.in_ok-stripped.stripped c.in_ok-stripped.was stripped.ensures g.row.BYTES c.requires.bytes.0 in
    omega (arith, stripped.auto.out)

pub returns-then-is_ascii : goal.returns-then-is_ascii
returns-then-is_ascii g c =
    let a = c.args in
    c.place_toned.ensures
    ∙ as_they_are a.text.now _ _ _ c.in_ok-stripped.was c.strip_tone_diacritic.ensures a.form a.kind c.tone_key-key.result c.tone_key-key.ensures a.out.now (sym c.is_ascii.ensures ∙ c.if-is_ascii.true)

pub returns-in_err-stripped : goal.returns-in_err-stripped
returns-in_err-stripped g c =
    let p = err_from_is_err_and c.from_residual.result c.from_residual.ensures.1 in
    let a = c.args in
    let stripped = c.strip_tone_diacritic in
    rw (p.1, p.2) (text_refused unicode16 (keys unicode16 a.form a.kind) a.text.now a.out.now c.in_err-stripped.field-0.0
    (strip_not a.text.now _ stripped.new.out c.in_err-stripped.field-0.0 (omega arith)
    (ap (λ (x : Result StripResult Refusal). strip_reply x stripped.new.out) (sym c.in_err-stripped.was) ∙ stripped.ensures)))

pub returns-else-is_ascii : goal.returns-else-is_ascii
returns-else-is_ascii g c =
    let a = c.args in
    let was = c.in_ok-stripped.was in
    let told = c.strip_tone_diacritic.ensures in
    c.place_respelled.ensures (rest a.text.now _ _ _ was told) (inside a.text.now _ _ _ was told) (part_is a.text.now _ _ _ was told)
    ∙ answered a.text.now _ _ _ was told a.form a.kind c.tone_key-key.result c.tone_key-key.ensures a.out.now
