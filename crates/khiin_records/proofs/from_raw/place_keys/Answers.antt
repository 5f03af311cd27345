use Rattle.std.proofs.lemmas.Result.{err_from_is_err_and}
use mathlib.Core.Path.{◌≡◌, ap, ◌∙◌}
use mathlib.Core.Bool.{true}
use mathlib.Core.List.{List}
use Prim.Native.Nat.{ℕ}
use Rattle.ji.specs.Text.{all_ascii}
use Rattle.ji.specs.Utf8.{encode}
use Rattle.khiin_records.specs.Syllable.{raw, from_raw}
use Rattle.ji.proofs.unicode.Ascii.{ascii_bytes}
use Rattle.khiin_records.proofs.Records.{record_refused, record_done, written_size, raw_is}
use Rattle.khiin_records.proofs.from_raw.place_keys.Goals as goal

raw_bytes : (s : List ℕ) → all_ascii s ≡ true → encode (raw (from_raw s)) ≡ s
raw_bytes s h = ap encode (raw_is s) ∙ ascii_bytes s h

pub returns-in_err-place_bytes : goal.returns-in_err-place_bytes
returns-in_err-place_bytes c =
    let p = err_from_is_err_and c.from_residual.result c.from_residual.ensures.1 in
    let a = c.args in
    rw (p.1, p.2) (λ h. record_refused 0 (from_raw a.keys.now) a.keys.now a.out.now (raw_bytes a.keys.now h) c.in_err-place_bytes.field-0.0 c.place_bytes.new.out c.in_err-place_bytes.ensures)

pub returns : goal.returns
returns c =
    let a = c.args in
    let told = c.in_ok-place_bytes.ensures in
    let n = written_size c.in_ok-place_bytes.field-0.0 a.keys.now c.place_bytes.new.out a.out.now told in
    λ h. record_done 0 (from_raw a.keys.now) a.keys.now a.out.now (raw_bytes a.keys.now h) c.in_ok-place_bytes.field-0.0 c.place_bytes.new.out c.record_of.result told (rw n (c.record_of.ensures h))
