-- What the code has of a record: its numbers. The text of the raw input stands in the lent buffer.
use Rattle.std.specs.Prelude.{◌≡◌, ℕ, ◌≤◌, length, Result, Ok, Err}
use Rattle.ji.specs.Utf8.{encode}
use Rattle.ji.specs.declared.reply.Refusal.{Refusal}
use Rattle.ji.specs.declared.reply.Refusal.TheVariants.{Position}
use Rattle.khiin_records.specs.Syllable.{Syllable}
use Rattle.khiin_records.specs.declared.Record.{Record}

-- r has the numbers of the record s, one of `count`, whose raw input has `size` bytes
pub record RecordOf (count : ℕ) (s : Syllable) (size : ℕ) (r : Record) : Type 0 where
  pub len : r.len.0 ≡ size
  pub count_is : r.count ≡ count
  pub body : r.body.0 ≡ length (encode s.body)
  pub tone : r.tone ≡ s.tone
  pub khin : r.khin ≡ s.khin

-- the answer of a writer whose buffer has room for any candidate: its raw input is within `size` bytes, or there is none at the position
abbrev pub Roomy : ℕ → Result Record Refusal → Type 0
Roomy size (Ok r) = r.len.0 ≤ size
Roomy size (Err why) = why ≡ Position
