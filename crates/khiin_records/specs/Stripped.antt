-- What the code has of a text that is stripped and taken apart.
use Rattle.std.specs.Prelude.{◌≡◌, List, ℕ, ◌≤◌, length, Result, Ok, Err}
use Rattle.ji.specs.Unicode.{unicode16}
use Rattle.ji.specs.Utf8.{encode}
use Rattle.ji.specs.Reply.{good, bad, check_text}
use Rattle.ji.specs.Lomaji.Strip.{strip}
use Rattle.ji.specs.Lomaji.Khin.{without_khin, khin_in}
use Rattle.ji.specs.declared.reply.Refusal.{Refusal}
use Rattle.khiin_records.specs.declared.stripped.Stripped.{Stripped}

-- s is the text, stripped in a buffer of `size` bytes
pub record StrippedOf (text : List ℕ) (size : ℕ) (s : Stripped) : Type 0 where
  pub points : List ℕ
  pub good : check_text unicode16 text ≡ good points
  pub rest : s.rest.now ≡ encode (without_khin (strip unicode16 points).rest)
  pub short : length s.rest.now ≤ size
  pub tone : s.ending.tone ≡ (strip unicode16 points).tone
  pub khin : s.ending.khin ≡ khin_in (strip unicode16 points).rest

abbrev pub Strips : List ℕ → ℕ → Result Stripped Refusal → Type 0
Strips text size (Ok s) = StrippedOf text size s
Strips text size (Err why) = check_text unicode16 text ≡ bad why
