-- Replies (document 01, "Replies, by who causes them").
use Rattle.std.specs.Prelude.{Bool, true, false, List, [], ◌++◌, ℕ, leb, length, drop}
use Rattle.std.proofs.Math.Option.{Option, none, some}
use Rattle.ucd.specs.Table.{Table}
use Rattle.ji.specs.Utf8.{decode, encode}
use Rattle.ji.specs.Unicode.{members}
use Rattle.ji.specs.declared.reply.Refusal.{Refusal}
use Rattle.ji.specs.declared.reply.Refusal.TheVariants.{Argument, TooLong, IllFormed, OutsideTable, Parts, Position, NoRoom}
use Rattle.std.specs.Prelude.{Result, Ok, Err}
use Rattle.ji.specs.declared.unicode.ByteLen.{ByteLen}

-- the numbers of the refusals
abbrev pub refusal_number : Refusal → ℕ
refusal_number Argument = 1
refusal_number TooLong = 2
refusal_number IllFormed = 3
refusal_number OutsideTable = 4
refusal_number Parts = 5
refusal_number Position = 6
refusal_number NoRoom = 7

-- what a call replies: 0 or the refusal's number, the numbers that it gives, and the bytes of the lent buffer as it leaves them.
-- A number that a call does not give is 0, and the buffer of a call without one is empty
pub record Reply : Type 0 where
  pub code : ℕ
  pub length : ℕ
  pub count : ℕ
  pub body : ℕ
  pub tone : ℕ
  pub khin : ℕ
  pub position : ℕ
  pub buffer : List ℕ

-- "Every refusal has length and count 0", and "changes no byte of the caller's buffers" (demand 1)
abbrev pub refused : Refusal → List ℕ → Reply
refused why buffer =
    record { code = refusal_number why; length = 0; count = 0; body = 0; tone = 0; khin = 0; position = 0; buffer = buffer }

-- "Success leaves bytes behind the output unchanged"
abbrev pub over : List ℕ → List ℕ → List ℕ
over output buffer = output ++ drop (length output) buffer

-- an output text and the tone beside it
abbrev pub answered : ℕ → List ℕ → List ℕ → Reply
answered tone output buffer =
    record { code = 0; length = length output; count = 0; body = 0; tone = tone; khin = 0; position = 0; buffer = over output buffer }

-- an answer without a text: a length, and a position
abbrev pub found : ℕ → ℕ → Reply
found length position =
    record { code = 0; length = length; count = 0; body = 0; tone = 0; khin = 0; position = position; buffer = [] }

abbrev pub pick_reply : Bool → Reply → Reply → Reply
pick_reply true a b = a
pick_reply false a b = b

-- "7: the whole output is longer than the lent buffer"
abbrev pub placed : ℕ → List ℕ → List ℕ → Reply
placed tone output buffer = pick_reply (leb (length output) (length buffer)) (answered tone output buffer) (refused NoRoom buffer)

-- a text that a writer hands in: its code points, or why it is refused
pub data Checked : Type 0 where
  good : List ℕ → Checked
  bad : Refusal → Checked

abbrev pub pick_checked : Bool → Checked → Checked → Checked
pick_checked true a b = a
pick_checked false a b = b

-- "3: ill-formed UTF-8 (Unicode table 3-7)"; "4: well formed, but a code point outside the table"
abbrev pub check_points : Table → Option (List ℕ) → Checked
check_points t none = bad IllFormed
check_points t (some s) = pick_checked (members t s) (good s) (bad OutsideTable)

-- "2: text above 256 bytes (a dictionary entry: above 1,024)"
unfoldable pub check_within : Table → ℕ → List ℕ → Checked
check_within t limit s = pick_checked (leb (length s) limit) (check_points t (decode s)) (bad TooLong)

unfoldable pub check_text : Table → List ℕ → Checked
check_text t s = check_within t 256 s

-- whether it is good, as the code has it
abbrev pub verdict_of : Checked → Result (Unit {0}) Refusal
verdict_of (good s) = Ok tt
verdict_of (bad why) = Err why

-- ── a call that gives one text
-- its reply to a text that was checked, and to the bytes of a text; f is what the call makes of its code points
abbrev pub text_of : (List ℕ → List ℕ) → Checked → List ℕ → Reply
text_of f (good s) buffer = placed 0 (encode (f s)) buffer
text_of f (bad why) buffer = refused why buffer

unfoldable pub text_call : Table → (List ℕ → List ℕ) → List ℕ → List ℕ → Reply
text_call t f text buffer = text_of f (check_text t text) buffer

-- the code's answer, and what it leaves in the buffer, as a reply
abbrev pub text_reply : Result ByteLen Refusal → List ℕ → Reply
text_reply (Ok n) buffer = record { code = 0; length = n.0; count = 0; body = 0; tone = 0; khin = 0; position = 0; buffer = buffer }
text_reply (Err why) buffer = refused why buffer
