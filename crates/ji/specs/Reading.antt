-- What the reader of a text does with its buffer of code points: the text is checked while it is read.
use Rattle.std.specs.Prelude.{◌≡◌, Bool, true, false, List, [], ◌∷◌, length, ℕ, ◌*◌, ◌/◌, ◌≤◌, ◌<◌, leb}
use Rattle.ucd.specs.Table.{Table, pick_text}
use Rattle.ji.specs.Written.{Written}
use Rattle.ji.specs.Utf8.{decode}
use Rattle.ji.specs.Unicode.{accepted, spread}
use Rattle.ji.specs.Nfd.{nfd}
use Rattle.ji.specs.Reply.{Reply, refused, over, placed, Checked, good, bad, check_points, check_text}
use Rattle.std.proofs.Math.Option.{Option, none, some}
use Rattle.ji.specs.declared.reply.Refusal.{Refusal}
use Rattle.ji.specs.declared.reply.Refusal.TheVariants.{IllFormed, OutsideTable, NoRoom}
use Rattle.ji.specs.declared.unicode.Spread.{Spread}
use Rattle.ji.specs.declared.unicode.Spread.TheVariants.{One, Two, Three}
use Rattle.std.specs.Prelude.{Result, Ok, Err}
use Rattle.ji.specs.declared.unicode.CharLen.{CharLen}

-- one code point, or the few that it decomposes to
abbrev pub spread_text : Spread → List ℕ
spread_text (One a) = a ∷ []
spread_text (Two a b) = a ∷ b ∷ []
spread_text (Three a b c) = a ∷ b ∷ c ∷ []

-- why a text is refused whose next code point is outside the table, by what the rest decodes to
abbrev pub fault_in : Option (List ℕ) → Refusal
fault_in none = IllFormed
fault_in (some s) = OutsideTable

-- the code points of the bytes s, as they are or fully decomposed, stand in the buffer; of a text that is refused, those before the fault
abbrev pub Reading : Table → Bool → List ℕ → List ℕ → List ℕ → Result CharLen Refusal → Type 0
Reading t decomposed s before after (Ok n) = (u : List ℕ) × (check_points t (decode s) ≡ good u) × Written before after n.0 (spread t decomposed u)
Reading t decomposed s before after (Err why) =
    (check_points t (decode s) ≡ bad why) × Written before after (length (spread t decomposed (accepted t s))) (spread t decomposed (accepted t s))

-- the same for a text as it is, of any length; one that the buffer might not hold is not read
abbrev pub PointsReading : Table → List ℕ → List ℕ → List ℕ → Result CharLen Refusal → Type 0
PointsReading t s before after answer =
    (length s ≤ length before / 3 * 2 → Reading t false s before after answer)
    × (length before / 3 * 2 < length s → (answer ≡ Err NoRoom) × (after ≡ before))

-- a text that is read without a buffer: how many code points it has, all of them accepted
abbrev pub Counting : Table → List ℕ → Result CharLen Refusal → Type 0
Counting t s (Ok n) = (u : List ℕ) × (check_points t (decode s) ≡ good u) × (accepted t s ≡ u) × (n.0 ≡ length u)
Counting t s (Err why) = check_points t (decode s) ≡ bad why

-- ── the calls that give code points: the reply's length and buffer are in code points
abbrev pub points_reply : Result CharLen Refusal → List ℕ → Reply
points_reply (Ok n) buffer = record { code = 0; length = n.0; count = 0; body = 0; tone = 0; khin = 0; position = 0; buffer = buffer }
points_reply (Err why) buffer = refused why buffer

-- the code points of a text that was checked
abbrev pub points_of : Checked → List ℕ → Reply
points_of (good s) buffer = placed 0 s buffer
points_of (bad why) buffer = refused why buffer

-- 3 and 4 of the bytes, 7 of the buffer
abbrev pub points_call : Table → List ℕ → List ℕ → Reply
points_call t text buffer = points_of (check_points t (decode text)) buffer

-- the code points of a text that is put into NFD stand in the buffer; a text that is too long is not read
abbrev pub NfdReading : Table → List ℕ → List ℕ → List ℕ → Result CharLen Refusal → Type 0
NfdReading t s before after (Ok n) = (u : List ℕ) × (check_text t s ≡ good u) × Written before after n.0 (nfd t u)
NfdReading t s before after (Err why) =
    (check_text t s ≡ bad why) × (after ≡ pick_text (leb (length s) 256) (over (spread t true (accepted t s)) before) before)
