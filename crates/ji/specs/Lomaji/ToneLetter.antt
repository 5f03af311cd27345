-- The tone letter (document 01, "ji: strip_tone_diacritic", third paragraph).
use Rattle.std.specs.Prelude.{Bool, true, false, ◌&&◌, List, [], ◌∷◌, ℕ, ◌+◌, get_or}
use Rattle.std.proofs.Math.Option.{Option, none, some}
use Prim.Native.String.{String}
use Rattle.ucd.specs.Table.{Table, listed}
use Rattle.ji.specs.Text.{points, lower}
use Rattle.ji.specs.Nfd.{nfd}
use Rattle.ji.specs.Unicode.{to_byte_len}
use Rattle.ji.specs.Reply.{Reply, refused, found, Checked, good, bad, check_text}
use Rattle.std.specs.Prelude.{Some, Option as Found, None, Result, Ok, Err}
use Rattle.ji.specs.declared.reply.Refusal.{Refusal}
use Rattle.ji.specs.declared.unicode.ByteLen.{ByteLen}
use Rattle.ji.specs.declared.unicode.CharLen.{CharLen}

-- "The tone letter is found by patterns in this order": for each letter of a pattern those that it may be, and which of them it is
abbrev pub patterns : List (List String × ℕ)
patterns =
    ("o" ∷ "ae" ∷ "ptkhmni" ∷ [], 1)
    ∷ ("o" ∷ [], 0)
    ∷ ("a" ∷ [], 0)
    ∷ ("e" ∷ [], 0)
    ∷ ("u" ∷ [], 0)
    ∷ ("i" ∷ [], 0)
    ∷ ("n" ∷ "g" ∷ [], 0)
    ∷ ("n" ∷ [], 0)
    ∷ ("m" ∷ [], 0)
    ∷ []

-- "case ignored": the text begins with the letters of a pattern
abbrev pub matches : List String → List ℕ → Bool
matches [] s = true
matches (letters ∷ more) [] = false
matches (letters ∷ more) (x ∷ s) = listed (points letters) (lower x) && matches more s

abbrev pub pick_place : Bool → Option ℕ → Option ℕ → Option ℕ
pick_place true a b = a
pick_place false a b = b

abbrev pub further : ℕ → Option ℕ → Option ℕ
further n none = none
further n (some k) = some (n + k)

abbrev pub or_else : Option ℕ → Option ℕ → Option ℕ
or_else none o = o
or_else (some k) o = some k

-- "each at its first place"
unfoldable pub first_place : List String → List ℕ → Option ℕ
first_place p [] = none
first_place p (x ∷ s) = let later : Option ℕ = further 1 (first_place p s) in pick_place (matches p (x ∷ s)) (some 0) later

-- "The search ends at the first pattern found"
unfoldable pub searched : List (List String × ℕ) → List ℕ → Option ℕ
searched [] s = none
searched (p ∷ ps) s = let later : Option ℕ = searched ps s in or_else (further p.1 (first_place p.0 s)) later

-- the place of the tone letter, in code points
unfoldable pub tone_letter : List ℕ → Option ℕ
tone_letter s = searched patterns s

abbrev pub is_some : Option ℕ → Bool
is_some none = false
is_some (some k) = true

-- "`has_tone_letter` applies it to the NFD"
unfoldable pub has_tone_letter : Table → List ℕ → Bool
has_tone_letter t s = is_some (tone_letter (nfd t s))

-- the pattern that the code found, and its place, as the place of the tone letter
abbrev pub occurrence_place_of : Found (ℕ × ℕ) → Option ℕ
occurrence_place_of (Some p) = some ((get_or patterns p.0 ([], 0)).1 + p.1)
occurrence_place_of None = none

-- a place as the code has it
abbrev pub place_of : Found CharLen → Option ℕ
place_of (Some n) = some n.0
place_of None = none

-- the same, of a place in bytes
abbrev pub byte_place_of : Found ByteLen → Option ℕ
byte_place_of (Some n) = some n.0
byte_place_of None = none

-- ── the calls
-- "no tone letter" is a good answer "with length 0"; a tone letter has length 1 and its position, "counted in bytes"
abbrev pub letter_at : List ℕ → Option ℕ → Reply
letter_at s none = found 0 0
letter_at s (some k) = found 1 (to_byte_len s k)

abbrev pub tone_letter_of : Checked → Reply
tone_letter_of (good s) = letter_at s (tone_letter s)
tone_letter_of (bad why) = refused why []

unfoldable pub tone_letter_call : Table → List ℕ → Reply
tone_letter_call t text = tone_letter_of (check_text t text)

abbrev pub tone_letter_reply : Result (Found ByteLen) Refusal → Reply
tone_letter_reply (Ok (Some n)) = found 1 n.0
tone_letter_reply (Ok None) = found 0 0
tone_letter_reply (Err why) = refused why []

abbrev pub has_letter_reply : Bool → Reply
has_letter_reply true = found 1 0
has_letter_reply false = found 0 0

abbrev pub has_tone_letter_of : Table → Checked → Reply
has_tone_letter_of t (good s) = has_letter_reply (has_tone_letter t s)
has_tone_letter_of t (bad why) = refused why []

unfoldable pub has_tone_letter_call : Table → List ℕ → Reply
has_tone_letter_call t text = has_tone_letter_of t (check_text t text)

abbrev pub has_tone_letter_reply : Result Bool Refusal → Reply
has_tone_letter_reply (Ok true) = found 1 0
has_tone_letter_reply (Ok false) = found 0 0
has_tone_letter_reply (Err why) = refused why []
