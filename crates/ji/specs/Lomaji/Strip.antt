-- `strip_tone_diacritic` (document 01, "ji: strip_tone_diacritic").
use Rattle.std.specs.Prelude.{Bool, false, ◌||◌, List, [], ◌∷◌, map, ℕ, ◌-◌, eqb, length, drop}
use Rattle.ucd.specs.Table.{Table, pick_text, same}
use Rattle.ji.specs.Text.{lower}
use Rattle.ji.specs.Utf8.{encode, bytes}
use Rattle.ji.specs.Nfd.{nfd}
use Rattle.ji.specs.Tone.{pick_tone, is_tone, tone_number}
use Rattle.ji.specs.Reply.{Reply, refused, placed, Checked, good, bad, check_text}
use Rattle.ji.specs.declared.tone.Tone.{Tone}
use Rattle.ji.specs.declared.tone.Tone.TheVariants.{None, T1, T2, T3, T4, T5, T6, T7, T8, T9}
use Rattle.std.specs.Prelude.{Result, Ok, Err}
use Rattle.ji.specs.declared.reply.Refusal.{Refusal}
use Rattle.ji.specs.declared.lomaji.strip.StripResult.{StripResult}

-- "drop the marks 0301 (T2), 0300 (T3), 0302 (T5), 0303 (T6), 0304 (T7), 030D (T8), 0306 (T9)"
abbrev pub tone_marks : List (ℕ × Tone)
tone_marks = (0x0301, T2) ∷ (0x0300, T3) ∷ (0x0302, T5) ∷ (0x0303, T6) ∷ (0x0304, T7) ∷ (0x030D, T8) ∷ (0x0306, T9) ∷ []

abbrev pub tone_in : List (ℕ × Tone) → ℕ → Tone
tone_in [] c = None
tone_in (m ∷ ms) c = pick_tone (eqb m.0 c) m.1 (tone_in ms c)

abbrev pub mark_in : List (ℕ × Tone) → ℕ → Bool
mark_in [] c = false
mark_in (m ∷ ms) c = eqb m.0 c || mark_in ms c

-- the tone of a mark, None of any other code point
unfoldable pub mark_tone : ℕ → Tone
mark_tone c = tone_in tone_marks c

unfoldable pub is_tone_mark : ℕ → Bool
is_tone_mark c = mark_in tone_marks c

-- "keep the rest in order"
unfoldable pub without_marks : List ℕ → List ℕ
without_marks [] = []
without_marks (c ∷ s) = pick_text (is_tone_mark c) (without_marks s) (c ∷ without_marks s)

-- the marks that are dropped, in order
unfoldable pub dropped_marks : List ℕ → List ℕ
dropped_marks [] = []
dropped_marks (c ∷ s) = pick_text (is_tone_mark c) (c ∷ dropped_marks s) (dropped_marks s)

-- "The last mark dropped gives the tone"; `otherwise` is the tone without one
unfoldable pub last_tone : Tone → List ℕ → Tone
last_tone otherwise [] = otherwise
last_tone otherwise (m ∷ ms) = last_tone (mark_tone m) ms

-- "the lowercased rest ends in h, p, t, k, hnn, h+207F or h+1D3A, which means comparing the tail with seven fixed endings"
abbrev pub stop_endings : List (List ℕ)
stop_endings = bytes "h" ∷ bytes "p" ∷ bytes "t" ∷ bytes "k" ∷ bytes "hnn" ∷ bytes "hⁿ" ∷ bytes "hᴺ" ∷ []

-- the last bytes of s, in lower case, are e
unfoldable pub ends_in : List ℕ → List ℕ → Bool
ends_in e s = same (map lower (drop (length s - length e) s)) e

abbrev pub ends_in_any : List (List ℕ) → List ℕ → Bool
ends_in_any [] s = false
ends_in_any (e ∷ es) s = ends_in e s || ends_in_any es s

-- "Without one it is T4 if the lowercased rest ends in .., otherwise T1"; s are the bytes of the rest
unfoldable pub unmarked_tone : List ℕ → Tone
unmarked_tone s = pick_tone (ends_in_any stop_endings s) T4 T1

-- `strip_tone_diacritic` of a text: the stripped text and the tone
pub record Stripped : Type 0 where
  pub rest : List ℕ
  pub tone : Tone

-- of a text in NFD
unfoldable pub stripped : List ℕ → Stripped
stripped s = record { rest = without_marks s; tone = last_tone (unmarked_tone (encode (without_marks s))) (dropped_marks s) }

abbrev pub strip : Table → List ℕ → Stripped
strip t s = stripped (nfd t s)

-- ── the call
-- the tone of the last mark, or the other where there was none
abbrev pub tone_or : Tone → Tone → Tone
tone_or last other = pick_tone (is_tone last) last other

-- its reply to a text in NFD
abbrev pub stripped_reply : List ℕ → List ℕ → Reply
stripped_reply s buffer = placed (tone_number (stripped s).tone) (encode (stripped s).rest) buffer

-- its reply to a text that was checked, and to the bytes of a text
abbrev pub strip_of : Table → Checked → List ℕ → Reply
strip_of t (good s) buffer = stripped_reply (nfd t s) buffer
strip_of t (bad why) buffer = refused why buffer

unfoldable pub strip_call : Table → List ℕ → List ℕ → Reply
strip_call t text buffer = strip_of t (check_text t text) buffer

-- the code's answer, and what it leaves in the buffer, as a reply
abbrev pub strip_reply : Result StripResult Refusal → List ℕ → Reply
strip_reply (Ok r) buffer =
    record { code = 0; length = r.len.0; count = 0; body = 0; tone = tone_number r.tone; khin = 0; position = 0; buffer = buffer }
strip_reply (Err why) buffer = refused why buffer
