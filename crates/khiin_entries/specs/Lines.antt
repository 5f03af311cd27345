-- How the listing is written: lines from the arrays of an entry, as many as go into the buffer.
use Rattle.std.specs.Prelude.{◌≡◌, List, [], ◌∷◌, ◌++◌, ℕ, ◌+◌, ◌-◌, ◌≤◌, ◌<◌, length, take, drop}
use Rattle.ji.specs.Unicode.{unicode16, pick_number}
use Rattle.ji.specs.Text.{point}
use Rattle.ji.specs.Utf8.{bytes}
use Rattle.ji.specs.Reply.{refusal_number}
use Rattle.ji.specs.Lomaji.Dot.{dot_in}
use Rattle.ji.specs.declared.reply.Refusal.{Refusal}
use Rattle.ji.specs.declared.lomaji.keys.Kind.{Kind}
use Rattle.ji.specs.declared.lomaji.keys.Kind.TheVariants.{Detoned, Numeric, Telex}
use Rattle.khiin_entries.specs.declared.layout.Layout.{Layout}
use Rattle.khiin_entries.specs.KeySequence.{keyings}
use Rattle.khiin_entries.specs.Choices.{points_of, up_to, count_in, keying_in}
use Rattle.khiin_entries.specs.Listing.{decimal, spaced, keying_lines, together, fitting, going_in}

-- ── one line
-- a number and a byte behind it
unfoldable pub number_then : ℕ → ℕ → List ℕ
number_then n last = decimal n ++ (last ∷ [])

-- the header's line, by its numbers
unfoldable pub header_line : List ℕ → List ℕ
header_line counts = spaced counts ++ bytes "\n"

-- the line of a refusal
unfoldable pub refusal_line : Refusal → List ℕ
refusal_line why = bytes "refused " ++ (decimal (refusal_number why) ++ bytes "\n")

-- how many of these parts, in bytes, hold 0358
unfoldable pub dotted_in : List (List ℕ) → ℕ
dotted_in [] = 0
dotted_in (w ∷ ws) = pick_number (dot_in w) 1 0 + dotted_in ws

-- the letter of a kind
abbrev pub letter_of : Kind → ℕ
letter_of Numeric = point "N"
letter_of Telex = point "T"
letter_of Detoned = point "D"

-- the line of the keying at a position: the kind's letter, the position and the keying, with a space between neighbours
unfoldable pub line_in : ℕ → Layout → ℕ → List ℕ
line_in letter layout position =
    (letter ∷ 0x20 ∷ [])
    ++ (number_then position 0x20 ++ (keying_in layout.forms.now layout.choices.now.offsets layout.choices.now.lengths layout.choices.now.radices layout.parts position ++ (0x0A ∷ [])))

-- the lines of a kind
unfoldable pub lines_in : ℕ → Layout → List (List ℕ)
lines_in letter layout = up_to (line_in letter layout) (count_in layout.choices.now.radices layout.parts)

-- ── many lines
-- `text` stands from `at` on and ends at `end`; before and behind it the buffer is as it was
pub record Put (before after : List ℕ) (at : ℕ) (text : List ℕ) (end : ℕ) : Type 0 where
  pub is : after ≡ take at before ++ (text ++ drop end before)
  pub ends : end ≡ at + length text
  pub fits : end ≤ length before

-- of these lines, those from number `from` on, as many as go in
unfoldable pub shown_text : List (List ℕ) → ℕ → ℕ → List ℕ
shown_text ls from room = together (going_in (drop from ls) room)

-- they were written at `at`: `next` is the number of the next line, and `end` the place behind them
pub record Shown (ls : List (List ℕ)) (from at : ℕ) (before after : List ℕ) (next end : ℕ) : Type 0 where
  pub count : next ≡ from + fitting (drop from ls) (length before - at)
  pub text : Put before after at (shown_text ls from (length before - at)) end

-- of a longer listing these lines start with number `first`, and the next line to be written is number `next`. Where that is a line before
-- them, which did not go in, nothing is written
pub record Following (ls : List (List ℕ)) (first next at : ℕ) (before after : List ℕ) (next' at' : ℕ) : Type 0 where
  pub early : next < first → (next' ≡ next) × (at' ≡ at) × (after ≡ before)
  pub late : first ≤ next → (first ≤ next') × Shown ls (next - first) at before after (next' - first) at'

-- ── a good entry's lines
-- those of a kind
unfoldable pub kind_lines : Kind → List ℕ → List (List ℕ)
kind_lines kind entry = keying_lines kind 0 (keyings unicode16 kind (points_of entry))

-- of these lines those from number `from` on were written, as many as go in, from the buffer's front on; `lines` is how many there are
pub record Reached (ls : List (List ℕ)) (from : ℕ) (before after : List ℕ) (next end lines : ℕ) : Type 0 where
  pub written : Shown ls from 0 before after next end
  pub count : lines ≡ length ls
