-- What the program `keylist` prints of an entry (document 01, "Program `keylist`"), as lines.
use Rattle.std.specs.Prelude.{List, [], ◌∷◌, ◌++◌, ℕ, zero, suc, ◌+◌, ◌-◌, ◌/◌, ◌%◌, leb, ltb, length, take, drop}
use Rattle.ji.specs.Unicode.{Table, pick_number}
use Rattle.ji.specs.Utf8.{encode, bytes}
use Rattle.ji.specs.Reply.{Checked, good, bad, refusal_number}
use Rattle.ji.specs.declared.lomaji.keys.Kind.{Kind}
use Rattle.ji.specs.declared.lomaji.keys.Kind.TheVariants.{Detoned, Numeric, Telex}
use Rattle.khiin_entries.specs.KeySequence.{split, holds_dot, keyings, check_entry}

-- a number in decimal: the last k digits, then as many as it has
abbrev pub last_digits : ℕ → ℕ → List ℕ
last_digits zero n = []
last_digits (suc k) n = last_digits k (n / 10) ++ ((48 + n % 10) ∷ [])

-- how many digits n has; k bounds them
abbrev pub digit_count : ℕ → ℕ → ℕ
digit_count zero n = 1
digit_count (suc k) n = pick_number (ltb n 10) 1 (1 + digit_count k (n / 10))

unfoldable pub decimal : ℕ → List ℕ
decimal n = last_digits (digit_count 19 n) n

-- "parts, parts holding 0358"
abbrev pub dotted : List (List ℕ) → ℕ
dotted [] = 0
dotted (w ∷ ws) = pick_number (holds_dot w) 1 0 + dotted ws

-- numbers with a space between neighbours
abbrev pub spaced : List ℕ → List ℕ
spaced [] = []
spaced (n ∷ []) = decimal n
spaced (n ∷ (m ∷ ns)) = decimal n ++ (bytes " " ++ spaced (m ∷ ns))

-- "its kind (N numeric, T telex, D detoned)"
abbrev pub kind_letter : Kind → List ℕ
kind_letter Numeric = bytes "N"
kind_letter Telex = bytes "T"
kind_letter Detoned = bytes "D"

-- "then a line per keying: its kind .., decimal position, keying"; `at` is the first one's position
unfoldable pub keying_line : Kind → ℕ → List ℕ → List ℕ
keying_line kind at k = kind_letter kind ++ (bytes " " ++ (decimal at ++ (bytes " " ++ (encode k ++ bytes "\n"))))

unfoldable pub keying_lines : Kind → ℕ → List (List ℕ) → List (List ℕ)
keying_lines kind at [] = []
keying_lines kind at (k ∷ ks) = keying_line kind at k ∷ keying_lines kind (suc at) ks

module _ (t : Table) where
  -- "prints parts, parts holding 0358, then numeric, telex and detoned counts"
  unfoldable pub header : List ℕ → List ℕ
  header entry =
      spaced (length (split entry) ∷ dotted (split entry) ∷ length (keyings t Numeric entry) ∷ length (keyings t Telex entry) ∷ length (keyings t Detoned entry) ∷ [])
      ++ bytes "\n"

  -- "A refusal prints only one line: `refused`, a space and the number"
  abbrev pub listing_of : Checked → List (List ℕ)
  listing_of (good s) =
      header s
      ∷ (keying_lines Numeric 0 (keyings t Numeric s) ++ (keying_lines Telex 0 (keyings t Telex s) ++ keying_lines Detoned 0 (keyings t Detoned s)))
  listing_of (bad why) = (bytes "refused " ++ (decimal (refusal_number why) ++ bytes "\n")) ∷ []

  unfoldable pub listing : List ℕ → List (List ℕ)
  listing entry = listing_of (check_entry t entry)

-- lines, one behind the other
abbrev pub together : List (List ℕ) → List ℕ
together [] = []
together (l ∷ ls) = l ++ together ls

-- how many lines, from the first on, go into a buffer whole
abbrev pub fitting : List (List ℕ) → ℕ → ℕ
fitting [] room = 0
fitting (l ∷ ls) room = pick_number (leb (length l) room) (suc (fitting ls (room - length l))) 0

-- those lines
unfoldable pub going_in : List (List ℕ) → ℕ → List (List ℕ)
going_in ls room = take (fitting ls room) ls

-- of the listing the lines from number `from` on that go into a buffer of `room` bytes whole. The numbers start at 0
unfoldable pub shown : Table → List ℕ → ℕ → ℕ → List (List ℕ)
shown t entry from room = going_in (drop from (listing t entry)) room
