-- UTF-8 (the Unicode Standard, 3.9): well-formed byte sequences by Table 3-7, their code points by Table 3-6.
use Rattle.std.specs.Prelude.{◌≡◌, Bool, true, false, not, ◌&&◌, List, [], ◌∷◌, ◌++◌, ℕ, zero, suc, ◌+◌, ◌-◌, ◌*◌, ◌/◌, ◌%◌, ◌<◌, leb, eqb, length, take, drop}
use Rattle.std.proofs.Math.Option.{Option, none, some}
use Prim.Native.String.{String}
use Rattle.std.specs.Prelude.{Option as Found, Some, None}
use Rattle.ji.specs.declared.utf8.Sequence.{Sequence}
use Rattle.ucd.specs.Table.{pick_number, pick_text}
use Rattle.ji.specs.Text.{points, within}

-- Table 3-7, a row to a line: of each byte of a sequence, the first and the last value that it may have
abbrev pub table37 : List (List (ℕ × ℕ))
table37 =
    ((0x00, 0x7F) ∷ [])
    ∷ ((0xC2, 0xDF) ∷ (0x80, 0xBF) ∷ [])
    ∷ ((0xE0, 0xE0) ∷ (0xA0, 0xBF) ∷ (0x80, 0xBF) ∷ [])
    ∷ ((0xE1, 0xEC) ∷ (0x80, 0xBF) ∷ (0x80, 0xBF) ∷ [])
    ∷ ((0xED, 0xED) ∷ (0x80, 0x9F) ∷ (0x80, 0xBF) ∷ [])
    ∷ ((0xEE, 0xEF) ∷ (0x80, 0xBF) ∷ (0x80, 0xBF) ∷ [])
    ∷ ((0xF0, 0xF0) ∷ (0x90, 0xBF) ∷ (0x80, 0xBF) ∷ (0x80, 0xBF) ∷ [])
    ∷ ((0xF1, 0xF3) ∷ (0x80, 0xBF) ∷ (0x80, 0xBF) ∷ (0x80, 0xBF) ∷ [])
    ∷ ((0xF4, 0xF4) ∷ (0x80, 0x8F) ∷ (0x80, 0xBF) ∷ (0x80, 0xBF) ∷ [])
    ∷ []

-- the bytes s begin with a sequence of this row
abbrev pub fits_row : List (ℕ × ℕ) → List ℕ → Bool
fits_row [] s = true
fits_row (r ∷ row) [] = false
fits_row (r ∷ row) (b ∷ s) = within r.0 r.1 b && fits_row row s

-- how many bytes the sequence has that s begins with, and 0 where it fits no row
abbrev pub width_in : List (List (ℕ × ℕ)) → List ℕ → ℕ
width_in [] s = 0
width_in (row ∷ rows) s = pick_number (fits_row row s) (length row) (width_in rows s)

unfoldable pub width_at : List ℕ → ℕ
width_at s = width_in table37 s

-- Table 3-6: the bits that the first byte a of a sequence of n bytes gives, and six more of each further byte
abbrev pub leading : ℕ → ℕ → ℕ
leading zero a = a
leading (suc zero) a = a
leading (suc (suc zero)) a = a % 32
leading (suc (suc (suc zero))) a = a % 16
leading (suc (suc (suc (suc n)))) a = a % 8

abbrev pub trailing : ℕ → List ℕ → ℕ
trailing x [] = x
trailing x (b ∷ s) = trailing (x * 64 + b % 64) s

abbrev pub point_of : ℕ → List ℕ → ℕ
point_of n [] = 0
point_of n (a ∷ s) = trailing (leading n a) (take (n - 1) s)

-- the code point of the sequence that s begins with
unfoldable pub point_at : List ℕ → ℕ
point_at s = point_of (width_at s) s

-- the range of the second byte where a sequence has three bytes or four, by its first byte: what the rows of Table 3-7 come to
abbrev pub second_low : ℕ → ℕ
second_low a = pick_number (eqb a 0xE0) 0xA0 (pick_number (eqb a 0xF0) 0x90 0x80)

abbrev pub second_high : ℕ → ℕ
second_high a = pick_number (eqb a 0xED) 0x9F (pick_number (eqb a 0xF4) 0x8F 0xBF)

-- the sequence that s begins with: its width and its code point
pub record SequenceOf (s : List ℕ) (width point : ℕ) : Type 0 where
  pub some : 0 < width
  pub wide : width ≡ width_at s
  pub read : point ≡ point_at s

-- what reading one sequence gives: nothing where it is ill formed
abbrev pub ReadOf : List ℕ → Found Sequence → Type 0
ReadOf s None = width_at s ≡ 0
ReadOf s (Some sequence) = SequenceOf s sequence.width sequence.point

abbrev pub more : ℕ → Option (List ℕ) → Option (List ℕ)
more x none = none
more x (some s) = some (x ∷ s)

abbrev pub pick_decoded : Bool → Option (List ℕ) → Option (List ℕ) → Option (List ℕ)
pick_decoded true a b = a
pick_decoded false a b = b

-- the code points of the bytes s, or none where s is ill formed. `skip` counts the rest of a sequence
unfoldable pub decode_from : ℕ → List ℕ → Option (List ℕ)
decode_from skip [] = some []
decode_from zero (b ∷ s) =
    let rest : Option (List ℕ) = more (point_at (b ∷ s)) (decode_from (width_at (b ∷ s) - 1) s) in
    pick_decoded (eqb (width_at (b ∷ s)) 0) none rest
decode_from (suc skip) (b ∷ s) = decode_from skip s

unfoldable pub decode : List ℕ → Option (List ℕ)
decode s = decode_from 0 s

-- the bytes are well formed
abbrev pub is_decoded : Option (List ℕ) → Bool
is_decoded none = false
is_decoded (some s) = true

-- Table 3-6: the bytes of a code point
unfoldable pub bytes_of : ℕ → List ℕ
bytes_of x =
    pick_text (leb x 0x7F) (x ∷ [])
    (pick_text (leb x 0x7FF) ((0xC0 + x / 64) ∷ (0x80 + x % 64) ∷ [])
    (pick_text (leb x 0xFFFF) ((0xE0 + x / 4096) ∷ (0x80 + x / 64 % 64) ∷ (0x80 + x % 64) ∷ [])
    ((0xF0 + x / 262144) ∷ (0x80 + x / 4096 % 64) ∷ (0x80 + x / 64 % 64) ∷ (0x80 + x % 64) ∷ [])))

unfoldable pub encode : List ℕ → List ℕ
encode [] = []
encode (x ∷ s) = bytes_of x ++ encode s

-- the bytes of a quoted text
abbrev pub bytes : String → List ℕ
bytes s = encode (points s)

-- ── the last sequence of some bytes
-- a byte that begins a sequence: by Table 3-7 the others of a sequence are 80 to BF
abbrev pub is_start : ℕ → Bool
is_start b = not (within 0x80 0xBF b)

-- where the last such byte stands, and 0 where there is none; `at` bytes stand before s, and `found` is the last place among them
unfoldable pub last_start_from : ℕ → ℕ → List ℕ → ℕ
last_start_from found at [] = found
last_start_from found at (b ∷ s) = last_start_from (pick_number (is_start b) at found) (suc at) s

unfoldable pub last_start : List ℕ → ℕ
last_start s = last_start_from 0 0 s

-- the code point of the last sequence where that has at most sixteen bits, as all of the table have, and 0 where there is none such
unfoldable pub last_point : List ℕ → ℕ
last_point s =
    let tail : List ℕ = drop (last_start s) s in
    pick_number (eqb (width_at tail) 0) 0 (pick_number (leb (point_at tail) 0xFFFF) (point_at tail) 0)
