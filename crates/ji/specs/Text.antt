-- Texts: lists of code points, and at the edge lists of bytes. Quoted text, beginnings and endings, and replace-all.
use Rattle.std.specs.Prelude.{Bool, true, false, ◌&&◌, List, [], ◌∷◌, ◌++◌, ℕ, zero, suc, ◌+◌, ◌-◌, leb, eqb, length, take, get_or}
use Prim.Native.Char.{code}
use Prim.Native.String.{String}
use Prim.Native.String.{[] as empty, ◌∷◌ as ◌:>◌}
use Rattle.ucd.specs.Table.{pick_number, pick_text}

-- the code points of a quoted text
abbrev pub points : String → List ℕ
points empty = []
points (c :> s) = code c ∷ points s

-- a quoted text and a mark behind it, which document 01 writes as o+0358
abbrev pub marked : String → ℕ → List ℕ
marked s mark = points s ++ (mark ∷ [])

-- the one code point of a quoted text
abbrev pub point : String → ℕ
point s = get_or (points s) 0 0

-- lo ≤ x ≤ hi, as a test
abbrev pub within : ℕ → ℕ → ℕ → Bool
within lo hi x = leb lo x && leb x hi

-- an ASCII letter in lower case
unfoldable pub lower : ℕ → ℕ
lower x = pick_number (within (point "A") (point "Z") x) (x + 32) x

-- the last code point, 0 of an empty text
unfoldable pub last : List ℕ → ℕ
last s = get_or s (length s - 1) 0

-- s without its last n code points
unfoldable pub but_last : ℕ → List ℕ → List ℕ
but_last n s = take (length s - n) s

-- no byte, or no code point, is above 7F
unfoldable pub all_ascii : List ℕ → Bool
all_ascii [] = true
all_ascii (b ∷ s) = leb b 0x7F && all_ascii s

-- s begins with p
unfoldable pub begins : List ℕ → List ℕ → Bool
begins [] s = true
begins (a ∷ p) [] = false
begins (a ∷ p) (x ∷ s) = eqb x a && begins p s

-- s with each occurrence of p replaced by r, from the left, none overlapping another. `skip` counts the rest of an occurrence
unfoldable pub replace_from : List ℕ → List ℕ → ℕ → List ℕ → List ℕ
replace_from p r skip [] = []
replace_from p r zero (x ∷ s) =
    let occurs : List ℕ = r ++ replace_from p r (length p - 1) s in
    let other : List ℕ = x ∷ replace_from p r zero s in
    pick_text (begins p (x ∷ s)) occurs other
replace_from p r (suc skip) (x ∷ s) = replace_from p r skip s

unfoldable pub replace_all : List ℕ → List ℕ → List ℕ → List ℕ
replace_all p r s = replace_from p r zero s
