-- The body of a candidate in bytes: what `from_composed` makes of the bytes of a stripped text in one walk, with the rules of `below_rules` and
-- `sign_rules` (Syllable.antt) taken together. U+0358 is CD 98, U+207F E2 81 BF and U+0324 CC A4.
use Rattle.std.specs.Prelude.{◌≡◌, Bool, true, false, ◌&&◌, List, [], ◌∷◌, ◌++◌, ℕ, zero, suc, ◌-◌, ◌*◌, ◌≤◌, length, take, drop, get_or, Option, Some, None}
use Rattle.ji.specs.Unicode.{listed, pick_number}
use Rattle.ji.specs.Text.{point, points, begins}
use Rattle.ji.specs.Written.{Written}

-- the letters that U+0324 changes, and the two letters that stand for one with it: eu, Eu, eo, Eo
unfoldable pub takes_below : ℕ → Bool
takes_below x = listed (points "uUoO") x

abbrev pub first_of : ℕ → ℕ
first_of x = pick_number (listed (points "UO") x) (point "E") (point "e")

abbrev pub second_of : ℕ → ℕ
second_of x = pick_number (listed (points "uU") x) (point "u") (point "o")

abbrev pub dot : List ℕ
dot = 0xCD ∷ 0x98 ∷ []

abbrev pub nasal : List ℕ
nasal = 0xE2 ∷ 0x81 ∷ 0xBF ∷ []

abbrev pub below : List ℕ
below = 0xCC ∷ 0xA4 ∷ []

-- the bytes of the body, and whether U+0358 was met
pub record Body : Type 0 where
  pub text : List ℕ
  pub dotted : Bool

abbrev pub pick_body : Bool → Body → Body → Body
pick_body true a b = a
pick_body false a b = b

-- the body where `done` is written already, `dotted` says whether U+0358 was met, `last` is the byte before, and `skip` counts the rest of a
-- sequence. U+0324 takes back the letter before it
unfoldable pub body_from : ℕ → ℕ → List ℕ → Bool → ℕ → List ℕ → Body
body_from vowel skip done dotted last [] = record { text = done; dotted = dotted }
body_from vowel zero done dotted last (b ∷ s) =
    let letters : List ℕ = take (length done - 1) done ++ (first_of last ∷ second_of last ∷ []) in
    pick_body (begins dot (b ∷ s)) (body_from vowel 1 (done ++ (vowel ∷ [])) true b s)
    (pick_body (begins nasal (b ∷ s)) (body_from vowel 2 (done ++ points "nn") dotted b s)
    (pick_body (begins below (b ∷ s) && takes_below last) (body_from vowel 1 letters dotted b s)
    (body_from vowel 0 (done ++ (b ∷ [])) dotted b s)))
body_from vowel (suc skip) done dotted last (b ∷ s) = body_from vowel skip done dotted b s

-- of a whole text, with `vowel` for U+0358
unfoldable pub body_of : ℕ → List ℕ → Body
body_of vowel s = body_from vowel 0 [] false 0 s

-- how many candidates a text has
abbrev pub count_of : Bool → ℕ
count_of true = 2
count_of false = 1

-- the vowel that the candidate at a position has for U+0358, where there is a candidate
abbrev pub vowel_at : Bool → ℕ → Option ℕ
vowel_at dotted zero = Some (point "u")
vowel_at true (suc zero) = Some (point "o")
vowel_at false (suc zero) = None
vowel_at dotted (suc (suc n)) = None

-- the byte before a place, and 0 at the beginning
abbrev pub byte_before : List ℕ → ℕ → ℕ
byte_before s i = get_or (0 ∷ s) i 0

-- s is read up to i, and what becomes of that is written up to n; a text has `count` candidates by what is read
pub record Walking (vowel : ℕ) (s before after : List ℕ) (i n count : ℕ) : Type 0 where
  pub inside : i ≤ length s
  pub shorter : n ≤ i
  pub longer : i ≤ 3 * n
  pub done : List ℕ
  pub dotted : Bool
  pub counted : count ≡ count_of dotted
  pub written : Written before after n done
  pub rest : body_from vowel 0 done dotted (byte_before s i) (drop i s) ≡ body_of vowel s
