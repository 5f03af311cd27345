-- No line of a listing is longer than a block. A form of a part has at most five bytes for each two of the part and one more, and an entry has at most
-- 1,024 bytes: so a keying has at most 3,585.
use Rattle.std.proofs.Common.{◌≡◌, ℕ, zero, suc, ◌+◌, ◌*◌, ◌/◌, ◌≤◌, Bool, true, false, List, [], ◌∷◌, ◌++◌, map, length, drop, eqb, ltb, refl, ap, ◌∙◌, arith, length-append}
use Rattle.ji.specs.Unicode.{unicode16, pick_number, same}
use Rattle.ji.specs.Text.{point}
use Rattle.ji.specs.Utf8.{bytes_of, encode, bytes}
use Rattle.ji.specs.Reply.{Checked, good, bad, pick_checked, refusal_number, check_within}
use Rattle.ji.specs.Lomaji.Keys.{keys}
use Rattle.ji.specs.declared.lomaji.keys.Form.{Form}
use Rattle.ji.specs.declared.lomaji.keys.Form.TheVariants.{Plain, Oo}
use Rattle.ji.specs.declared.lomaji.keys.Kind.{Kind}
use Rattle.ji.specs.declared.lomaji.keys.Kind.TheVariants.{Detoned, Numeric, Telex}
use Rattle.ji.proofs.lomaji.keys.Bytes.{keys_bytes}
use Rattle.ji.proofs.unicode.Bytes.{bytes_some, encode_nil, encode_cons, encode_append}
use Rattle.ji.proofs.unicode.Checked.{check_passed}
use Rattle.khiin_entries.specs.KeySequence.{pick_texts, in_front, split, holds_dot, each, product, alone, forms, choices, list_of, keyings, check_parts, check_entry}
use Rattle.khiin_entries.specs.Listing.{digit_count, decimal, dotted, spaced, kind_letter, keying_line, keying_lines, header, listing_of, listing, fitting}
use Rattle.khiin_entries.proofs.listing.Decimal.{decimal_length}
use Rattle.khiin_entries.proofs.listing.Fitting.{fit_one}

-- ── the bytes of a text
size : List ℕ → ℕ
size s = length (encode s)

size_nil : size [] ≡ 0
unfolding size
size_nil = ap length encode_nil

size_cons : (c : ℕ) (s : List ℕ) → size (c ∷ s) ≡ length (bytes_of c) + size s
unfolding size
size_cons c s = ap length (encode_cons c s) ∙ length-append (bytes_of c) (encode s)

size_append : (s u : List ℕ) → size (s ++ u) ≡ size s + size u
unfolding size
size_append s u = ap length (encode_append s u) ∙ length-append (encode s) (encode u)

keys_size : (form : Form) (kind : Kind) (w : List ℕ) → 2 * size (keys unicode16 form kind w) ≤ 5 * size w + 2
unfolding size
keys_size form kind w = keys_bytes form kind w

-- ── texts of which each has at most half as many bytes as a number says
abbrev AtMost : ℕ → List (List ℕ) → Type 0
AtMost n [] = Unit {0}
AtMost n (k ∷ ks) = (2 * size k ≤ n) × AtMost n ks

most_append : (n : ℕ) (a b : List (List ℕ)) → AtMost n a → AtMost n b → AtMost n (a ++ b)
most_append n [] b p q = q
most_append n (k ∷ a) b p q = (p.0, most_append n a b p.1 q)

most_pick : (n : ℕ) (b : Bool) (x y : List (List ℕ)) → AtMost n x → AtMost n y → AtMost n (pick_texts b x y)
most_pick n true x y p q = p
most_pick n false x y p q = q

most_more : (m n : ℕ) (a : List (List ℕ)) → m ≤ n → AtMost m a → AtMost n a
most_more m n [] h p = tt
most_more m n (k ∷ a) h p = (omega (arith, p.0), most_more m n a h p.1)

-- ── the choices of a part
module _ (w : List ℕ) where
  abbrev room : ℕ
  room = 5 * size w + 2

  one : (kind : Kind) → AtMost room (keys unicode16 Plain kind w ∷ [])
  one kind = (keys_size Plain kind w, tt)

  two : (kind : Kind) → AtMost room (keys unicode16 Plain kind w ∷ keys unicode16 Oo kind w ∷ [])
  two kind = (keys_size Plain kind w, (keys_size Oo kind w, tt))

  alone_most : (kind : Kind) → AtMost room (alone unicode16 kind w)
  unfolding alone
  alone_most kind =
      most_pick room (same (keys unicode16 Plain Detoned w) (keys unicode16 Oo Detoned w)) (keys unicode16 Plain kind w ∷ []) (keys unicode16 Plain kind w ∷ keys unicode16 Oo kind w ∷ [])
      (one kind) (two kind)

  forms_most : (kind : Kind) → AtMost room (forms unicode16 kind w)
  unfolding forms
  forms_most kind =
      most_pick room (holds_dot w) (keys unicode16 Plain kind w ∷ keys unicode16 Oo kind w ∷ []) (keys unicode16 Plain kind w ∷ [])
      (two kind) (one kind)

  choices_most : (kind : Kind) → AtMost room (choices unicode16 kind w)
  choices_most Detoned = forms_most Detoned
  choices_most Numeric = most_append room (forms unicode16 Numeric w) (forms unicode16 Detoned w) (forms_most Numeric) (forms_most Detoned)
  choices_most Telex = most_append room (forms unicode16 Telex w) (forms unicode16 Detoned w) (forms_most Telex) (forms_most Detoned)

-- ── the keyings of all parts
rooms : List (List ℕ) → ℕ
rooms [] = 0
rooms (w ∷ ws) = (5 * size w + 2) + rooms ws

most_joined : (m n : ℕ) (x : List ℕ) (ts : List (List ℕ)) → 2 * size x ≤ m → AtMost n ts → AtMost (m + n) (map (λ (t : List ℕ). x ++ t) ts)
most_joined m n x [] h p = tt
most_joined m n x (t ∷ ts) h p = (omega (arith, h, p.0, size_append x t), most_joined m n x ts h p.1)

most_each : (m n : ℕ) (xs ts : List (List ℕ)) → AtMost m xs → AtMost n ts → AtMost (m + n) (each xs ts)
most_each m n [] ts p q = tt
most_each m n (x ∷ xs) ts p q = most_append (m + n) (map (λ (t : List ℕ). x ++ t) ts) (each xs ts) (most_joined m n x ts p.0 q) (most_each m n xs ts p.1 q)

product_most : (kind : Kind) (ws : List (List ℕ)) → AtMost (rooms ws) (product (map (choices unicode16 kind) ws))
unfolding rooms
product_most kind [] = (omega (arith, size_nil), tt)
product_most kind (w ∷ ws) = most_each (5 * size w + 2) (rooms ws) (choices unicode16 kind w) (product (map (choices unicode16 kind) ws)) (choices_most w kind) (product_most kind ws)

list_most : (kind : Kind) (ws : List (List ℕ)) → AtMost (rooms ws) (list_of unicode16 kind ws)
unfolding rooms
list_most kind [] = tt
list_most kind (w ∷ []) = most_more (5 * size w + 2) (5 * size w + 2 + 0) (alone unicode16 kind w) (omega arith) (alone_most w kind)
list_most kind (w ∷ (v ∷ ws)) = product_most kind (w ∷ (v ∷ ws))

-- parts have less room than their entry: a byte between two of them makes up for the two of a part
rooms_pick : (b : Bool) (x y : List (List ℕ)) (n : ℕ) → rooms x ≤ n → rooms y ≤ n → rooms (pick_texts b x y) ≤ n
rooms_pick true x y n p q = p
rooms_pick false x y n p q = q

rooms_front : (c : ℕ) (ws : List (List ℕ)) → rooms (in_front c ws) ≤ 5 * length (bytes_of c) + 2 + rooms ws
unfolding rooms
rooms_front c [] = omega (arith, size_cons c [], size_nil)
rooms_front c (w ∷ ws) = omega (arith, size_cons c w)

split_rooms : (s : List ℕ) → rooms (split s) ≤ 7 * size s + 2
unfolding split rooms
split_rooms [] = omega (arith, size_nil)
split_rooms (c ∷ s) =
    rooms_pick (eqb c (point " ")) ([] ∷ split s) (in_front c (split s)) (7 * size (c ∷ s) + 2)
    (omega (arith, split_rooms s, size_cons c s, size_nil, bytes_some c))
    (omega (arith, split_rooms s, size_cons c s, rooms_front c (split s), bytes_some c))

keyings_most : (kind : Kind) (s : List ℕ) → AtMost (7 * size s + 2) (keyings unicode16 kind s)
unfolding keyings
keyings_most kind s = most_more (rooms (split s)) (7 * size s + 2) (list_of unicode16 kind (split s)) (split_rooms s) (list_most kind (split s))

-- ── the lines
-- each of these lines has at most so many bytes
abbrev pub Short : ℕ → List (List ℕ) → Type 0
Short n [] = Unit {0}
Short n (l ∷ ls) = (length l ≤ n) × Short n ls

short_append : (n : ℕ) (a b : List (List ℕ)) → Short n a → Short n b → Short n (a ++ b)
short_append n [] b p q = q
short_append n (l ∷ a) b p q = (p.0, short_append n a b p.1 q)

pub short_drop : (n i : ℕ) (ls : List (List ℕ)) → Short n ls → Short n (drop i ls)
short_drop n zero ls p = p
short_drop n (suc i) [] p = p
short_drop n (suc i) (l ∷ ls) p = short_drop n i ls p.1

number_most : (b : Bool) (x y n : ℕ) → x ≤ n → y ≤ n → pick_number b x y ≤ n
number_most true x y n p q = p
number_most false x y n p q = q

-- a number has at most twenty digits
few_digits : (k n : ℕ) → digit_count k n ≤ k + 1
few_digits zero n = omega arith
few_digits (suc k) n = number_most (ltb n 10) 1 (1 + digit_count k (n / 10)) (suc k + 1) (omega arith) (omega (arith, few_digits k (n / 10)))

decimal_short : (n : ℕ) → length (decimal n) ≤ 20
decimal_short n = omega (arith, decimal_length n, few_digits 19 n)

letter_one : (kind : Kind) → length (kind_letter kind) ≡ 1
unfolding encode bytes_of
letter_one Numeric = refl
letter_one Telex = refl
letter_one Detoned = refl

byte_one : (length (bytes " ") ≡ 1) × (length (bytes "\n") ≡ 1)
unfolding encode bytes_of
byte_one = (refl, refl)

line_short : (kind : Kind) (at : ℕ) (k : List ℕ) → length (keying_line kind at k) ≤ 24 + size k
unfolding keying_line size
line_short kind at k =
    omega (
      arith,
      letter_one kind,
      byte_one,
      decimal_short at,
      length-append (kind_letter kind) (bytes " " ++ (decimal at ++ (bytes " " ++ (encode k ++ bytes "\n")))),
      length-append (bytes " ") (decimal at ++ (bytes " " ++ (encode k ++ bytes "\n"))),
      length-append (decimal at) (bytes " " ++ (encode k ++ bytes "\n")),
      length-append (bytes " ") (encode k ++ bytes "\n"),
      length-append (encode k) (bytes "\n"),
    )

lines_short : (n : ℕ) (kind : Kind) (at : ℕ) (ks : List (List ℕ)) → n ≤ 7170 → AtMost n ks → Short 65536 (keying_lines kind at ks)
unfolding keying_lines
lines_short n kind at [] h p = tt
lines_short n kind at (k ∷ ks) h p = (omega (arith, h, p.0, line_short kind at k), lines_short n kind (suc at) ks h p.1)

-- one number of the header, and the space or the end behind it
spaced_short : (n : ℕ) (ns : List ℕ) → length (spaced (n ∷ ns)) ≤ 20 + 21 * length ns
spaced_short n [] = decimal_short n
spaced_short n (m ∷ ns) =
    omega (
      arith,
      decimal_short n,
      byte_one,
      spaced_short m ns,
      length-append (decimal n) (bytes " " ++ spaced (m ∷ ns)),
      length-append (bytes " ") (spaced (m ∷ ns)),
    )

header_short : (s : List ℕ) → length (header unicode16 s) ≤ 105
unfolding header
header_short s =
    let ns = dotted (split s) ∷ length (keyings unicode16 Numeric s) ∷ length (keyings unicode16 Telex s) ∷ length (keyings unicode16 Detoned s) ∷ [] in
    omega (arith, byte_one, spaced_short (length (split s)) ns, length-append (spaced (length (split s) ∷ ns)) (bytes "\n"))

eight : length (bytes "refused ") ≡ 8
unfolding encode bytes_of
eight = refl

refusal_short : (n : ℕ) → length (bytes "refused " ++ (decimal n ++ bytes "\n")) ≤ 29
refusal_short n = omega (arith, eight, byte_one, decimal_short n, length-append (bytes "refused ") (decimal n ++ bytes "\n"), length-append (decimal n) (bytes "\n"))

-- ── an entry that was found good has at most 1,024 bytes
abbrev Small : Checked → Type 0
Small (good s) = size s ≤ 1024
Small (bad why) = Unit {0}

module _ (entry : List ℕ) where
  within_small : (x : Checked) → check_within unicode16 1024 entry ≡ x → Small x
  unfolding size
  within_small (good s) e = let p = check_passed unicode16 1024 entry s e in omega (arith, p.short, ap length p.written)
  within_small (bad why) e = tt

  picked_small : (b : Bool) (x y : Checked) → Small x → Small y → Small (pick_checked b x y)
  picked_small true x y p q = p
  picked_small false x y p q = q

  parts_small : (x : Checked) → Small x → Small (check_parts unicode16 x)
  parts_small (good s) h = picked_small _ (good s) (bad _) h tt
  parts_small (bad why) h = tt

  listed_short : (x : Checked) → Small x → Short 65536 (listing_of unicode16 x)
  listed_short (good s) h =
      let of : Kind → List (List ℕ) = λ kind. keying_lines kind 0 (keyings unicode16 kind s) in
      let lines : (kind : Kind) → Short 65536 (keying_lines kind 0 (keyings unicode16 kind s)) = λ kind. lines_short (7 * size s + 2) kind 0 (keyings unicode16 kind s) (omega arith) (keyings_most kind s) in
      (omega (arith, header_short s), short_append 65536 (of Numeric) (of Telex ++ of Detoned) (lines Numeric) (short_append 65536 (of Telex) (of Detoned) (lines Telex) (lines Detoned)))
  listed_short (bad why) h = (omega (arith, refusal_short (refusal_number why)), tt)

  pub listing_short : Short 65536 (listing unicode16 entry)
  unfolding listing check_entry
  listing_short = listed_short (check_entry unicode16 entry) (parts_small (check_within unicode16 1024 entry) (within_small (check_within unicode16 1024 entry) refl))

-- a line that is not longer than the room goes in
pub none_left : (ls : List (List ℕ)) (room : ℕ) → Short room ls → fitting ls room ≡ 0 → ls ≡ []
none_left [] room p e = refl
none_left (l ∷ ls) room p e = absurd (omega (arith, fit_one l ls room p.0))
