-- What the code keeps of an entry (document 01, "khiin: entries"): the bytes of each part's forms in one buffer, and of each part's choices the
-- place there and the length. "up to sixteen parts with four choices each .. for mixed-radix positions".
use Rattle.std.specs.Prelude.{◌≡◌, ◌≢◌, Bool, true, false, ◌&&◌, cond, Option as Found, Some, None, List, [], ◌∷◌, ◌++◌, map, ℕ, zero, suc, ◌+◌, ◌-◌, ◌*◌, ◌/◌, ◌%◌, ◌≤◌, ◌<◌, leb, ltb, eqb, length, take, drop, get_or}
use Rattle.std.proofs.Math.Option.{Option, none, some}
use Rattle.ji.specs.Unicode.{Table, unicode16}
use Rattle.ji.specs.Utf8.{decode, encode}
use Rattle.ji.specs.Reply.{Reply, refused, pick_reply, good, check_within, check_text}
use Rattle.ji.specs.Lomaji.Keys.{keys}
use Rattle.ji.specs.declared.reply.Refusal.TheVariants.{Position}
use Rattle.ji.specs.declared.lomaji.keys.Form.{Form}
use Rattle.ji.specs.declared.lomaji.keys.Kind.{Kind}
use Rattle.ji.specs.declared.lomaji.keys.Kind.TheVariants.{Detoned, Numeric, Telex}
use Rattle.khiin_entries.specs.declared.key_sequence.Row.{Row}
use Rattle.khiin_entries.specs.KeySequence.{split, pick_texts, alone, choices, placed_keying}

-- ── the parts of an entry, in bytes
-- the code points of well-formed bytes
abbrev pub text_in : Option (List ℕ) → List ℕ
text_in none = []
text_in (some s) = s

unfoldable pub points_of : List ℕ → List ℕ
points_of s = text_in (decode s)

-- the bytes of a form of a part
unfoldable pub form_bytes : Table → Form → Kind → List ℕ → List ℕ
form_bytes t form kind part = encode (keys t form kind (points_of part))

-- forms of this kind end in the key of the tone
abbrev pub is_toned : Kind → Bool
is_toned Detoned = false
is_toned Numeric = true
is_toned Telex = true

-- no part has more than 256 bytes
abbrev pub all_short : List (List ℕ) → Bool
all_short [] = true
all_short (w ∷ ws) = leb (length w) 256 && all_short ws

-- how many parts an entry has, if they are not too many and none is too long
unfoldable pub part_count : List ℕ → Found ℕ
part_count s = cond (leb (length (split s)) 16 && all_short (split s)) (Some (length (split s))) None

-- an entry that was found good, and its parts not too many and not too long
pub record Entry (entry : List ℕ) (parts : ℕ) : Type 0 where
  pub checked : check_within unicode16 1024 entry ≡ good (points_of entry)
  pub count : part_count entry ≡ Some parts

-- the choices of a part, which is the only one or one of several
abbrev pub chosen : Table → Bool → Kind → List ℕ → List (List ℕ)
chosen t single kind w = pick_texts single (alone t kind w) (choices t kind w)

-- the same by its bytes, in bytes
unfoldable pub choices_of : Table → Bool → Kind → List ℕ → List (List ℕ)
choices_of t single kind part = map encode (chosen t single kind (points_of part))

-- the choices of each part of an entry
unfoldable pub choices_in : Table → Kind → List ℕ → List (List (List ℕ))
choices_in t kind entry = map (choices_of t (eqb (length (split entry)) 1) kind) (split entry)

-- ── the arrays
-- f 0, f 1, .. for each number below n
abbrev pub up_to {ℓ} : {A : Type ℓ} → (ℕ → A) → ℕ → List A
up_to f zero = []
up_to f (suc n) = up_to f n ++ (f n ∷ [])

-- a choice: as many bytes as `lengths` says, from the place that `offsets` says
abbrev pub choice_at : List ℕ → List ℕ → List ℕ → ℕ → List ℕ
choice_at forms offsets lengths j = take (get_or lengths j 0) (drop (get_or offsets j 0) forms)

-- the choices of a part that has `radix` of them
abbrev pub choices_at : List ℕ → List ℕ → List ℕ → ℕ → List (List ℕ)
choices_at forms offsets lengths radix = up_to (choice_at forms offsets lengths) radix

-- one form or two, from `at` on, which end at `mid` and `end`, as they are and, if they are toned, without their last byte, the key of the tone
abbrev pub row_one : ℕ → ℕ → Bool → Row
row_one at mid toned =
    record { offsets = at ∷ at ∷ 0 ∷ 0 ∷ []; lengths = (mid - at) ∷ (mid - at - 1) ∷ 0 ∷ 0 ∷ []; radix = cond toned 2 1; end = mid }

abbrev pub row_two : ℕ → ℕ → ℕ → Bool → Row
row_two at mid end toned =
    record {
      offsets = at ∷ mid ∷ at ∷ mid ∷ [];
      lengths = (mid - at) ∷ (end - mid) ∷ (mid - at - 1) ∷ (end - mid - 1) ∷ [];
      radix = cond toned 4 2;
      end = end;
    }

-- the choices of each of the first `parts` parts
unfoldable pub laid_out : List ℕ → List (List ℕ) → List (List ℕ) → List ℕ → ℕ → List (List (List ℕ))
laid_out forms offsets lengths radices parts = up_to (λ i. choices_at forms (get_or offsets i []) (get_or lengths i []) (get_or radices i 0)) parts

-- a part has one, two or four choices
abbrev pub Radix : ℕ → Type 0
Radix n = (0 < n) × (n ≤ 4) × (n ≢ 3)

-- and each of them lies within the first `used` bytes
pub record Within (offsets lengths : List ℕ) (radix used : ℕ) : Type 0 where
  pub few : Radix radix
  pub inside : (j : ℕ) → j < radix → get_or offsets j 0 + get_or lengths j 0 ≤ used

-- a good part, and room for its forms from `at` on: five bytes for each byte of the part, and two more
abbrev pub Room : List ℕ → List ℕ → ℕ → Type 0
Room part before at = (check_text unicode16 part ≡ good (points_of part)) × (at + (5 * length part + 2) ≤ length before) × (length before ≤ 65535)

-- what laying out a part from `at` on gives: its choices, behind what the buffer had, in at most five bytes for each of its own and two more
pub record RowOf (t : Table) (single : Bool) (kind : Kind) (part : List ℕ) (at : ℕ) (before after : List ℕ) (row : Row) : Type 0 where
  pub texts : choices_at after row.offsets row.lengths row.radix ≡ choices_of t single kind part
  pub within : Within row.offsets row.lengths row.radix row.end
  pub front : take at after ≡ take at before
  pub behind : at ≤ row.end
  pub short : row.end ≤ at + (5 * length part + 2)

-- so it is with each of the first `parts` parts
abbrev pub Laid : List (List ℕ) → List (List ℕ) → List ℕ → ℕ → ℕ → Type 0
Laid offsets lengths radices parts used = (i : ℕ) → i < parts → Within (get_or offsets i []) (get_or lengths i []) (get_or radices i 0) used

-- ── the keying at a position, from the last part to the first: the part's digit is what its radix leaves of the position
-- how many keyings there are
abbrev pub count_in : List ℕ → ℕ → ℕ
count_in radices zero = 1
count_in radices (suc i) = count_in radices i * get_or radices i 0

-- how many bytes it has
unfoldable pub length_in : List (List ℕ) → List ℕ → ℕ → ℕ → ℕ
length_in lengths radices zero position = 0
length_in lengths radices (suc i) position =
    length_in lengths radices i (position / get_or radices i 0) + get_or (get_or lengths i []) (position % get_or radices i 0) 0

unfoldable pub keying_in : List ℕ → List (List ℕ) → List (List ℕ) → List ℕ → ℕ → ℕ → List ℕ
keying_in forms offsets lengths radices zero position = []
keying_in forms offsets lengths radices (suc i) position =
    keying_in forms offsets lengths radices i (position / get_or radices i 0)
    ++ choice_at forms (get_or offsets i []) (get_or lengths i []) (position % get_or radices i 0)

-- the reply to a call for a keying: of `count` keyings the one at `position` is `output`
abbrev pub laid_reply : ℕ → List ℕ → ℕ → List ℕ → Reply
laid_reply count output position buffer = pick_reply (ltb position count) (placed_keying unicode16 count output buffer) (refused Position buffer)
