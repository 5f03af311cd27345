-- Keyings of an entry (document 01, "khiin: entries"), over the code points of the entry.
use Rattle.std.specs.Prelude.{Bool, true, false, ◌&&◌, List, [], ◌∷◌, ◌++◌, map, ℕ, leb, ltb, eqb, length, get_or}
use Rattle.ji.specs.Unicode.{Table, same, listed}
use Rattle.ji.specs.Text.{point}
use Rattle.ji.specs.Utf8.{encode}
use Rattle.ji.specs.Reply.{Reply, refused, over, pick_reply, Checked, good, bad, pick_checked, check_within}
use Rattle.ji.specs.Lomaji.Keys.{keys}
use Rattle.ji.specs.declared.reply.Refusal.TheVariants.{Parts, Position, NoRoom}
use Rattle.ji.specs.declared.lomaji.keys.Form.TheVariants.{Plain, Oo}
use Rattle.ji.specs.declared.lomaji.keys.Kind.{Kind}
use Rattle.ji.specs.declared.lomaji.keys.Kind.TheVariants.{Detoned, Numeric, Telex}
use Rattle.std.specs.Prelude.{Result, Ok, Err}
use Rattle.ji.specs.declared.reply.Refusal.{Refusal}
use Rattle.khiin_entries.specs.declared.key_sequence.KeyingResult.{KeyingResult}

abbrev pub pick_texts : Bool → List (List ℕ) → List (List ℕ) → List (List ℕ)
pick_texts true a b = a
pick_texts false a b = b

-- c in front of the first text
abbrev pub in_front : ℕ → List (List ℕ) → List (List ℕ)
in_front c [] = (c ∷ []) ∷ []
in_front c (w ∷ ws) = (c ∷ w) ∷ ws

-- "An entry splits at each space; empty parts count"
unfoldable pub split : List ℕ → List (List ℕ)
split [] = [] ∷ []
split (c ∷ s) = pick_texts (eqb c (point " ")) ([] ∷ split s) (in_front c (split s))

-- "a part holding 0358"
unfoldable pub holds_dot : List ℕ → Bool
holds_dot w = listed w 0x0358

-- "every combination, last part fastest, joined without space"; xss are the choices of each part
abbrev pub each : List (List ℕ) → List (List ℕ) → List (List ℕ)
each [] ts = []
each (x ∷ xs) ts = map (λ (t : List ℕ). x ++ t) ts ++ each xs ts

abbrev pub product : List (List (List ℕ)) → List (List ℕ)
product [] = [] ∷ []
product (xs ∷ xss) = each xs (product xss)

module _ (t : Table) where
  -- "One part: the plain form, and the `_oo` form too if the two detoned differ"
  unfoldable pub alone : Kind → List ℕ → List (List ℕ)
  alone kind w =
      pick_texts (same (keys t Plain Detoned w) (keys t Oo Detoned w)) (keys t Plain kind w ∷ []) (keys t Plain kind w ∷ keys t Oo kind w ∷ [])

  -- the forms of one part of several: plain, and `_oo` if it holds 0358
  unfoldable pub forms : Kind → List ℕ → List (List ℕ)
  forms kind w = pick_texts (holds_dot w) (keys t Plain kind w ∷ keys t Oo kind w ∷ []) (keys t Plain kind w ∷ [])

  -- "a part holding 0358 has the numeric choices plain, `_oo`, detoned, detoned `_oo` ..; telex likewise; detoned has its two. Other parts have toned
  -- then detoned, and one detoned"
  abbrev pub choices : Kind → List ℕ → List (List ℕ)
  choices Detoned w = forms Detoned w
  choices Numeric w = forms Numeric w ++ forms Detoned w
  choices Telex w = forms Telex w ++ forms Detoned w

  -- "One part's forms, or these combinations, are in this order the list of a kind"
  abbrev pub list_of : Kind → List (List ℕ) → List (List ℕ)
  list_of kind [] = []
  list_of kind (w ∷ []) = alone kind w
  list_of kind (w ∷ (v ∷ ws)) = product (map (choices kind) (w ∷ (v ∷ ws)))

  unfoldable pub keyings : Kind → List ℕ → List (List ℕ)
  keyings kind entry = list_of kind (split entry)

  -- ── the call
  -- "5: an entry of more than 16 parts, or a part above 256 bytes"
  abbrev pub parts_fit : List (List ℕ) → Bool
  parts_fit [] = true
  parts_fit (w ∷ ws) = leb (length (encode w)) 256 && parts_fit ws

  abbrev pub check_parts : Checked → Checked
  check_parts (good s) = pick_checked (leb (length (split s)) 16 && parts_fit (split s)) (good s) (bad Parts)
  check_parts (bad why) = bad why

  -- "2: .. a dictionary entry: above 1,024"; 3; 4; 5
  unfoldable pub check_entry : List ℕ → Checked
  check_entry entry = check_parts (check_within t 1024 entry)

  -- a keying of the list, and "as the count, the list's length"
  abbrev pub keyed : ℕ → List ℕ → List ℕ → Reply
  keyed count output buffer =
      record { code = 0; length = length output; count = count; body = 0; tone = 0; khin = 0; position = 0; buffer = over output buffer }

  -- "7: the whole output is longer than the lent buffer"
  abbrev pub placed_keying : ℕ → List ℕ → List ℕ → Reply
  placed_keying count output buffer = pick_reply (leb (length output) (length buffer)) (keyed count output buffer) (refused NoRoom buffer)

  -- "6: .. keying position not below the count"
  abbrev pub keying_at : List (List ℕ) → ℕ → List ℕ → Reply
  keying_at list position buffer =
      pick_reply (ltb position (length list)) (placed_keying (length list) (encode (get_or list position [])) buffer) (refused Position buffer)

  abbrev pub keying_of : Kind → Checked → ℕ → List ℕ → Reply
  keying_of kind (good s) position buffer = keying_at (keyings kind s) position buffer
  keying_of kind (bad why) position buffer = refused why buffer

  unfoldable pub keying_call : List ℕ → Kind → ℕ → List ℕ → Reply
  keying_call entry kind position buffer = keying_of kind (check_entry entry) position buffer

-- the code's answer, and what it leaves in the buffer, as a reply
abbrev pub keying_reply : Result KeyingResult Refusal → List ℕ → Reply
keying_reply (Ok r) buffer =
    record { code = 0; length = r.len.0; count = r.count; body = 0; tone = 0; khin = 0; position = 0; buffer = buffer }
keying_reply (Err why) buffer = refused why buffer
