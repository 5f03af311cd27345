-- Demand 3 as one statement about the replies of the calls, byte for byte; `bytes` are what an entry call is handed, `text` are the code points of an
-- entry, and `ss` its syllables where they are well formed.
use Rattle.std.specs.Prelude.{◌≡◌, Bool, List, [], ◌∷◌, ◌++◌, map, ℕ, suc, ◌+◌, ◌-◌, ◌*◌, ◌^◌, ◌≤◌, ◌<◌, eqb, length, take, get_or}
use Rattle.ji.specs.Unicode.{unicode16, pick_number}
use Rattle.ji.specs.Text.{point, within, last}
use Rattle.ji.specs.Utf8.{encode}
use Rattle.ji.specs.Tone.{tone_number}
use Rattle.ji.specs.Reply.{Reply, answered, good}
use Rattle.ji.specs.declared.lomaji.keys.Kind.{Kind}
use Rattle.ji.specs.declared.lomaji.keys.Kind.TheVariants.{Detoned, Numeric, Telex}
use Rattle.khiin_records.specs.Syllable.{from_raw_call}
use Rattle.khiin_records.specs.Alignment.{align_call}
use Rattle.khiin_entries.specs.KeySequence.{in_front, keyings, check_entry, keyed}
use Rattle.robinflint.specs.Arguments.{kind_of, compose_numbered, keying_numbered}
use Rattle.grammar.specs.WellFormed.{Texts, pick_texts, passing, WellFormed, text, entry, Few, dots}

-- ── every entry call
-- "the list that 01 gives for its entry and kind", in bytes; the kind is "0 (detoned), 1 (numeric), 2 (telex)"
unfoldable pub list_for : ℕ → List ℕ → Texts
list_for kind text = map encode (keyings unicode16 (kind_of kind) text)

-- "the keying at the position named"
abbrev pub keying_for : ℕ → List ℕ → ℕ → List ℕ
keying_for kind text position = get_or (list_for kind text) position []

-- "reports as its count the length of the list .., and gives the keying": each number of the reply, and each byte that it leaves in the lent buffer
abbrev pub given : ℕ → List ℕ → ℕ → List ℕ → Reply
given kind text position buffer = keyed unicode16 (length (list_for kind text)) (keying_for kind text position) buffer

-- "Every entry call not refused": its kind is one of the three, its bytes are those of an entry, the list has the position, the buffer holds the keying
pub record Answered (bytes : List ℕ) (kind position : ℕ) (buffer : List ℕ) : Type 0 where
  pub text : List ℕ
  pub known : kind ≤ 2
  pub checked : check_entry unicode16 bytes ≡ good text
  pub inside : position < length (list_for kind text)
  pub fits : length (keying_for kind text position) ≤ length buffer
  pub gives : keying_numbered bytes kind position buffer ≡ given kind text position buffer

-- ── counts
-- "For every entry of n well-formed syllables (1 to 16, as 01 defines them)"
abbrev pub syllable_bytes : WellFormed → List ℕ
syllable_bytes s = encode (text s)

abbrev pub entry_bytes : List WellFormed → List ℕ
entry_bytes ss = encode (entry ss)

-- its list of a kind, and the keying at a position
unfoldable pub list : ℕ → List WellFormed → Texts
list kind ss = map encode (keyings unicode16 (kind_of kind) (entry ss))

abbrev pub keying_at : ℕ → List WellFormed → ℕ → List ℕ
keying_at kind ss position = get_or (list kind ss) position []

-- "4^d · 2^(n−d) numeric, as many telex and 2^d detoned ..
abbrev pub several : Kind → ℕ → ℕ → ℕ
several Detoned n d = 2 ^ d
several Numeric n d = 4 ^ d * 2 ^ (n - d)
several Telex n d = 4 ^ d * 2 ^ (n - d)

-- .. or 1 + d of each when n = 1"
abbrev pub counted : Kind → ℕ → ℕ → ℕ
counted kind n d = pick_number (eqb n 1) (1 + d) (several kind n d)

-- ── fully numbered keyings
abbrev pub is_digit : ℕ → Bool
is_digit c = within (point "0") (point "9") c

abbrev pub digits : List ℕ → ℕ
digits [] = 0
digits (c ∷ s) = pick_number (is_digit c) (suc (digits s)) (digits s)

-- "with as many ASCII digits, its tone digits, as the entry has syllables"
abbrev pub is_numbered : ℕ → List ℕ → Bool
is_numbered n keying = eqb (digits keying) n

-- the numeric position holds a fully numbered keying
pub record Numbered (ss : List WellFormed) (position : ℕ) : Type 0 where
  pub inside : position < length (list 1 ss)
  pub full : digits (keying_at 1 ss position) ≡ length ss

-- "cutting after each digit": what each cut ends, and last what is over
abbrev pub cut : List ℕ → Texts
cut [] = [] ∷ []
cut (c ∷ s) = pick_texts (is_digit c) ((c ∷ []) ∷ cut s) (in_front c (cut s))

-- ── pieces
-- what a call wrote into its buffer
abbrev pub output : Reply → List ℕ
output r = take r.length r.buffer

-- "what compose writes from the record that from_raw makes of it"
abbrev pub composed : Reply → List ℕ → Reply
composed r buffer = compose_numbered (output r) (take r.body (output r)) r.tone r.khin buffer

-- a piece and the syllable in the same place, with lent buffers for raw keys and for a text
pub record Returns (piece : List ℕ) (s : WellFormed) (for_keys for_text : List ℕ) : Type 0 where
  -- "Composed, they are the entry's n syllables in order, byte for byte"
  pub reads : (from_raw_call piece for_keys).code ≡ 0
  pub composes : composed (from_raw_call piece for_keys) for_text ≡ answered 0 (syllable_bytes s) for_text
  -- "Each piece aligns with its own syllable over the piece's whole length"
  pub aligns : (align_call unicode16 piece (syllable_bytes s) for_keys).code ≡ 0
  pub whole : (align_call unicode16 piece (syllable_bytes s) for_keys).length ≡ length piece
  -- its digit is the syllable's tone
  pub digit : last piece ≡ point "0" + tone_number s.tone

-- each piece and the syllable in its place; "the lent buffer holds the whole output"
abbrev pub Returning : Texts → List WellFormed → Type 0
Returning [] [] = Unit {0}
Returning [] (s ∷ ss) = ⊥
Returning (p ∷ ps) [] = ⊥
Returning (p ∷ ps) (s ∷ ss) =
    ((for_keys for_text : List ℕ) → length p ≤ length for_keys → length (syllable_bytes s) ≤ length for_text → Returns p s for_keys for_text) × Returning ps ss

-- "gives n pieces and nothing over"
pub record Pieces (keying : List ℕ) (ss : List WellFormed) : Type 0 where
  pub pieces : Texts
  pub cuts : cut keying ≡ pieces ++ ([] ∷ [])
  pub many : length pieces ≡ length ss
  pub returning : Returning pieces ss

-- ── the demand
-- what it says of one entry of well-formed syllables
pub record OfEntry (ss : List WellFormed) : Type 0 where
  -- no call for a keying of its list is refused where the buffer holds the keying
  pub answers : (kind position : ℕ) (buffer : List ℕ) → kind ≤ 2 → position < length (list kind ss) → length (keying_at kind ss position) ≤ length buffer
      → keying_numbered (entry_bytes ss) kind position buffer ≡ keyed unicode16 (length (list kind ss)) (keying_at kind ss position) buffer
  -- "that count is .."
  pub counts : (kind : ℕ) → kind ≤ 2 → length (list kind ss) ≡ counted (kind_of kind) (length ss) (dots ss)
  -- "Exactly 2^d numeric positions hold a fully numbered keying"
  pub numbered : length (passing (is_numbered (length ss)) (list 1 ss)) ≡ 2 ^ dots ss
  -- "Cutting any of these keyings after each digit .."
  pub pieces : (position : ℕ) → Numbered ss position → Pieces (keying_at 1 ss position) ss
  -- "No fully numbered keying belongs to two different such entries"; "Entries differ when their bytes do"
  pub only : (rs : List WellFormed) → Few rs → (i j : ℕ) → Numbered ss i → Numbered rs j → keying_at 1 ss i ≡ keying_at 1 rs j
      → entry_bytes ss ≡ entry_bytes rs

-- "a single claim over all entries with all their keyings and pieces"
pub record Demand3 : Type 0 where
  -- "Every entry call not refused reports as its count the length of the list .., and gives the keying at the position named"
  pub calls : (bytes : List ℕ) (kind position : ℕ) (buffer : List ℕ) → (keying_numbered bytes kind position buffer).code ≡ 0
      → Answered bytes kind position buffer
  -- "For every entry of n well-formed syllables (1 to 16, as 01 defines them) .."
  pub entries : (ss : List WellFormed) → Few ss → OfEntry ss
