-- What the parts of `compose` hand on to each other.
use Rattle.std.specs.Prelude.{◌≡◌, Bool, true, false, not, ◌&&◌, ◌||◌, List, [], ◌∷◌, ◌++◌, ℕ, ◌+◌, ◌-◌, ◌≤◌, ◌<◌, ltb, eqb, length, take, drop, get_or}
use Rattle.std.proofs.Math.Option.{none, some}
use Rattle.ji.specs.Unicode.{unicode16, listed, composite}
use Rattle.ji.specs.Text.{points, marked, point, lower, begins, all_ascii}
use Rattle.ji.specs.Reply.{Reply, text_reply}
use Rattle.ji.specs.Lomaji.Keys.{respell}
use Rattle.khiin.specs.Syllable.{vowel_rules, o_rules, ends_nasal, nasalised, moved}
use Rattle.khiin.specs.declared.syllable.compose.Settled.{Settled}
use Rattle.khiin.specs.declared.syllable.marking.Joined.{Joined}
use Rattle.khiin.specs.declared.syllable.marking.Joined.TheVariants.{Composite, Apart, Unknown}
use Rattle.std.specs.Prelude.{Result, Some, Option, None, ⊤}
use Rattle.ji.specs.declared.unicode.ByteLen.{ByteLen}
use Rattle.ji.specs.declared.reply.Refusal.{Refusal}

-- the text s stands at the front of a buffer, and has n elements; what is behind it is left open
pub record Front (buffer : List ℕ) (n : ℕ) (s : List ℕ) : Type 0 where
  pub is : take n buffer ≡ s
  pub size : length s ≡ n

-- a mark as the code has it
abbrev pub mark_text : Option ℕ → List ℕ
mark_text None = []
mark_text (Some m) = m ∷ []

-- a text begins with two letters that one of the vowel rules replaces
unfoldable pub is_pair : List ℕ → Bool
is_pair [] = false
is_pair (x ∷ s) = listed (points "oOeE") x && listed (points "oOuU") (get_or s 0 0)

-- nn stands at the beginning of a text, case ignored
unfoldable pub is_nasal_pair : List ℕ → Bool
is_nasal_pair [] = false
is_nasal_pair (x ∷ s) = eqb (lower x) (point "n") && eqb (lower (get_or s 0 0)) (point "n")

-- no pair of vowels begins from one place on and before another
abbrev pub NoPairIn : ℕ → ℕ → List ℕ → Type 0
NoPairIn from to s = (k : ℕ) → from ≤ k → k < to → is_pair (drop k s) ≡ false

-- nn stands nowhere but at the end
abbrev pub NoNasalBefore : List ℕ → Type 0
NoNasalBefore s = (k : ℕ) → k + 2 < length s → is_nasal_pair (drop k s) ≡ false

-- no code point but the last is a sign, or stands above the signs in the table
abbrev pub NoSignBefore : List ℕ → Type 0
NoSignBefore s = (k : ℕ) → k + 1 < length s → get_or s k 0 < 0x1D3A

-- a body with the vowel rules, the nasal rules and the moves to the end: what is left are the O rules
unfoldable pub settled_body : List ℕ → List ℕ
settled_body s = moved (point "ᴺ") (moved (point "ⁿ") (nasalised (respell vowel_rules s)))

-- the text s stands at the front of a buffer, as r tells
pub record SettledAs (buffer s : List ℕ) (r : Settled) : Type 0 where
  pub front : Front buffer r.len s
  pub lone : r.lone ≡ true → NoSignBefore s

-- where the O rules put U+0358, if anywhere: behind the first so many code points of s
abbrev pub DotAt : Option ℕ → List ℕ → Type 0
DotAt None s = respell o_rules s ≡ s
DotAt (Some at) s = (at ≤ length s) × (respell o_rules s ≡ take at s ++ (0x0358 ∷ drop at s))

-- nowhere in a text does one of the second letters stand behind one of the first; `before` stands before the text
unfoldable pub apart_from : List ℕ → List ℕ → ℕ → List ℕ → Bool
apart_from firsts seconds before [] = true
apart_from firsts seconds before (x ∷ s) = not (listed firsts before && listed seconds x) && apart_from firsts seconds x s

-- a body in ASCII that no rule changes: no pair of vowels that is replaced, and no nasal end
pub record Plain (s : List ℕ) : Type 0 where
  pub ascii : all_ascii s ≡ true
  pub apart : apart_from (points "oOeE") (points "oOuU") 0 s ≡ true
  pub oral : ends_nasal s ≡ false

-- what the quick way says: None that it wrote nothing, any other the answer
abbrev pub QuickAs : Option (Result ByteLen Refusal) → List ℕ → List ℕ → Reply → Type 0
QuickAs None before after reply = after ≡ before
QuickAs (Some r) before after reply = text_reply r after ≡ reply

-- the vowel rules that begin with o, and those that begin with e, for a second vowel in both cases
abbrev pub o_pairs : ℕ → ℕ → List (List ℕ × List ℕ)
o_pairs small capital =
    (points "o" ++ (small ∷ []), marked "o" 0x0358)
    ∷ (points "o" ++ (capital ∷ []), marked "o" 0x0358)
    ∷ (points "O" ++ (small ∷ []), marked "O" 0x0358)
    ∷ (points "O" ++ (capital ∷ []), marked "O" 0x0358)
    ∷ []

abbrev pub e_pairs : ℕ → ℕ → List (List ℕ × List ℕ)
e_pairs small capital =
    (points "e" ++ (small ∷ []), small ∷ 0x0324 ∷ [])
    ∷ (points "E" ++ (small ∷ []), small ∷ 0x0324 ∷ [])
    ∷ (points "e" ++ (capital ∷ []), capital ∷ 0x0324 ∷ [])
    ∷ (points "E" ++ (capital ∷ []), capital ∷ 0x0324 ∷ [])
    ∷ []

-- a text begins with the pattern of one of some rules
abbrev pub begins_any : List (List ℕ × List ℕ) → List ℕ → Bool
begins_any [] s = false
begins_any (r ∷ rs) s = begins r.0 s || begins_any rs s

-- a text begins as one of the O rules asks
unfoldable pub takes_dot : List ℕ → Bool
takes_dot s = begins_any o_rules s

-- s with x behind its first k elements, and without its last
abbrev pub inserted : ℕ → ℕ → List ℕ → List ℕ
inserted k x s = take k s ++ (x ∷ take (length s - 1 - k) (drop k s))

-- ── texts that need no normalising
-- x stays as it is behind `before`: it is below 00C0, where nothing decomposes or composes; or 0358 or a sign, with which no composite is made; or
-- 0324 behind an o, with which it makes none
abbrev pub stays_behind : ℕ → ℕ → Bool
stays_behind before x = (ltb x 0xC0 || listed (0x0358 ∷ 0x207F ∷ 0x1D3A ∷ []) x) || (eqb x 0x0324 && listed (points "oO") before)

unfoldable pub settled_from : ℕ → List ℕ → Bool
settled_from before [] = true
settled_from before (x ∷ s) = stays_behind before x && settled_from x s

-- the tone marks
abbrev pub is_mark : ℕ → Bool
is_mark m = listed (0x0300 ∷ 0x0301 ∷ 0x0302 ∷ 0x0303 ∷ 0x0304 ∷ 0x0306 ∷ 0x030D ∷ []) m

-- c is the composite of the ASCII letter x and a tone mark behind it, and one of two bytes
pub record MakeOne (x mark c : ℕ) : Type 0 where
  pub letter : x < 0x80
  pub tone : is_mark mark ≡ true
  pub one : composite unicode16 x mark ≡ some c
  pub small : (0x80 ≤ c) × (c < 0x0300)

-- the ASCII letter x and a tone mark behind it have no composite
pub record MakeNone (x mark : ℕ) : Type 0 where
  pub letter : x < 0x80
  pub tone : is_mark mark ≡ true
  pub apart : composite unicode16 x mark ≡ none

-- what is said of a letter and a mark behind it
abbrev pub JoinedAs : ℕ → ℕ → Joined → Type 0
JoinedAs x mark (Composite c) = MakeOne x mark c
JoinedAs x mark Apart = MakeNone x mark
JoinedAs x mark Unknown = ⊤

-- the same of the letter at k of a text, and besides that the text needs no normalising, where anything is said
abbrev pub JoinedIn : List ℕ → ℕ → ℕ → Joined → Type 0
JoinedIn s k mark (Composite c) = (settled_from 0 s ≡ true) × MakeOne (get_or s k 0) mark c
JoinedIn s k mark Apart = (settled_from 0 s ≡ true) × MakeNone (get_or s k 0) mark
JoinedIn s k mark Unknown = ⊤
