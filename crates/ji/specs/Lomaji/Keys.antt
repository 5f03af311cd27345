-- Keys of one syllable (document 01, "ji: keys of one syllable").
use Rattle.std.specs.Prelude.{List, [], ◌∷◌, ◌++◌, ℕ, take, drop}
use Rattle.ucd.specs.Table.{Table}
use Rattle.ji.specs.Text.{points, marked, replace_all}
use Rattle.ji.specs.Tone.{tone_number}
use Rattle.ji.specs.Lomaji.Strip.{Stripped, strip}
use Rattle.ji.specs.declared.lomaji.keys.Form.{Form}
use Rattle.ji.specs.declared.lomaji.keys.Form.TheVariants.{Plain, Oo}
use Rattle.ji.specs.declared.lomaji.keys.Kind.{Kind}
use Rattle.ji.specs.declared.lomaji.keys.Kind.TheVariants.{Detoned, Numeric, Telex}
use Rattle.std.specs.Prelude.{Some, Option, None}

-- "o+0358→ou, O+0358→Ou, 207F→nn, 1D3A→NN, o+0324→eo, u+0324→eu"
abbrev pub plain_rules : List (List ℕ × List ℕ)
plain_rules =
    (marked "o" 0x0358, points "ou")
    ∷ (marked "O" 0x0358, points "Ou")
    ∷ (points "ⁿ", points "nn")
    ∷ (points "ᴺ", points "NN")
    ∷ (marked "o" 0x0324, points "eo")
    ∷ (marked "u" 0x0324, points "eu")
    ∷ []

-- "The `_oo` form has oo and Oo"
abbrev pub oo_rules : List (List ℕ × List ℕ)
oo_rules =
    (marked "o" 0x0358, points "oo")
    ∷ (marked "O" 0x0358, points "Oo")
    ∷ (points "ⁿ", points "nn")
    ∷ (points "ᴺ", points "NN")
    ∷ (marked "o" 0x0324, points "eo")
    ∷ (marked "u" 0x0324, points "eu")
    ∷ []

abbrev pub rules_of : Form → List (List ℕ × List ℕ)
rules_of Plain = plain_rules
rules_of Oo = oo_rules

-- "one pass each, in that order"
abbrev pub respell : List (List ℕ × List ℕ) → List ℕ → List ℕ
respell [] s = s
respell (r ∷ rs) s = respell rs (replace_all r.0 r.1 s)

-- "Numeric adds the tone digit; telex adds character number tone of `01sf4l6jjw`; detoned adds nothing"
abbrev pub tone_keys : Kind → List ℕ
tone_keys Detoned = []
tone_keys Numeric = points "0123456789"
tone_keys Telex = points "01sf4l6jjw"

-- a stripped syllable in keys, with the tone's key taken from a list of ten (none from an empty one)
unfoldable pub keyed : List (List ℕ × List ℕ) → List ℕ → Stripped → List ℕ
keyed rules tones s = respell rules s.rest ++ take 1 (drop (tone_number s.tone) tones)

-- `poj_syl_to_key_sequences` and its `_oo` form
unfoldable pub keys : Table → Form → Kind → List ℕ → List ℕ
keys t form kind s = keyed (rules_of form) (tone_keys kind) (strip t s)

-- the key of a tone as the code has it
abbrev pub key_text : Option ℕ → List ℕ
key_text None = []
key_text (Some k) = k ∷ []
