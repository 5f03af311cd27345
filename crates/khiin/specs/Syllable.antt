-- `compose` (document 01, "khiin: Syllable"). Texts are code points; what the call hands over are their bytes.
use Rattle.std.specs.Prelude.{Bool, false, ◌&&◌, List, [], ◌∷◌, ◌++◌, ℕ, ◌+◌, ◌-◌, eqb, length, take, drop}
use Rattle.std.proofs.Math.Option.{Option, none, some}
use Rattle.ji.specs.Unicode.{Table, pick_text, listed}
use Rattle.ji.specs.Text.{points, marked, point, lower, last, replace_all}
use Rattle.ji.specs.Utf8.{encode}
use Rattle.ji.specs.Nfc.{nfc}
use Rattle.ji.specs.Tone.{tone_number}
use Rattle.ji.specs.Reply.{Reply, refused, placed, Checked, good, bad, check_text}
use Rattle.ji.specs.Lomaji.Strip.{tone_marks}
use Rattle.ji.specs.Lomaji.ToneLetter.{tone_letter}
use Rattle.ji.specs.Lomaji.Keys.{respell}
use Rattle.ji.specs.declared.tone.Tone.{Tone}
use Rattle.ji.specs.declared.lomaji.khin.Khin.{Khin}
use Rattle.ji.specs.declared.lomaji.khin.Khin.TheVariants.{No, Yes}

-- "the replacements of 000 in its order. The literal ṳ is taken as u+0324"
abbrev pub vowel_rules : List (List ℕ × List ℕ)
vowel_rules =
    (points "ou", marked "o" 0x0358)
    ∷ (points "oU", marked "o" 0x0358)
    ∷ (points "Ou", marked "O" 0x0358)
    ∷ (points "OU", marked "O" 0x0358)
    ∷ (points "oo", marked "o" 0x0358)
    ∷ (points "oO", marked "o" 0x0358)
    ∷ (points "Oo", marked "O" 0x0358)
    ∷ (points "OO", marked "O" 0x0358)
    ∷ (points "eo", marked "o" 0x0324)
    ∷ (points "Eo", marked "o" 0x0324)
    ∷ (points "eO", marked "O" 0x0324)
    ∷ (points "EO", marked "O" 0x0324)
    ∷ (points "eu", marked "u" 0x0324)
    ∷ (points "Eu", marked "u" 0x0324)
    ∷ (points "eU", marked "U" 0x0324)
    ∷ (points "EU", marked "U" 0x0324)
    ∷ []

-- "one of a e i o u p t k h m 0358 and then nn (case ignored)", as a whole text
unfoldable pub is_nasal_end : List ℕ → Bool
is_nasal_end [] = false
is_nasal_end (c ∷ []) = false
is_nasal_end (c ∷ a ∷ []) = false
is_nasal_end (c ∷ a ∷ b ∷ []) = listed (marked "aeiouptkhm" 0x0358) (lower c) && eqb (lower a) (point "n") && eqb (lower b) (point "n")
is_nasal_end (c ∷ a ∷ b ∷ (x ∷ s)) = false

-- "If the text ends in" it
unfoldable pub ends_nasal : List ℕ → Bool
ends_nasal s = is_nasal_end (drop (length s - 3) s)

-- "every nn, nN and Nn becomes 207F, NN 1D3A"
abbrev pub nasal_rules : List (List ℕ × List ℕ)
nasal_rules = (points "nn", points "ⁿ") ∷ (points "nN", points "ⁿ") ∷ (points "Nn", points "ⁿ") ∷ (points "NN", points "ᴺ") ∷ []

unfoldable pub nasalised : List ℕ → List ℕ
nasalised s = pick_text (ends_nasal s) (respell nasal_rules s) s

-- "Then the move to the end": each of the sign goes, and one stands at the end, unless the text has none or ends in it
unfoldable pub moved : ℕ → List ℕ → List ℕ
moved sign s = pick_text (listed s sign) (pick_text (eqb (last s) sign) s (replace_all (sign ∷ []) [] s ++ (sign ∷ []))) s

-- "the O rules"
abbrev pub o_rules : List (List ℕ × List ℕ)
o_rules =
    (points "Oᴺ", marked "O" 0x0358 ++ points "ᴺ")
    ∷ (points "Oⁿ", marked "O" 0x0358 ++ points "ⁿ")
    ∷ (points "oⁿ", marked "o" 0x0358 ++ points "ⁿ")
    ∷ (points "OHᴺ", marked "O" 0x0358 ++ points "Hᴺ")
    ∷ (points "Ohⁿ", marked "O" 0x0358 ++ points "hⁿ")
    ∷ (points "ohⁿ", marked "o" 0x0358 ++ points "hⁿ")
    ∷ []

-- the body as it is spelled
unfoldable pub spelled : List ℕ → List ℕ
spelled body = respell o_rules (moved (point "ᴺ") (moved (point "ⁿ") (nasalised (respell vowel_rules body))))

-- ""--" for khin"
abbrev pub khin_text : Khin → List ℕ
khin_text No = []
khin_text Yes = points "--"

-- "A composed answer is NFC with 0324 030D swapped to 030D 0324"
unfoldable pub encoded : Table → List ℕ → List ℕ
encoded t s = replace_all (0x0324 ∷ 0x030D ∷ []) (0x030D ∷ 0x0324 ∷ []) (nfc t s)

-- "Tones 0, 1, 4 add no mark": the mark of a tone, or none
abbrev pub marks_in : List (ℕ × Tone) → Tone → List ℕ
marks_in [] _ = []
marks_in (m ∷ ms) tone = pick_text (eqb (tone_number m.1) (tone_number tone)) (m.0 ∷ []) (marks_in ms tone)

unfoldable pub mark_of : Tone → List ℕ
mark_of tone = marks_in tone_marks tone

-- "otherwise the mark follows the tone letter, or without one the answer is raw_input as given"
abbrev pub composed_at : Table → List ℕ → List ℕ → List ℕ → Option ℕ → List ℕ
composed_at t raw_input s mark none = raw_input
composed_at t raw_input s mark (some k) = encoded t (take (k + 1) s ++ (mark ++ drop (k + 1) s))

abbrev pub composed_with : Table → List ℕ → List ℕ → List ℕ → List ℕ
composed_with t raw_input s [] = encoded t s
composed_with t raw_input s (m ∷ ms) = composed_at t raw_input s (m ∷ ms) (tone_letter s)

-- `compose`
unfoldable pub compose : Table → List ℕ → List ℕ → Tone → Khin → List ℕ
compose t raw_input body tone khin = composed_with t raw_input (khin_text khin ++ spelled body) (mark_of tone)

-- ── the call
-- "With two texts, the first passes 2 to 4 before the second. Compose takes raw input first, then body"
abbrev pub compose_of : Table → Tone → Khin → Checked → Checked → List ℕ → Reply
compose_of t tone khin (good raw_input) (good body) buffer = placed 0 (encode (compose t raw_input body tone khin)) buffer
compose_of t _ khin (good raw_input) (bad why) buffer = refused why buffer
compose_of t _ khin (bad why) body buffer = refused why buffer

unfoldable pub compose_call : Table → List ℕ → List ℕ → Tone → Khin → List ℕ → Reply
compose_call t raw_input body tone khin buffer = compose_of t tone khin (check_text t raw_input) (check_text t body) buffer
