-- Well-formed syllables, and entries of them (document 01, "khiin: Syllable", the paragraph "Well formed", in its order).
use Rattle.std.specs.Prelude.{Bool, true, false, not, ℕ, suc, ◌+◌, ◌-◌, ◌≤◌, eqb, length, take, drop}
use mathlib.Core.List.{List, [], ◌∷◌, ◌++◌, map, Memᴰ}
use Rattle.std.proofs.Math.Option.{Option, none, some}
use Prim.Native.String.{String}
use Rattle.ji.specs.Unicode.{unicode16, pick_number, listed}
use Rattle.ji.specs.Text.{points, marked, point, within, last, replace_all}
use Rattle.ji.specs.Tone.{pick_tone}
use Rattle.ji.specs.Lomaji.ToneLetter.{tone_letter}
use Rattle.ji.specs.declared.tone.Tone.{Tone}
use Rattle.ji.specs.declared.tone.Tone.TheVariants.{T1, T2, T3, T4, T5, T6, T7, T8, T9}
use Rattle.khiin.specs.Syllable.{mark_of, encoded}

abbrev pub Texts : Type 0
Texts = List (List ℕ)

-- the code points of quoted texts
abbrev pub quoted : List String → Texts
quoted ss = map points ss

-- each text of the first list, followed by each of the second
abbrev pub followed : Texts → Texts → Texts
followed [] ys = []
followed (x ∷ xs) ys = map (λ (y : List ℕ). x ++ y) ys ++ followed xs ys

abbrev pub pick_texts : Bool → Texts → Texts → Texts
pick_texts true a b = a
pick_texts false a b = b

-- the texts that pass a test
abbrev pub passing : (List ℕ → Bool) → Texts → Texts
passing test [] = []
passing test (x ∷ xs) = pick_texts (test x) (x ∷ passing test xs) (passing test xs)

-- ── a syllable without its tone
-- "onset (none, p ph b m t th n l k kh g ng h ch chh j s)"
abbrev pub onsets : Texts
onsets = quoted ("" ∷ "p" ∷ "ph" ∷ "b" ∷ "m" ∷ "t" ∷ "th" ∷ "n" ∷ "l" ∷ "k" ∷ "kh" ∷ "g" ∷ "ng" ∷ "h" ∷ "ch" ∷ "chh" ∷ "j" ∷ "s" ∷ [])

-- "a nucleus (a e i o o+0358 u ai au ia io iu ui oa oe iau oai)"
abbrev pub nuclei : Texts
nuclei =
    quoted ("a" ∷ "e" ∷ "i" ∷ "o" ∷ [])
    ++ (marked "o" 0x0358 ∷ quoted ("u" ∷ "ai" ∷ "au" ∷ "ia" ∷ "io" ∷ "iu" ∷ "ui" ∷ "oa" ∷ "oe" ∷ "iau" ∷ "oai" ∷ []))

-- "a coda (none, m n ng p t k h)"
abbrev pub codas : Texts
codas = quoted ("" ∷ "m" ∷ "n" ∷ "ng" ∷ "p" ∷ "t" ∷ "k" ∷ "h" ∷ [])

-- "a syllabic m or ng (as in hng), bare or followed by h"
abbrev pub syllabics : Texts
syllabics = followed (quoted ("m" ∷ "ng" ∷ [])) (quoted ("" ∷ "h" ∷ []))

-- "207F may end it after a nucleus with coda none or h, unless the nucleus ends in plain o"
abbrev pub ends_in_plain_o : List ℕ → Bool
ends_in_plain_o s = eqb (last s) (point "o")

abbrev pub nasals : Texts
nasals = followed (passing (λ (n : List ℕ). not (ends_in_plain_o n)) nuclei) (quoted ("ⁿ" ∷ "hⁿ" ∷ []))

-- what may follow the onset
unfoldable pub rimes : Texts
rimes = followed nuclei codas ++ (nasals ++ syllabics)

-- "The first letter may be upper case"
abbrev pub upper : ℕ → ℕ
upper c = pick_number (within (point "a") (point "z") c) (c - 32) c

abbrev pub cased : Bool → List ℕ → List ℕ
cased false s = s
cased true [] = []
cased true (c ∷ s) = upper c ∷ s

-- ── its tone
-- "a coda p t k h or the final h", before 207F if there is one
unfoldable pub stopped : List ℕ → Bool
stopped rime = listed (points "ptkh") (last (replace_all (points "ⁿ") [] rime))

-- "T4 has a coda p t k h or the final h ..; T1 has neither of those ..; the other seven tones"
abbrev pub tones_of : List ℕ → List Tone
tones_of rime = pick_tone (stopped rime) T4 T1 ∷ T2 ∷ T3 ∷ T5 ∷ T6 ∷ T7 ∷ T8 ∷ T9 ∷ []

-- a well-formed syllable
pub record WellFormed : Type 0 where
  pub onset : List ℕ
  pub rime : List ℕ
  pub capital : Bool
  pub tone : Tone
  pub onset_in : Memᴰ onset onsets
  pub rime_in : Memᴰ rime rimes
  pub tone_in : Memᴰ tone (tones_of rime)

-- ── its text
-- without a mark
unfoldable pub unmarked : WellFormed → List ℕ
unmarked s = cased s.capital (s.onset ++ s.rime)

-- T4 and T1 have "no mark"; the others "have their one mark after the tone letter of the text without it"
abbrev pub with_mark : List ℕ → List ℕ → Option ℕ → List ℕ
with_mark s mark none = s
with_mark s mark (some k) = take (k + 1) s ++ (mark ++ drop (k + 1) s)

-- "Every well-formed syllable, marked or not, is in compose's encoding: NFC, then its swap"
unfoldable pub text : WellFormed → List ℕ
text s = encoded unicode16 (with_mark (unmarked s) (mark_of s.tone) (tone_letter (unmarked s)))

-- ── an entry
-- "exactly one space between neighbours and no other"
abbrev pub spaced : Texts → List ℕ
spaced [] = []
spaced (w ∷ []) = w
spaced (w ∷ (v ∷ ws)) = w ++ (point " " ∷ spaced (v ∷ ws))

unfoldable pub entry : List WellFormed → List ℕ
entry ss = spaced (map text ss)

-- "n well-formed syllables (1 to 16 ..)" (demand 3)
pub record Few (ss : List WellFormed) : Type 0 where
  pub some : 1 ≤ length ss
  pub most : length ss ≤ 16

-- "d of them with U+0358" (demand 3)
unfoldable pub dotted : WellFormed → Bool
dotted s = listed (text s) 0x0358

abbrev pub dots : List WellFormed → ℕ
dots [] = 0
dots (s ∷ ss) = pick_number (dotted s) (suc (dots ss)) (dots ss)
