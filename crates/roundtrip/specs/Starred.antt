-- The starred examples of document 01 ("Starred examples"), as one list about the definitions, in its order.
use Rattle.std.specs.Prelude.{◌≡◌, List, [], ◌∷◌, ◌++◌, map, ℕ, take}
use Rattle.ji.specs.Unicode.{unicode16}
use Rattle.ji.specs.Text.{points, marked, point}
use Rattle.ji.specs.Lomaji.Strip.{strip}
use Rattle.ji.specs.declared.tone.Tone.{Tone}
use Rattle.ji.specs.declared.tone.Tone.TheVariants.{T1, T2, T4, T5}
use Rattle.khiin_records.specs.Syllable.{raw, from_raw, from_composed}
use Rattle.khiin_records.specs.Alignment.{aligned}
use Rattle.khiin.specs.Syllable.{compose}
use Rattle.khiin.specs.Converter.{telex}
use Rattle.khiin.specs.declared.converter.ToneKeys.{ToneKeys}
use Rattle.khiin.specs.declared.converter.ToneMode.TheVariants.{Telex}

pub data Example : Type 0 where
  -- a text, what stripping leaves of it, and its tone
  strips : List ℕ → List ℕ → Tone → Example
  -- raw keys, and the text that compose writes from the record of from_raw
  composes : List ℕ → List ℕ → Example
  -- a text, and the raw input of each record of from_composed
  candidates : List ℕ → List (List ℕ) → Example
  -- raw keys, a target, the length, and the body of the record
  aligns : List ℕ → List ℕ → ℕ → List ℕ → Example
  -- raw keys and a target that do not align
  unaligned : List ℕ → List ℕ → Example
  -- a text, a key, and the text that the telex step makes of them
  types : List ℕ → ℕ → List ℕ → Example

-- "keys s f l x j j w for t2 t3 t5 t6 t7 t8 t9"
abbrev pub tone_keys : ToneKeys
tone_keys = record { t2 = point "s"; t3 = point "f"; t5 = point "l"; t6 = point "x"; t7 = point "j"; t8 = point "j"; t9 = point "w" }

abbrev pub starred : List Example
starred =
    strips (points "á") (points "a") T2
    ∷ strips (points "ah") (points "ah") T4
    ∷ strips [] [] T1
    ∷ strips (0x00E1 ∷ 0x0302 ∷ []) (points "a") T5
    ∷ composes (points "oo2") (0x00F3 ∷ 0x0358 ∷ [])
    ∷ composes (points "eo8") (marked "o" 0x030D ++ (0x0324 ∷ []))
    ∷ composes (points "onn1") (marked "o" 0x0358 ++ (0x207F ∷ []))
    ∷ composes (points "x2") (points "x2")
    ∷ candidates (points "--á") (points "a20" ∷ [])
    ∷ aligns (points "a1i1") (points "a") 3 (points "a1i")
    ∷ unaligned (points "b") (points "a")
    ∷ types (points "a") (point "s") (points "á")
    ∷ types (points "ah") (point "j") (marked "a" 0x030D ++ points "h")
    ∷ types (points "ā") (point "j") (points "aj")
    ∷ []

-- what an example says of the definitions
abbrev pub Holds : Example → Type 0
Holds (strips s rest tone) = strip unicode16 s ≡ record { rest = rest; tone = tone }
Holds (composes keys s) = compose unicode16 keys (from_raw keys).body (from_raw keys).tone (from_raw keys).khin ≡ s
Holds (candidates s raws) = map raw (from_composed unicode16 s) ≡ raws
Holds (aligns keys target n body) = (aligned unicode16 keys target ≡ n) × ((from_raw (take n keys)).body ≡ body)
Holds (unaligned keys target) = aligned unicode16 keys target ≡ 0
Holds (types s key t) = telex unicode16 Telex tone_keys key s ≡ t

abbrev pub AllHold : List Example → Type 0
AllHold [] = Unit {0}
AllHold (e ∷ es) = Holds e × AllHold es
