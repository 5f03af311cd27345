-- Examples of records: document 01's, and cases that its rules decide.
use Rattle.std.specs.Prelude.{List, [], ◌∷◌, ℕ}
use Rattle.ji.specs.Text.{points, marked}
use Rattle.ji.specs.declared.tone.Tone.{Tone}
use Rattle.ji.specs.declared.tone.Tone.TheVariants.{None, T1, T2, T4}
use Rattle.ji.specs.declared.lomaji.khin.Khin.{Khin}
use Rattle.ji.specs.declared.lomaji.khin.Khin.TheVariants.{No, Yes}

-- raw keys, and the body, the keys behind it and the tone that they give
abbrev pub Raw : Type 0
Raw = List ℕ × List ℕ × List ℕ × Tone

abbrev pub from_keys : List Raw
from_keys =
    ([], [], [], None)
    ∷ (points "hoan2", points "hoan", points "2", T2)
    ∷ (points "a0", points "a0", [], None)
    ∷ (points "2", [], points "2", T2)
    ∷ (points "a1i1", points "a1i", points "1", T1)
    ∷ (points "a1i", points "a1i", [], None)
    ∷ []

-- raw keys, the syllable that they are aligned with, and how many were typed for it
abbrev pub Aligned : Type 0
Aligned = List ℕ × List ℕ × ℕ

abbrev pub alignments : List Aligned
alignments =
    (points "a1i1", points "a", 3)
    ∷ (points "b", points "a", 0)
    ∷ (points "ax1", points "a", 2)
    ∷ (points "o11", marked "o" 0x0358, 2)
    ∷ (points "a2x2", points "á", 3)
    ∷ (points "--a2", points "--á", 0)
    ∷ (points "1", [], 0)
    ∷ (points "HOAN2", points "hoán", 5)
    ∷ (points "ou2", marked "ó" 0x0358, 3)
    ∷ (points "oo2", marked "ó" 0x0358, 3)
    ∷ []

-- composed syllables, and the body and the keys of each candidate, with tone and khin of all
abbrev pub Composed : Type 0
Composed = List ℕ × List (List ℕ × List ℕ) × Tone × Khin

abbrev pub candidates : List Composed
candidates =
    ([], ([], []) ∷ [], None, No)
    ∷ (points "--á", (points "a", points "20") ∷ [], T2, Yes)
    ∷ (points "·ah", (points "ah", points "40") ∷ [], T4, Yes)
    ∷ (points "--", ([], points "10") ∷ [], T1, Yes)
    ∷ (marked "ó" 0x0358, (points "ou", points "2") ∷ (points "oo", points "2") ∷ [], T2, No)
    ∷ (points "ṳⁿ", (points "eunn", points "1") ∷ [], T1, No)
    ∷ (points "ᴺ", (points "ᴺ", points "1") ∷ [], T1, No)
    ∷ []
