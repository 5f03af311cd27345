-- Examples of compose: document 01's, and cases that its rules decide.
use Rattle.std.specs.Prelude.{List, [], ◌∷◌, ◌++◌, ℕ}
use Rattle.ji.specs.Text.{points, marked}

-- raw keys, and what compose writes from the record that from_raw makes of them
abbrev pub composed_keys : List (List ℕ × List ℕ)
composed_keys =
    (points "oo2", points "ó" ++ (0x0358 ∷ []))
    ∷ (points "eo8", marked "o" 0x030D ++ (0x0324 ∷ []))
    ∷ (points "onn1", marked "o" 0x0358 ++ points "ⁿ")
    ∷ (points "x2", points "x2")
    ∷ (points "Eo1", marked "o" 0x0324)
    ∷ (points "hoan2", points "hoán")
    ∷ (points "eou", marked "o" 0x0324 ++ (0x0358 ∷ []))
    ∷ (points "ooo", marked "o" 0x0358 ++ points "o")
    ∷ (points "oxoan2", points "oxoán")
    ∷ (points "mn2", points "mń")
    ∷ (points "eu1", points "ṳ")
    ∷ ([], [])
    ∷ []

-- bodies, and how they are spelled: sixteen passes; every nn, and only where the text ends in one; the moves to the end; the O rules, and what has
-- none
abbrev pub spelled_bodies : List (List ℕ × List ℕ)
spelled_bodies =
    (points "Ooo", marked "O" 0x0358 ++ (0x0358 ∷ []))
    ∷ (points "annonn", points "aⁿ" ++ (marked "o" 0x0358 ++ points "ⁿ"))
    ∷ (points "nna", points "nna")
    ∷ (points "aNN", points "aᴺ")
    ∷ (points "aⁿi", points "aiⁿ")
    ∷ (points "aⁿᴺn", points "anⁿᴺ")
    ∷ (points "ONN", marked "O" 0x0358 ++ points "ᴺ")
    ∷ (points "ohnn", marked "o" 0x0358 ++ points "hⁿ")
    ∷ (points "oNN", points "oᴺ")
    ∷ (points "oHnn", points "oHⁿ")
    ∷ (points "OhNN", points "Ohᴺ")
    ∷ []
