-- Examples of the telex step: document 01's, and cases that its rules decide, at least one for each branch.
use Rattle.std.specs.Prelude.{List, [], ◌∷◌, ◌++◌, ℕ}
use Rattle.ji.specs.Text.{points, marked, point}
use Rattle.khiin.specs.declared.converter.ToneKeys.{ToneKeys}

-- a text, a key, and the text that they make
abbrev pub Typed : Type 0
Typed = List ℕ × (ℕ × List ℕ)

-- "keys s f l x j j w for t2 t3 t5 t6 t7 t8 t9"
abbrev pub usual : ToneKeys
usual =
    record { t2 = point "s"; t3 = point "f"; t5 = point "l"; t6 = point "x"; t7 = point "j"; t8 = point "j"; t9 = point "w" }

abbrev pub with_usual : List Typed
with_usual =
    -- the key of the text's tone again, in the case that is typed
    (points "ā", (point "j", points "aj"))
    ∷ (points "á", (point "S", points "aS"))
    -- the branches that open a sign, which look at the text as given and edit the stripped one
    ∷ (points "aⁿ", (point "n", points "an"))
    ∷ (points "Áᴺ", (point "N", points "AN"))
    ∷ (marked "o" 0x0358, (point "u", points "ou"))
    ∷ (marked "O" 0x0358, (point "O", points "OO"))
    ∷ (marked "o" 0x0324, (point "o", points "eo"))
    ∷ (marked "o" 0x0324, (point "O", points "EO"))
    ∷ (points "ṳ", (point "u", points "eu"))
    -- u with 0324 apart is no ṳ there, nor is ó with 0358 o with 0358
    ∷ (marked "u" 0x0324, (point "u", points "ṳu"))
    ∷ (marked "ó" 0x0358, (point "u", marked "ó" 0x0358 ++ points "u"))
    -- a tone key, and the same key for two tones
    ∷ (points "a", (point "s", points "á"))
    ∷ (points "ah", (point "j", marked "a" 0x030D ++ points "h"))
    ∷ (points "a", (point "j", points "ā"))
    -- another key joins the text, whose tone may change with its ending
    ∷ (points "ā", (point "h", marked "a" 0x030D ++ points "h"))
    ∷ (marked "a" 0x030D ++ points "h", (point "n", points "āhn"))
    ∷ (points "á", (point " ", points "á"))
    -- a text of tone 1 without a tone letter takes no tone
    ∷ (points "t", (point "s", points "ts"))
    ∷ (points "b", (point " ", points "b"))
    ∷ ([], (point "s", points "s"))
    ∷ []

-- digits, whatever is set
abbrev pub with_digits : List Typed
with_digits = (points "a", (point "2", points "á")) ∷ (points "a", (point "s", points "as")) ∷ []

-- t8 has the key of t9: "tone keys are tried t2 t3 t5 t6 t7 t9 t8", so that a text that ends in no stop takes tone 9
abbrev pub shared : ToneKeys
shared =
    record { t2 = point "s"; t3 = point "f"; t5 = point "l"; t6 = point "x"; t7 = point "j"; t8 = point "w"; t9 = point "w" }

abbrev pub with_shared : List Typed
with_shared = (points "a", (point "w", points "ă")) ∷ (points "ahⁿ", (point "w", marked "a" 0x030D ++ points "hⁿ")) ∷ []

-- an upper-case key, which no typed key in lower case matches: it acts through the shared t8 alone
abbrev pub upper : ToneKeys
upper =
    record { t2 = point "S"; t3 = point "f"; t5 = point "l"; t6 = point "x"; t7 = point "j"; t8 = point "S"; t9 = point "w" }

abbrev pub with_upper : List Typed
with_upper = (points "a", (point "S", points "aS")) ∷ (marked "a" 0x030D ++ points "h", (point "n", points "áhn")) ∷ []
