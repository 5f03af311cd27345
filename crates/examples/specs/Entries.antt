-- Lists of keyings: those that document 01 writes out, and short ones that its rules decide.
use Rattle.std.specs.Prelude.{List, [], ◌∷◌, ℕ}
use Rattle.ji.specs.Text.{points, marked}

-- "For `tâi oân`, whole": the last part varies fastest
abbrev pub taioan_numeric : List (List ℕ)
taioan_numeric = points "tai5oan5" ∷ points "tai5oan" ∷ points "taioan5" ∷ points "taioan" ∷ []

abbrev pub taioan_telex : List (List ℕ)
taioan_telex = points "tailoanl" ∷ points "tailoan" ∷ points "taioanl" ∷ points "taioan" ∷ []

abbrev pub taioan_detoned : List (List ℕ)
taioan_detoned = points "taioan" ∷ []

-- tone 6 has the key 6 in telex keyings, and not x
abbrev pub six_telex : List (List ℕ)
six_telex = points "a6" ∷ []

-- a part that holds 0358: alone it has two numeric choices, "plain, `_oo`", and behind another part four, "plain, `_oo`, detoned, detoned `_oo`"
abbrev pub boo : List ℕ
boo = marked "bó" 0x0358

abbrev pub boo_alone : List (List ℕ)
boo_alone = points "bou2" ∷ points "boo2" ∷ []

abbrev pub boo_behind : List (List ℕ)
boo_behind =
    points "a1bou2" ∷ points "a1boo2" ∷ points "a1bou" ∷ points "a1boo" ∷ points "abou2" ∷ points "aboo2" ∷ points "abou" ∷ points "aboo" ∷ []
