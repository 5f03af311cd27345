-- Texts that hold 0358 (document 01, "khiin: entries" and "from_composed"), by their bytes.
use Rattle.std.specs.Prelude.{Bool, false, ◌&&◌, ◌||◌, List, [], ◌∷◌, ℕ, eqb, get_or}

-- a text holds 0358, which is CD 98
unfoldable pub dot_in : List ℕ → Bool
dot_in [] = false
dot_in (b ∷ s) = (eqb b 0xCD && eqb (get_or s 0 0) 0x98) || dot_in s
