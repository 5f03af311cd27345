-- What the answers of the lookups mean.
use Rattle.std.specs.Prelude.{List, [], ◌∷◌, ℕ, ◌/◌, ◌%◌, eqb}
use Rattle.std.proofs.Math.Option.{Option, none, some}
use Rattle.ucd.specs.Table.{decomposition, pick_text, pick_mapping, pick_point, same}
use Rattle.ucd.specs.Unicode16.{unicode16}
use Rattle.ucd.specs.declared.Mapping.{Mapping}
use Rattle.ucd.specs.declared.Mapping.TheVariants.{Itself, One, Two}
use Rattle.std.specs.Prelude.{Some, Option as Found, None}

-- the decomposition of c that a mapping says
abbrev pub text_of : ℕ → Mapping → List ℕ
text_of c Itself = c ∷ []
text_of c (One a) = a ∷ []
text_of c (Two a b) = a ∷ b ∷ []

-- the mapping that an answer says: none, or its code points
abbrev pub said : Mapping → Option (List ℕ)
said Itself = none
said (One a) = some (a ∷ [])
said (Two a b) = some (a ∷ b ∷ [])

-- the composite, if there is one
abbrev pub point_of : Found ℕ → Option ℕ
point_of (Some p) = some p
point_of None = none

-- the decomposition of c that a number of the rows stands for: 0 for none, else its first code point times 65536, plus the second, if there is one
abbrev pub unpacked : ℕ → ℕ → List ℕ
unpacked c n =
    pick_text (eqb n 0) (c ∷ []) (pick_text (eqb (n % 65536) 0) (n / 65536 ∷ []) (n / 65536 ∷ n % 65536 ∷ []))

-- the mapping that such a number stands for
abbrev pub unpacked_text : ℕ → List ℕ
unpacked_text n = pick_text (eqb (n % 65536) 0) (n / 65536 ∷ []) (n / 65536 ∷ n % 65536 ∷ [])

abbrev pub unpacked_mapping : ℕ → Option (List ℕ)
unpacked_mapping n = pick_mapping (eqb n 0) none (some (unpacked_text n))

-- p, if its decomposition is a, b
abbrev pub verified : ℕ → ℕ → ℕ → Option ℕ
verified a b p = pick_point (same (decomposition unicode16 p) (a ∷ b ∷ [])) (some p) none
