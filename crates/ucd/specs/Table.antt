-- The table (document 01, "ji: the table"): its code points, and of each its decomposition and combining class, as the Unicode Character
-- Database gives them. Every definition is over a table that is a parameter: an edition is one value of this record.
use Rattle.std.specs.Prelude.{◌≡◌, Bool, true, false, not, ◌&&◌, ◌||◌, List, [], ◌∷◌, ℕ, leb, eqb}
use Rattle.std.proofs.Math.Option.{Option, none, some}

pub record Table : Type 0 where
  -- the code points, in ranges: the first and the last of each
  pub ranges : List (ℕ × ℕ)
  -- UnicodeData.txt, field 5 where it has no tag: a code point and its canonical Decomposition_Mapping
  pub mappings : List (ℕ × List ℕ)
  -- UnicodeData.txt, field 3: a code point and its Canonical_Combining_Class, where that is not 0
  pub classes : List (ℕ × ℕ)
  -- CompositionExclusions.txt: code points that composition never makes
  pub exclusions : List ℕ
  -- how often a mapping has to be applied until nothing decomposes any further
  pub depth : ℕ

-- P holds of each code point of a text
abbrev pub All : (ℕ → Type 0) → List ℕ → Type 0
All P [] = Unit {0}
All P (c ∷ s) = P c × All P s

abbrev pub pick_number : Bool → ℕ → ℕ → ℕ
pick_number true a b = a
pick_number false a b = b

abbrev pub pick_text : Bool → List ℕ → List ℕ → List ℕ
pick_text true a b = a
pick_text false a b = b

abbrev pub pick_point : Bool → Option ℕ → Option ℕ → Option ℕ
pick_point true a b = a
pick_point false a b = b

abbrev pub pick_mapping : Bool → Option (List ℕ) → Option (List ℕ) → Option (List ℕ)
pick_mapping true a b = a
pick_mapping false a b = b

-- two texts are the same
unfoldable pub same : List ℕ → List ℕ → Bool
same [] [] = true
same [] (y ∷ ys) = false
same (x ∷ xs) [] = false
same (x ∷ xs) (y ∷ ys) = eqb x y && same xs ys

unfoldable pub in_ranges : List (ℕ × ℕ) → ℕ → Bool
in_ranges [] c = false
in_ranges (r ∷ rs) c = (leb r.0 c && leb c r.1) || in_ranges rs c

unfoldable pub mapping_in : List (ℕ × List ℕ) → ℕ → List ℕ
mapping_in [] c = c ∷ []
mapping_in (r ∷ rs) c = pick_text (eqb r.0 c) r.1 (mapping_in rs c)

unfoldable pub mapping_of : List (ℕ × List ℕ) → ℕ → Option (List ℕ)
mapping_of [] c = none
mapping_of (r ∷ rs) c = pick_mapping (eqb r.0 c) (some r.1) (mapping_of rs c)

unfoldable pub class_in : List (ℕ × ℕ) → ℕ → ℕ
class_in [] c = 0
class_in (r ∷ rs) c = pick_number (eqb r.0 c) r.1 (class_in rs c)

unfoldable pub listed : List ℕ → ℕ → Bool
listed [] c = false
listed (x ∷ xs) c = eqb x c || listed xs c

module _ (t : Table) where
  -- c is a code point of the table
  unfoldable pub member : ℕ → Bool
  member c = in_ranges t.ranges c

  -- the mapping of c, if it has one
  unfoldable pub mapping : ℕ → Option (List ℕ)
  mapping c = mapping_of t.mappings c

  -- the decomposition of c: its mapping, or c itself where it has none
  unfoldable pub decomposition : ℕ → List ℕ
  decomposition c = mapping_in t.mappings c

  -- the canonical combining class of c, ccc(c)
  unfoldable pub combining_class : ℕ → ℕ
  combining_class c = class_in t.classes c

  -- D114: p is a primary composite, and its decomposition is a, b. What D113 excludes is a p that CompositionExclusions.txt lists, that is no
  -- starter, or whose decomposition is a single code point or begins with no starter
  unfoldable pub is_composite : ℕ → ℕ → ℕ → Bool
  is_composite a b p = same (decomposition p) (a ∷ b ∷ []) && (not (listed t.exclusions p) && (eqb (combining_class p) 0 && eqb (combining_class a) 0))

  unfoldable pub composite_in : List (ℕ × List ℕ) → ℕ → ℕ → Option ℕ
  composite_in [] a b = none
  composite_in (r ∷ rs) a b = pick_point (is_composite a b r.0) (some r.0) (composite_in rs a b)

  -- the primary composite of a and b, among the code points that have a mapping
  unfoldable pub composite : ℕ → ℕ → Option ℕ
  composite a b = composite_in t.mappings a b

  -- c has no decomposition but itself
  abbrev pub Atom : ℕ → Type 0
  Atom c = decomposition c ≡ c ∷ []
