-- The rows that the code reads hold the table of Unicode 16.0: what they give at a number is what the definition gives there. The quick forms with
-- which antt computes equal the definitions too. Assumes nothing.
use mathlib.Core.Path.{◌≡◌, refl, sym, ◌∙◌, ap, ap₂, subst}
use mathlib.Core.Bool.{Bool, true, ◌&&◌}
use mathlib.Core.List.{List, [], ◌∷◌}
use mathlib.Core.Option.{Option, none, some}
use Prim.Native.Nat.{ℕ, ◌+◌, ◌/◌, ◌%◌, ◌<◌}
use native.Mathlib.Omega.{arith}
use lib.Dec.{T, leb, ltb, eqb, eqb→eq, ltb→lt}
use lib.ListN.{get_or}
use borrow.Author.Tests.{ltb-true, le-leb, ne_eqb}
use Rattle.ucd.specs.Table.{pick_text, pick_number, pick_point, same, listed, mapping_in, mapping_of, class_in, mapping, decomposition, combining_class, composite}
use Rattle.ucd.specs.Unicode16.{unicode16, mappings16, classes16, exclusions16}
use Rattle.ucd.specs.Answer.{unpacked, unpacked_text, unpacked_mapping, verified}
use Rattle.ucd.proofs.Tests.{either, both_left, both_right}
use Rattle.ucd.proofs.RowData.{mapping_numbers, class_numbers, displacement_numbers, candidate_numbers, modulus}
use Rattle.ucd.proofs.RowLaw.{row_in, number_at, entries, ascending, number_at_law, row_read, NoRow, no_row_read}
use Rattle.ucd.proofs.Unicode16.{low_atom, low_starter, no_composite}
use Rattle.ucd.proofs.Lists.{each_mapping}
use Rattle.ucd.proofs.Facts.{primary}
use Rattle.ucd.proofs.Candidate.{right_candidate, candidate_composite}

-- The classes.

-- the combining class of c
unfoldable pub class_rows : ℕ → ℕ
unfolding class_numbers
class_rows c = let class = number_at class_numbers c in pick_number (ltb c 0x0300) 0 class

-- the rows are in order
class_numbers_ascend : T (ascending 0 class_numbers)
unfolding class_numbers
class_numbers_ascend = tt

-- the rows hold the table's list
class_entries : entries class_numbers ≡ classes16
unfolding class_numbers classes16
class_entries = refl

-- so each number of the rows is the class
pub class_number : (c : ℕ) → number_at class_numbers c ≡ combining_class unicode16 c
unfolding combining_class unicode16
class_number c = number_at_law 0 class_numbers class_numbers_ascend c ∙ ap (λ (es : List (ℕ × ℕ)). class_in es c) class_entries

-- the quick form is the definition
pub class_rows_law : (c : ℕ) → class_rows c ≡ combining_class unicode16 c
unfolding class_rows
class_rows_law c =
    either (ltb c 0x0300)
    (λ e. rw e (sym (low_starter c (ltb-true c 0x0300 e))))
    (λ e. rw e (class_number c))

-- what an arm of the code's match reads, and what its last arm answers
pub class_arm : (c k : ℕ) → c / 32 ≡ k → get_or (row_in class_numbers k) (c % 32) 0 ≡ combining_class unicode16 c
class_arm c k e = row_read class_numbers c k e ∙ class_number c

pub class_rest : (c : ℕ) → NoRow (Unit {0}) class_numbers (c / 32) → 0 ≡ combining_class unicode16 c
class_rest c h = no_row_read class_numbers c h ∙ class_number c

-- The decompositions.

-- the decomposition of c
unfoldable pub decomposition_rows : ℕ → List ℕ
unfolding mapping_numbers
decomposition_rows c = let text = unpacked c (number_at mapping_numbers c) in pick_text (ltb c 0x00C0) (c ∷ []) text

-- the mappings that entries stand for
abbrev mappings_of : List (ℕ × ℕ) → List (ℕ × List ℕ)
mappings_of [] = []
mappings_of (e ∷ es) = (e.0, unpacked e.0 e.1) ∷ mappings_of es

-- the rows are in order
mapping_numbers_ascend : T (ascending 0 mapping_numbers)
unfolding mapping_numbers
mapping_numbers_ascend = tt

-- the rows hold the table's list
mapping_entries : mappings_of (entries mapping_numbers) ≡ mappings16
unfolding mapping_numbers mappings16
mapping_entries = refl

-- to unpack the number that is found is to find the unpacked mapping
unpacked_in : (es : List (ℕ × ℕ)) (c : ℕ) → unpacked c (class_in es c) ≡ mapping_in (mappings_of es) c
unfolding class_in mapping_in
unpacked_in [] c = refl
unpacked_in (e ∷ es) c = either (eqb e.0 c) (λ h. rw (h, eqb→eq e.0 c (subst T (sym h) tt))) (λ h. rw h (unpacked_in es c))

-- so each number of the rows stands for the decomposition
pub mapping_number : (c : ℕ) → unpacked c (number_at mapping_numbers c) ≡ decomposition unicode16 c
unfolding decomposition unicode16
mapping_number c =
    ap (unpacked c) (number_at_law 0 mapping_numbers mapping_numbers_ascend c) ∙ unpacked_in (entries mapping_numbers) c ∙
    ap (λ (rs : List (ℕ × List ℕ)). mapping_in rs c) mapping_entries

-- the quick form is the definition
pub decomposition_rows_law : (c : ℕ) → decomposition_rows c ≡ decomposition unicode16 c
unfolding decomposition_rows
decomposition_rows_law c =
    either (ltb c 0x00C0)
    (λ e. rw e (sym (low_atom c (ltb-true c 0x00C0 e))))
    (λ e. rw e (mapping_number c))

-- what an arm of the code's match reads, and what its last arm answers
pub mapping_arm : (c k : ℕ) → c / 32 ≡ k → unpacked c (get_or (row_in mapping_numbers k) (c % 32) 0) ≡ decomposition unicode16 c
mapping_arm c k e = ap (unpacked c) (row_read mapping_numbers c k e) ∙ mapping_number c

pub mapping_rest : (c : ℕ) → NoRow (Unit {0}) mapping_numbers (c / 32) → unpacked c 0 ≡ decomposition unicode16 c
mapping_rest c h = ap (unpacked c) (no_row_read mapping_numbers c h) ∙ mapping_number c

-- The mappings: what the rows say of each number, and not only of those that decompose.

-- the mappings that entries stand for
abbrev said_of : List (ℕ × ℕ) → List (ℕ × List ℕ)
said_of [] = []
said_of (e ∷ es) = (e.0, unpacked_text e.1) ∷ said_of es

-- no entry is 0
abbrev numbered : List (ℕ × ℕ) → Bool
numbered [] = true
numbered (e ∷ es) = ltb 0 e.1 && numbered es

-- the rows hold the table's list
said_entries : said_of (entries mapping_numbers) ≡ mappings16
unfolding mapping_numbers mappings16
said_entries = refl

entries_numbered : T (numbered (entries mapping_numbers))
unfolding mapping_numbers
entries_numbered = tt

-- to unpack the number that is found is to find the unpacked mapping
said_in : (es : List (ℕ × ℕ)) (c : ℕ) → T (numbered es) → unpacked_mapping (class_in es c) ≡ mapping_of (said_of es) c
unfolding class_in mapping_of
said_in [] c h = refl
said_in (e ∷ es) c h =
    let some_number : 0 < e.1 = ltb→lt 0 e.1 (both_left (ltb 0 e.1) (numbered es) h) in
    either (eqb e.0 c)
    (λ k. rw (k, ne_eqb e.1 0 (omega arith)))
    (λ k. rw k (said_in es c (both_right (ltb 0 e.1) (numbered es) h)))

-- so each number of the rows stands for the mapping
pub said_number : (c : ℕ) → unpacked_mapping (number_at mapping_numbers c) ≡ mapping unicode16 c
unfolding mapping unicode16
said_number c =
    ap unpacked_mapping (number_at_law 0 mapping_numbers mapping_numbers_ascend c) ∙ said_in (entries mapping_numbers) c entries_numbered ∙
    ap (λ (rs : List (ℕ × List ℕ)). mapping_of rs c) said_entries

-- what an arm of the code's match reads, and what its last arm answers
pub said_arm : (c k : ℕ) → c / 32 ≡ k → unpacked_mapping (get_or (row_in mapping_numbers k) (c % 32) 0) ≡ mapping unicode16 c
said_arm c k e = ap unpacked_mapping (row_read mapping_numbers c k e) ∙ said_number c

pub said_rest : (c : ℕ) → NoRow (Unit {0}) mapping_numbers (c / 32) → unpacked_mapping 0 ≡ mapping unicode16 c
said_rest c h = ap unpacked_mapping (no_row_read mapping_numbers c h) ∙ said_number c

-- The composites.

-- the one code point that can be the composite of a and b
unfoldable pub candidate_of : ℕ → ℕ → ℕ
unfolding displacement_numbers candidate_numbers
candidate_of a b = number_at candidate_numbers (number_at displacement_numbers b + a % modulus)

-- the composite of a and b: the candidate, if its decomposition is a, b
unfoldable pub composite_rows : ℕ → ℕ → Option ℕ
unfolding candidate_of decomposition_rows same
composite_rows a b =
    let p = candidate_of a b in
    let found = pick_point (same (decomposition_rows p) (a ∷ b ∷ [])) (some p) none in
    pick_point (leb 0x0300 b && leb b 0x0338) found none

-- the test: a mapping's candidate is the one that has it exactly if that is a primary composite
candidates_right : T (each_mapping (right_candidate unicode16 candidate_of) mappings16)
unfolding right_candidate primary candidate_of listed class_in combining_class unicode16 mappings16 classes16 exclusions16
candidates_right = tt

-- so the candidate is the composite exactly if its decomposition is a, b
pub candidate_verified : (a b : ℕ) → verified a b (candidate_of a b) ≡ composite unicode16 a b
unfolding unicode16
candidate_verified a b = candidate_composite unicode16 candidate_of candidates_right a b

-- the quick form is the definition
pub composite_rows_law : (a b : ℕ) → composite_rows a b ≡ composite unicode16 a b
unfolding composite_rows
composite_rows_law a b =
    either (leb 0x0300 b && leb b 0x0338)
    (λ h. rw (h, decomposition_rows_law (candidate_of a b)) (candidate_verified a b))
    (λ h. rw h (no_composite a b (λ marks. subst T (sym (ap₂ ◌&&◌ (le-leb 0x0300 b marks.0) (le-leb b 0x0338 marks.1)) ∙ h) tt)))

-- what an arm of the code's first match reads, and what its last arm answers
pub displacement_arm : (b k : ℕ) → b / 32 ≡ k → get_or (row_in displacement_numbers k) (b % 32) 0 ≡ number_at displacement_numbers b
displacement_arm b k e = row_read displacement_numbers b k e

pub displacement_rest : (b : ℕ) → NoRow (Unit {0}) displacement_numbers (b / 32) → 0 ≡ number_at displacement_numbers b
displacement_rest b h = no_row_read displacement_numbers b h

-- what an arm of its second match reads at the displacement d, and what its last arm answers
module _ (a b d : ℕ) (e : d ≡ number_at displacement_numbers b) where
  -- the place is the candidate's
  placed : number_at candidate_numbers (d + a % modulus) ≡ candidate_of a b
  unfolding candidate_of
  placed = ap (λ (m : ℕ). number_at candidate_numbers (m + a % modulus)) e

  pub candidate_arm : (k : ℕ) → (d + a % modulus) / 32 ≡ k
      → verified a b (get_or (row_in candidate_numbers k) ((d + a % modulus) % 32) 0) ≡ composite unicode16 a b
  candidate_arm k h = ap (verified a b) (row_read candidate_numbers (d + a % modulus) k h ∙ placed) ∙ candidate_verified a b

  pub candidate_rest : NoRow (Unit {0}) candidate_numbers ((d + a % modulus) / 32) → verified a b 0 ≡ composite unicode16 a b
  candidate_rest h = ap (verified a b) (no_row_read candidate_numbers (d + a % modulus) h ∙ placed) ∙ candidate_verified a b
