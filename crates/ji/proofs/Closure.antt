-- "NFD and NFC stay inside" (document 01, "ji: the table"): both forms of a text of a table are texts of the table, for any table that passes
-- its test, and so for the one in use. The laws of both forms at the table in use stand here too, for the crates above.
use mathlib.Core.Path.{◌≡◌}
use mathlib.Core.List.{List}
use Prim.Native.Nat.{ℕ}
use lib.Dec.{T}
use Rattle.ucd.specs.Table.{Table, All, member}
use Rattle.ucd.specs.Unicode16.{unicode16}
use Rattle.ucd.proofs.Facts.{good, full_member, composite_member}
use Rattle.ucd.proofs.Unicode16.{unicode16_good, unicode16_facts}
use Rattle.ji.specs.Nfd.{nfd}
use Rattle.ji.specs.Nfc.{nfc}
use Rattle.ji.proofs.Normalisation as laws

-- each code point of a text is in the table
abbrev pub Inside : Table → List ℕ → Type 0
Inside t s = All (λ c. T (member t c)) s

module _ (t : Table) (g : T (good t)) where
  pub nfd_inside : (s : List ℕ) → Inside t s → Inside t (nfd t s)
  nfd_inside s h = laws.nfd_in t (λ c. T (member t c)) (full_member t g) s h

  pub nfc_inside : (s : List ℕ) → Inside t s → Inside t (nfc t s)
  nfc_inside s h = laws.nfc_in t (λ c. T (member t c)) (full_member t g) (composite_member t g) s h

-- the table in use
pub nfd_inside_16 : (s : List ℕ) → Inside unicode16 s → Inside unicode16 (nfd unicode16 s)
nfd_inside_16 = nfd_inside unicode16 unicode16_good

pub nfc_inside_16 : (s : List ℕ) → Inside unicode16 s → Inside unicode16 (nfc unicode16 s)
nfc_inside_16 = nfc_inside unicode16 unicode16_good

pub nfd_nfc_16 : (s : List ℕ) → nfd unicode16 (nfc unicode16 s) ≡ nfd unicode16 s
nfd_nfc_16 = laws.nfd_nfc unicode16 unicode16_facts

pub nfc_nfc_16 : (s : List ℕ) → nfc unicode16 (nfc unicode16 s) ≡ nfc unicode16 s
nfc_nfc_16 = laws.nfc_nfc unicode16 unicode16_facts
