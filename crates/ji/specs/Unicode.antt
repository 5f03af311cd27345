-- Texts of the table: which texts it has, what a reader of bytes takes, and lengths in bytes and in code points (`to_byte_len`).
use Rattle.std.specs.Prelude.{Bool, true, false, ◌&&◌, List, [], ◌∷◌, ℕ, zero, suc, ◌-◌, eqb, length, take}
pub use Rattle.ucd.specs.Table.{Table, member, pick_text}
unfoldable pub use Rattle.ucd.specs.Full.{pass, passes, full}
-- what the crates above need of the table: they know it through this crate alone
pub use Rattle.ucd.specs.Table.{All, pick_number}
unfoldable pub use Rattle.ucd.specs.Table.{same, listed}
unfoldable pub use Rattle.ucd.specs.Unicode16.{unicode16}
-- and what they open to compute examples
unfoldable pub use Rattle.ucd.specs.Table.{mapping_in, class_in, decomposition, combining_class, is_composite, composite_in, composite}
unfoldable pub use Rattle.ucd.specs.Unicode16.{mappings16, classes16, exclusions16}
use Rattle.ji.specs.Utf8.{width_at, point_at, encode}

-- `to_byte_len`: how many bytes the first n code points of a text take
unfoldable pub to_byte_len : List ℕ → ℕ → ℕ
to_byte_len s n = length (encode (take n s))

module _ (t : Table) where
  -- each code point of a text is in the table
  unfoldable pub members : List ℕ → Bool
  members [] = true
  members (c ∷ s) = member t c && members s

  -- the code points of the bytes s, up to the first sequence that is ill formed or whose code point is outside the table
  unfoldable pub accepted_from : ℕ → List ℕ → List ℕ
  accepted_from skip [] = []
  accepted_from zero (b ∷ s) =
      let taken : List ℕ = point_at (b ∷ s) ∷ accepted_from (width_at (b ∷ s) - 1) s in
      pick_text (eqb (width_at (b ∷ s)) 0) [] (pick_text (member t (point_at (b ∷ s))) taken [])
  accepted_from (suc skip) (b ∷ s) = accepted_from skip s

  unfoldable pub accepted : List ℕ → List ℕ
  accepted s = accepted_from 0 s

  -- a text as it is, or fully decomposed
  unfoldable pub spread : Bool → List ℕ → List ℕ
  spread true s = full t s
  spread false s = s
