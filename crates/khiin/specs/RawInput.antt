-- The raw input of a composition, by its bytes.
use Rattle.std.specs.Prelude.{◌≡◌, List, ℕ}
use Rattle.std.specs.Coded.{Coded-set, coded_list, coded_ℕ}
use mathlib.Core.Path.{sym, ap, ◌∙◌}
use mathlib.Core.HLevel.{Σ_prop_path}
use Rattle.ji.specs.Utf8.{encode}
use Rattle.ji.proofs.unicode.Bytes.{encode_one_to_one}

-- the raw input whose bytes these are
pub record RawOf (bytes : List ℕ) : Type 0 where
  pub points : List ℕ
  pub is : bytes ≡ encode points

-- there is at most one, as a ghost field asks
module _ (bytes : List ℕ) where
  raw_of : (points : List ℕ) × (bytes ≡ encode points) → RawOf bytes
  raw_of h = record { points = h.0; is = h.1 }

  pub one_raw : IsProp (RawOf bytes)
  unfolding raw_of
  one_raw x y =
      ap raw_of (Σ_prop_path (λ (points : List ℕ). Coded-set (coded_list coded_ℕ) bytes (encode points)) (encode_one_to_one x.points y.points (sym x.is ∙ y.is)))
