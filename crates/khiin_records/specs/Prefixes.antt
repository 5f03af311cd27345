-- What the code has of the nearest candidate: how many keys are shared with it.
use Rattle.std.specs.Prelude.{◌≡◌, List, ℕ, ◌≤◌, length}
use Rattle.ji.specs.Utf8.{encode}
use Rattle.khiin_records.specs.declared.ending.Ending.{Ending}
use Rattle.khiin_records.specs.Syllable.{raw, candidates_of}
use Rattle.khiin_records.specs.Alignment.{shared_prefix, nearest_of}

-- n keys are shared with the nearest candidate of the text, stripped and behind khin, whose bytes are s
pub record NearestPrefix (keys s : List ℕ) (ending : Ending) (n : ℕ) : Type 0 where
  pub inside : n ≤ length keys
  pub shared : (u : List ℕ) → s ≡ encode u → n ≡ shared_prefix keys (raw (nearest_of keys (candidates_of ending.tone ending.khin u)))
