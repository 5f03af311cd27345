-- What replace-all does with its buffer, for each of its answers.
use Rattle.std.specs.Prelude.{◌≡◌, List, ℕ, ◌<◌, length, Result, Ok, Err}
use Rattle.ji.specs.Text.{replace_all}
use Rattle.ji.specs.Written.{Written}
use Rattle.ji.specs.declared.unicode.CharLen.{CharLen}
use Rattle.ji.specs.declared.text.Unreplaced.{Unreplaced}
use Rattle.ji.specs.declared.text.Unreplaced.TheVariants.{NoRoom, NoPattern}

-- s with each occurrence of p replaced by r stands in the buffer, or the buffer is as it was: it is too short, or there is no pattern
abbrev pub Replacing : List ℕ → List ℕ → List ℕ → List ℕ → List ℕ → Result CharLen Unreplaced → Type 0
Replacing p r s before after (Ok n) = (0 < length p) × Written before after n.0 (replace_all p r s)
Replacing p r s before after (Err NoRoom) = (0 < length p) × (length before < length (replace_all p r s)) × (after ≡ before)
Replacing p r s before after (Err NoPattern) = (length p ≡ 0) × (after ≡ before)
