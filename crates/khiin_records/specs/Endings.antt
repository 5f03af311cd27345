-- What stands behind the body of a raw input, as keys.
use Rattle.std.specs.Prelude.{List, ◌++◌, ℕ}
use Rattle.khiin_records.specs.Syllable.{tone_digit, khin_key}
use Rattle.khiin_records.specs.declared.ending.Ending.{Ending}

-- "The raw input adds the tone digit, then 0 for khin"
abbrev pub keys_of : Ending → List ℕ
keys_of ending = tone_digit ending.tone ++ khin_key ending.khin
