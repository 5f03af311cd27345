-- A text with at most one tone mark: what is kept of it, and the letter that has the mark.
use Rattle.std.specs.Prelude.{◌≡◌, List, ◌++◌, ◌⊎◌, ℕ, ◌+◌, ◌≤◌, length, drop}
use Rattle.ucd.specs.Table.{All}
use Rattle.ji.specs.Utf8.{bytes_of, encode}
use Rattle.ji.specs.Lomaji.Quick.{IsLetter}
use Rattle.ji.specs.declared.lomaji.quick.MarkedLetter.{MarkedLetter}

-- a code point that stripping keeps as it is: ASCII, 0358 and 207F, of which syllables are made
abbrev pub Kept : ℕ → Type 0
Kept x = (x ≤ 0x7F) ⊎ ((x ≡ 0x0358) ⊎ (x ≡ 0x207F))

-- the bytes of s from `from` to `to` are those of such code points
abbrev pub KeptTo : List ℕ → ℕ → ℕ → Type 0
KeptTo s from to = (u : List ℕ) × All Kept u × (drop from s ≡ encode u ++ drop to s)

-- the letter with a tone mark stands at `at`, in two bytes
abbrev pub MarkedAt : List ℕ → ℕ → MarkedLetter → Type 0
MarkedAt s at letter = (at + 2 ≤ length s) × (c : ℕ) × (drop at s ≡ bytes_of c ++ drop (at + 2) s) × IsLetter c letter
