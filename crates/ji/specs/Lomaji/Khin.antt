-- `strip_khin` (document 01, "ji: strip_tone_diacritic", second paragraph).
use Rattle.std.specs.Prelude.{Bool, true, false, ◌||◌, List, ℕ, length, drop}
use Rattle.ucd.specs.Table.{pick_text}
use Rattle.ji.specs.Text.{points, begins}
use Rattle.ji.specs.Utf8.{bytes}
use Rattle.ji.specs.declared.lomaji.khin.Khin.{Khin}
use Rattle.ji.specs.declared.lomaji.khin.Khin.TheVariants.{No, Yes}

abbrev pub pick_khin : Bool → Khin → Khin → Khin
pick_khin true a b = a
pick_khin false a b = b

-- "`strip_khin` removes one leading "--", else one leading 00B7, and hands back the rest"; the two as they are written in s
abbrev pub after_mark : List ℕ → List ℕ → List ℕ → List ℕ
after_mark hyphens dot s = pick_text (begins hyphens s) (drop (length hyphens) s) (pick_text (begins dot s) (drop (length dot) s) s)

-- whether there was one
abbrev pub mark_khin : List ℕ → List ℕ → List ℕ → Khin
mark_khin hyphens dot s = pick_khin (begins hyphens s || begins dot s) Yes No

-- of the bytes of a text
unfoldable pub after_khin : List ℕ → List ℕ
after_khin s = after_mark (bytes "--") (bytes "·") s

unfoldable pub khin_of : List ℕ → Khin
khin_of s = mark_khin (bytes "--") (bytes "·") s

-- of its code points
unfoldable pub without_khin : List ℕ → List ℕ
without_khin s = after_mark (points "--") (points "·") s

unfoldable pub khin_in : List ℕ → Khin
khin_in s = mark_khin (points "--") (points "·") s

-- khin, the neutral-tone flag, as a number: false 0, true 1
abbrev pub khin_number : Khin → ℕ
khin_number No = 0
khin_number Yes = 1
