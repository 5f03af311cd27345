-- Examples of stripping (document 01, "Starred examples"), one for each tone mark and each ending among them: an edit that changes a mark's
-- tone in the code and in the definition alike still breaks one of these.
use mathlib.Core.Path.{◌≡◌, refl}
use mathlib.Core.List.{List, [], ◌∷◌}
use Prim.Native.Nat.{ℕ}
use Rattle.ucd.specs.Table.{same, mapping_in, class_in, decomposition, combining_class}
use Rattle.ucd.specs.Full.{pass, passes, full}
use Rattle.ucd.specs.Unicode16.{unicode16, mappings16, classes16}
use Rattle.ji.specs.Text.{points, marked, lower}
use Rattle.ji.specs.Utf8.{bytes_of, encode}
use Rattle.ji.specs.Nfd.{reorderable, insert, order, nfd}
use Rattle.ji.specs.Lomaji.Strip.{mark_tone, is_tone_mark, without_marks, dropped_marks, last_tone, ends_in, unmarked_tone, stripped, strip}
use Rattle.ji.specs.declared.tone.Tone.{Tone}
use Rattle.ji.specs.declared.tone.Tone.TheVariants.{T1, T2, T3, T4, T5, T6, T7, T8, T9}

-- what stripping gives, and what it is to give
abbrev Example : Type 0
Example = List ℕ × (List ℕ × Tone)

abbrev Right : List Example → Type 0
Right [] = Unit {0}
Right (e ∷ es) = (strip unicode16 e.0 ≡ record { rest = e.1.0; tone = e.1.1 }) × Right es

abbrev examples : List Example
examples =
    (points "á", (points "a", T2))
    ∷ (points "ah", (points "ah", T4))
    ∷ ([], ([], T1))
    ∷ (marked "á" 0x0302, (points "a", T5))
    ∷ (points "ấ", (points "a", T2))
    ∷ (marked "a" 0x0301, (points "a", T2))
    ∷ (marked "a" 0x0300, (points "a", T3))
    ∷ (marked "a" 0x0302, (points "a", T5))
    ∷ (marked "a" 0x0303, (points "a", T6))
    ∷ (marked "a" 0x0304, (points "a", T7))
    ∷ (marked "a" 0x030D, (points "a", T8))
    ∷ (marked "a" 0x0306, (points "a", T9))
    ∷ (points "ap", (points "ap", T4))
    ∷ (points "AT", (points "AT", T4))
    ∷ (points "ak", (points "ak", T4))
    ∷ (points "ahnn", (points "ahnn", T4))
    ∷ (points "ahⁿ", (points "ahⁿ", T4))
    ∷ (points "aHᴺ", (points "aHᴺ", T4))
    ∷ (points "apnn", (points "apnn", T1))
    ∷ (points "an", (points "an", T1))
    ∷ (marked "a" 0x0344, (marked "a" 0x0308, T2))
    ∷ (marked "á" 0x0358, (marked "a" 0x0358, T2))
    ∷ []

right : Right examples
unfolding same mapping_in class_in decomposition combining_class pass passes full unicode16 mappings16 classes16 lower bytes_of encode reorderable insert order nfd mark_tone is_tone_mark without_marks dropped_marks last_tone ends_in unmarked_tone stripped
right = (refl, (refl, (refl, (refl, (refl, (refl, (refl, (refl, (refl, (refl, (refl, (refl, (refl, (refl, (refl, (refl, (refl, (refl, (refl, (refl, (refl, (refl, tt))))))))))))))))))))))
