-- Examples of compose (document 01, "Starred examples", and cases that its rules decide), computed.
use mathlib.Core.Path.{◌≡◌, refl}
use mathlib.Core.List.{List, [], ◌∷◌, ◌++◌}
use Prim.Native.Nat.{ℕ}
use Rattle.ji.specs.Unicode.{unicode16, mappings16, classes16, exclusions16, mapping_in, class_in, decomposition, combining_class, is_composite, composite_in, composite, pass, passes, full, same, listed}
use Rattle.ji.specs.Text.{points, lower, begins, replace_from, replace_all, but_last, last}
use Rattle.ji.specs.Nfd.{reorderable, insert, order, nfd}
use Rattle.ji.specs.Nfc.{behind, under, or_kept, reversed, absorb, compose_from, compose as joined, nfc}
use Rattle.ji.specs.Lomaji.ToneLetter.{first_place, searched, tone_letter}
use Rattle.ji.specs.declared.tone.Tone.TheVariants.{T2}
use Rattle.ji.specs.declared.lomaji.khin.Khin.TheVariants.{Yes}
use Rattle.khiin_records.specs.Syllable.{raw, key_tone, from_raw}
use Rattle.khiin.specs.Syllable.{is_nasal_end, ends_nasal, nasalised, moved, spelled, encoded, mark_of, compose}
use Rattle.examples.specs.Compose.{composed_keys, spelled_bodies}

-- what compose writes from the record that from_raw makes of these keys
abbrev composed : List ℕ → List ℕ
composed keys = compose unicode16 (raw (from_raw keys)) (from_raw keys).body (from_raw keys).tone (from_raw keys).khin

abbrev Composed : List (List ℕ × List ℕ) → Type 0
Composed [] = Unit {0}
Composed (e ∷ es) = (composed e.0 ≡ e.1) × Composed es

from_keys_law : Composed composed_keys
unfolding same listed mapping_in class_in decomposition combining_class is_composite composite_in composite pass passes full unicode16 mappings16 classes16 exclusions16 lower begins replace_from replace_all reorderable insert order nfd behind under or_kept reversed absorb compose_from joined nfc first_place searched tone_letter key_tone last but_last from_raw is_nasal_end ends_nasal nasalised moved spelled encoded mark_of compose
from_keys_law = (refl, (refl, (refl, (refl, (refl, (refl, (refl, (refl, (refl, (refl, (refl, (refl, tt))))))))))))

-- "--" for khin, and the raw input as it is given
with_khin : (compose unicode16 [] (points "a") T2 Yes ≡ points "--" ++ (0x00E1 ∷ [])) × (compose unicode16 (points "x2") (points "x") T2 Yes ≡ points "x2")
unfolding same listed mapping_in class_in decomposition combining_class is_composite composite_in composite pass passes full unicode16 mappings16 classes16 exclusions16 lower begins replace_from replace_all reorderable insert order nfd behind under or_kept reversed absorb compose_from joined nfc first_place searched tone_letter last is_nasal_end ends_nasal nasalised moved spelled encoded mark_of compose
with_khin = (refl, refl)

abbrev Spelled : List (List ℕ × List ℕ) → Type 0
Spelled [] = Unit {0}
Spelled (e ∷ es) = (spelled e.0 ≡ e.1) × Spelled es

spelled_bodies_law : Spelled spelled_bodies
unfolding listed lower begins replace_from replace_all last is_nasal_end ends_nasal nasalised moved spelled
spelled_bodies_law = (refl, (refl, (refl, (refl, (refl, (refl, (refl, (refl, (refl, (refl, (refl, tt)))))))))))
