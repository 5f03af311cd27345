-- Examples of the keyings of entries (document 01, "khiin: entries" and "Program `keylist`"), computed.
use mathlib.Core.Path.{◌≡◌, refl}
use mathlib.Core.List.{List, [], ◌∷◌, ◌++◌}
use Prim.Native.Nat.{ℕ}
use Rattle.ji.specs.Unicode.{unicode16, mappings16, classes16, mapping_in, class_in, decomposition, combining_class, pass, passes, full, same, listed}
use Rattle.ji.specs.Text.{points, lower, begins, replace_from, replace_all}
use Rattle.ji.specs.Utf8.{bytes_of, encode}
use Rattle.ji.specs.Nfd.{reorderable, insert, order, nfd}
use Rattle.ji.specs.Lomaji.Strip.{mark_tone, is_tone_mark, without_marks, dropped_marks, last_tone, ends_in, unmarked_tone, stripped}
use Rattle.ji.specs.Lomaji.Keys.{keyed, keys}
use Rattle.ji.specs.declared.lomaji.keys.Kind.{Kind}
use Rattle.ji.specs.declared.lomaji.keys.Kind.TheVariants.{Detoned, Numeric, Telex}
use Rattle.khiin_entries.specs.KeySequence.{split, holds_dot, alone, forms, keyings}
use Rattle.examples.specs.Entries.{taioan_numeric, taioan_telex, taioan_detoned, six_telex, boo, boo_alone, boo_behind}

-- a kind, an entry, and its list
abbrev Example : Type 0
Example = Kind × (List ℕ × List (List ℕ))

abbrev Right : List Example → Type 0
Right [] = Unit {0}
Right (e ∷ es) = (keyings unicode16 e.0 e.1.0 ≡ e.1.1) × Right es

lists_right :
    Right
    ((Numeric, (points "tâi oân", taioan_numeric))
    ∷ (Telex, (points "tâi oân", taioan_telex))
    ∷ (Detoned, (points "tâi oân", taioan_detoned))
    ∷ (Telex, (points "ã", six_telex))
    ∷ (Numeric, (boo, boo_alone))
    ∷ (Numeric, (points "a " ++ boo, boo_behind))
    ∷ (Numeric, ([], points "1" ∷ []))
    ∷ [])
unfolding same mapping_in class_in decomposition combining_class pass passes full unicode16 mappings16 classes16 listed lower begins replace_from replace_all bytes_of encode reorderable insert order nfd mark_tone is_tone_mark without_marks dropped_marks last_tone ends_in unmarked_tone stripped keyed keys split holds_dot alone forms keyings
lists_right = (refl, (refl, (refl, (refl, (refl, (refl, (refl, tt)))))))
