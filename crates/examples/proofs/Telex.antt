-- Examples of the telex step (document 01, "Starred examples", and cases that its rules decide), computed: at least one for each branch.
use mathlib.Core.Path.{◌≡◌, refl}
use mathlib.Core.List.{List, [], ◌∷◌}
use Rattle.ji.specs.Unicode.{unicode16, mappings16, classes16, exclusions16, mapping_in, class_in, decomposition, combining_class, is_composite, composite_in, composite, pass, passes, full, same, listed}
use Rattle.ji.specs.Text.{lower, begins, replace_from, replace_all, but_last, last}
use Rattle.ji.specs.Utf8.{bytes_of, encode}
use Rattle.ji.specs.Nfd.{reorderable, insert, order, nfd}
use Rattle.ji.specs.Nfc.{behind, under, or_kept, reversed, absorb, compose_from, nfc}
use Rattle.ji.specs.Nfc.{compose as composition}
use Rattle.ji.specs.Lomaji.Strip.{mark_tone, is_tone_mark, without_marks, dropped_marks, last_tone, ends_in, unmarked_tone, stripped}
use Rattle.ji.specs.Lomaji.ToneLetter.{first_place, searched, tone_letter, has_tone_letter}
use Rattle.khiin.specs.Syllable.{is_nasal_end, ends_nasal, nasalised, moved, spelled, encoded, mark_of, compose}
use Rattle.khiin.specs.Converter.{key_to_tone, shared_tone, ends_with, repeats_tone, opens_nasal, opens_dot, opens_o, opens_u, ends_in_stop, shared_or, composed_step, step, telex}
use Rattle.khiin.specs.declared.converter.ToneKeys.{ToneKeys}
use Rattle.khiin.specs.declared.converter.ToneMode.{ToneMode}
use Rattle.khiin.specs.declared.converter.ToneMode.TheVariants.{Numeric, Telex}
use Rattle.examples.specs.Telex.{Typed, usual, with_usual, with_digits, shared, with_shared, upper, with_upper}

abbrev Right : ToneMode → ToneKeys → List Typed → Type 0
Right mode keys [] = Unit {0}
Right mode keys (e ∷ es) = (telex unicode16 mode keys e.1.0 e.0 ≡ e.1.1) × Right mode keys es

usual_right : Right Telex usual with_usual
unfolding same listed mapping_in class_in decomposition combining_class is_composite composite_in composite pass passes full unicode16 mappings16 classes16 exclusions16 lower begins replace_from replace_all bytes_of encode reorderable insert order nfd behind under or_kept reversed absorb compose_from composition nfc mark_tone is_tone_mark without_marks dropped_marks last_tone ends_in unmarked_tone stripped first_place searched tone_letter has_tone_letter last but_last is_nasal_end ends_nasal nasalised moved spelled encoded mark_of compose key_to_tone shared_tone ends_with repeats_tone opens_nasal opens_dot opens_o opens_u ends_in_stop shared_or composed_step step telex
usual_right = (refl, (refl, (refl, (refl, (refl, (refl, (refl, (refl, (refl, (refl, (refl, (refl, (refl, (refl, (refl, (refl, (refl, (refl, (refl, (refl, tt))))))))))))))))))))

digits_right : Right Numeric usual with_digits
unfolding same listed mapping_in class_in decomposition combining_class is_composite composite_in composite pass passes full unicode16 mappings16 classes16 exclusions16 lower begins replace_from replace_all bytes_of encode reorderable insert order nfd behind under or_kept reversed absorb compose_from composition nfc mark_tone is_tone_mark without_marks dropped_marks last_tone ends_in unmarked_tone stripped first_place searched tone_letter has_tone_letter last but_last is_nasal_end ends_nasal nasalised moved spelled encoded mark_of compose key_to_tone shared_tone ends_with repeats_tone opens_nasal opens_dot opens_o opens_u ends_in_stop shared_or composed_step step telex
digits_right = (refl, (refl, tt))

shared_right : Right Telex shared with_shared
unfolding same listed mapping_in class_in decomposition combining_class is_composite composite_in composite pass passes full unicode16 mappings16 classes16 exclusions16 lower begins replace_from replace_all bytes_of encode reorderable insert order nfd behind under or_kept reversed absorb compose_from composition nfc mark_tone is_tone_mark without_marks dropped_marks last_tone ends_in unmarked_tone stripped first_place searched tone_letter has_tone_letter last but_last is_nasal_end ends_nasal nasalised moved spelled encoded mark_of compose key_to_tone shared_tone ends_with repeats_tone opens_nasal opens_dot opens_o opens_u ends_in_stop shared_or composed_step step telex
shared_right = (refl, (refl, tt))

upper_right : Right Telex upper with_upper
unfolding same listed mapping_in class_in decomposition combining_class is_composite composite_in composite pass passes full unicode16 mappings16 classes16 exclusions16 lower begins replace_from replace_all bytes_of encode reorderable insert order nfd behind under or_kept reversed absorb compose_from composition nfc mark_tone is_tone_mark without_marks dropped_marks last_tone ends_in unmarked_tone stripped first_place searched tone_letter has_tone_letter last but_last is_nasal_end ends_nasal nasalised moved spelled encoded mark_of compose key_to_tone shared_tone ends_with repeats_tone opens_nasal opens_dot opens_o opens_u ends_in_stop shared_or composed_step step telex
upper_right = (refl, (refl, tt))
