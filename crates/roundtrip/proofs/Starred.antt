-- The starred examples hold: each is computed.
use mathlib.Core.Path.{refl}
use Rattle.ji.specs.Unicode.{unicode16, mappings16, classes16, exclusions16, mapping_in, class_in, decomposition, combining_class, is_composite, composite_in, composite, pass, passes, full, same, listed}
use Rattle.ji.specs.Text.{lower, begins, replace_from, replace_all, but_last, last}
use Rattle.ji.specs.Utf8.{bytes_of, encode}
use Rattle.ji.specs.Nfd.{reorderable, insert, order, nfd}
use Rattle.ji.specs.Nfc.{behind, under, or_kept, reversed, absorb, compose_from, nfc}
use Rattle.ji.specs.Nfc.{compose as composition}
use Rattle.ji.specs.Lomaji.Strip.{mark_tone, is_tone_mark, without_marks, dropped_marks, last_tone, ends_in, unmarked_tone, stripped}
use Rattle.ji.specs.Lomaji.Khin.{without_khin, khin_in}
use Rattle.ji.specs.Lomaji.ToneLetter.{first_place, searched, tone_letter, has_tone_letter}
use Rattle.khiin_records.specs.Syllable.{key_tone, from_raw, from_composed}
use Rattle.khiin_records.specs.Alignment.{shared_prefix, longer, nearest, grows, aligned_with, aligned}
use Rattle.khiin.specs.Syllable.{is_nasal_end, ends_nasal, nasalised, moved, spelled, encoded, mark_of, compose}
use Rattle.khiin.specs.Converter.{key_to_tone, shared_tone, ends_with, repeats_tone, opens_nasal, opens_dot, opens_o, opens_u, ends_in_stop, shared_or, composed_step, step, telex}
use Rattle.roundtrip.specs.Starred.{starred, AllHold}

pub all_hold : AllHold starred
unfolding same listed mapping_in class_in decomposition combining_class is_composite composite_in composite pass passes full unicode16 mappings16 classes16 exclusions16 lower begins replace_from replace_all bytes_of encode reorderable insert order nfd behind under or_kept reversed absorb compose_from composition nfc mark_tone is_tone_mark without_marks dropped_marks last_tone ends_in unmarked_tone stripped without_khin khin_in first_place searched tone_letter has_tone_letter last but_last key_tone from_raw from_composed shared_prefix longer nearest grows aligned_with aligned is_nasal_end ends_nasal nasalised moved spelled encoded mark_of compose key_to_tone shared_tone ends_with repeats_tone opens_nasal opens_dot opens_o opens_u ends_in_stop shared_or composed_step step telex
all_hold = (refl, (refl, (refl, (refl, (refl, (refl, (refl, (refl, (refl, ((refl, refl), (refl, (refl, (refl, (refl, tt))))))))))))))
