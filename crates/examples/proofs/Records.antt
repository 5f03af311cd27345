-- Examples of records (document 01, "Starred examples", and cases that its rules decide), computed.
use mathlib.Core.Path.{◌≡◌, refl}
use mathlib.Core.List.{List, [], ◌∷◌}
use Prim.Native.Nat.{ℕ}
use Rattle.ji.specs.Unicode.{unicode16, mappings16, classes16, mapping_in, class_in, decomposition, combining_class, pass, passes, full, same, listed}
use Rattle.ji.specs.Text.{lower, begins, replace_from, replace_all, but_last, last}
use Rattle.ji.specs.Utf8.{bytes_of, encode}
use Rattle.ji.specs.Nfd.{reorderable, insert, order, nfd}
use Rattle.ji.specs.Lomaji.Strip.{mark_tone, is_tone_mark, without_marks, dropped_marks, last_tone, ends_in, unmarked_tone, stripped}
use Rattle.ji.specs.Lomaji.Khin.{without_khin, khin_in}
use Rattle.ji.specs.declared.tone.Tone.{Tone}
use Rattle.ji.specs.declared.lomaji.khin.Khin.{Khin}
use Rattle.ji.specs.declared.lomaji.khin.Khin.TheVariants.{No}
use Rattle.khiin_records.specs.Syllable.{Syllable, key_tone, from_raw, from_composed}
use Rattle.khiin_records.specs.Alignment.{shared_prefix, longer, nearest, grows, aligned_with, aligned}
use Rattle.examples.specs.Records.{Raw, from_keys, Composed, candidates, Aligned, alignments}

abbrev RawRight : List Raw → Type 0
RawRight [] = Unit {0}
RawRight (e ∷ es) = (from_raw e.0 ≡ record { body = e.1; keys = e.2; tone = e.3; khin = No }) × RawRight es

raw_right : RawRight from_keys
unfolding from_raw key_tone last but_last
raw_right = (refl, (refl, (refl, (refl, (refl, (refl, tt))))))

abbrev records : Tone → Khin → List (List ℕ × List ℕ) → List Syllable
records tone khin [] = []
records tone khin (c ∷ cs) = record { body = c.0; keys = c.1; tone = tone; khin = khin } ∷ records tone khin cs

abbrev ComposedRight : List Composed → Type 0
ComposedRight [] = Unit {0}
ComposedRight (e ∷ es) = (from_composed unicode16 e.0 ≡ records e.2 e.3 e.1) × ComposedRight es

composed_right : ComposedRight candidates
unfolding same mapping_in class_in decomposition combining_class pass passes full unicode16 mappings16 classes16 listed lower begins replace_from replace_all bytes_of encode reorderable insert order nfd mark_tone is_tone_mark without_marks dropped_marks last_tone ends_in unmarked_tone stripped without_khin khin_in from_composed
composed_right = (refl, (refl, (refl, (refl, (refl, (refl, (refl, tt)))))))

abbrev AlignedRight : List Aligned → Type 0
AlignedRight [] = Unit {0}
AlignedRight (e ∷ es) = (aligned unicode16 e.0 e.1 ≡ e.2) × AlignedRight es

aligned_right : AlignedRight alignments
unfolding same mapping_in class_in decomposition combining_class pass passes full unicode16 mappings16 classes16 listed lower begins replace_from replace_all bytes_of encode reorderable insert order nfd mark_tone is_tone_mark without_marks dropped_marks last_tone ends_in unmarked_tone stripped without_khin khin_in from_composed shared_prefix longer nearest grows aligned_with aligned
aligned_right = (refl, (refl, (refl, (refl, (refl, (refl, (refl, (refl, (refl, (refl, tt))))))))))
