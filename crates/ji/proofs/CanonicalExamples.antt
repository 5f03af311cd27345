-- Worked examples of the normalisation forms in the table of Unicode 16.0 (the Unicode Standard, 3.11; UAX #15, 1.2), computed.
use mathlib.Core.Path.{◌≡◌, refl}
use mathlib.Core.List.{[], ◌∷◌}
use Rattle.ucd.specs.Table.{same, mapping_in, class_in, listed, decomposition, combining_class, is_composite, composite_in, composite}
use Rattle.ucd.specs.Full.{pass, passes, full}
use Rattle.ucd.specs.Unicode16.{unicode16, mappings16, classes16, exclusions16}
use Rattle.ji.specs.Nfd.{reorderable, insert, order, nfd}
use Rattle.ji.specs.Nfc.{behind, under, or_kept, reversed, absorb, compose_from, compose}

-- marks of one class keep their order
same_class_stays : order unicode16 (0x0061 ∷ 0x0301 ∷ 0x0300 ∷ []) ≡ 0x0061 ∷ 0x0301 ∷ 0x0300 ∷ []
unfolding reorderable insert order class_in combining_class unicode16 classes16
same_class_stays = refl

-- 0301 has class 230, 0323 class 220
lower_first : order unicode16 (0x0061 ∷ 0x0301 ∷ 0x0323 ∷ []) ≡ 0x0061 ∷ 0x0323 ∷ 0x0301 ∷ []
unfolding reorderable insert order class_in combining_class unicode16 classes16
lower_first = refl

-- a mark does not pass a starter
starter_blocks : order unicode16 (0x0301 ∷ 0x0061 ∷ 0x0323 ∷ []) ≡ 0x0301 ∷ 0x0061 ∷ 0x0323 ∷ []
unfolding reorderable insert order class_in combining_class unicode16 classes16
starter_blocks = refl

-- 1E0B is 0064 0307
dotted_nfd : nfd unicode16 (0x1E0B ∷ 0x0323 ∷ []) ≡ 0x0064 ∷ 0x0323 ∷ 0x0307 ∷ []
unfolding nfd full passes pass reorderable insert order mapping_in decomposition class_in combining_class unicode16 mappings16 classes16
dotted_nfd = refl

-- it composes with the lower dot first
dotted_nfc : compose unicode16 (0x0064 ∷ 0x0323 ∷ 0x0307 ∷ []) ≡ 0x1E0D ∷ 0x0307 ∷ []
unfolding behind under or_kept reversed absorb compose_from compose same listed is_composite composite_in composite mapping_in decomposition class_in combining_class unicode16 mappings16 classes16 exclusions16
dotted_nfc = refl

-- 0313 has 0301's class and blocks it from the starter
mark_blocks : compose unicode16 (0x0061 ∷ 0x0313 ∷ 0x0301 ∷ []) ≡ 0x0061 ∷ 0x0313 ∷ 0x0301 ∷ []
unfolding behind under or_kept reversed absorb compose_from compose same listed is_composite composite_in composite mapping_in decomposition class_in combining_class unicode16 mappings16 classes16 exclusions16
mark_blocks = refl

-- 0316 has a lower class and does not
mark_passes : compose unicode16 (0x0061 ∷ 0x0316 ∷ 0x0301 ∷ []) ≡ 0x00E1 ∷ 0x0316 ∷ []
unfolding behind under or_kept reversed absorb compose_from compose same listed is_composite composite_in composite mapping_in decomposition class_in combining_class unicode16 mappings16 classes16 exclusions16
mark_passes = refl
