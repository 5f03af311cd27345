-- Well-formed syllables of document 01, and the text of an entry of them, computed.
use mathlib.Core.Path.{◌≡◌, refl}
use mathlib.Core.Bool.{true, false}
use mathlib.Core.List.{List, [], ◌∷◌, ◌++◌, Memᴰ}
use Prim.Native.Nat.{ℕ, zero, suc, ◌<◌}
use native.Mathlib.Omega.{arith}
use lib.Dec.{lit<}
use lib.ListN.{length, get_or}
use Rattle.ji.specs.Unicode.{unicode16, mappings16, classes16, exclusions16, mapping_in, class_in, decomposition, combining_class, is_composite, composite_in, composite, pass, passes, full, same, listed}
use Rattle.ji.specs.Text.{points, marked, lower, begins, replace_from, replace_all, last}
use Rattle.ji.specs.Nfd.{reorderable, insert, order, nfd}
use Rattle.ji.specs.Nfc.{behind, under, or_kept, reversed, absorb, compose_from, compose, nfc}
use Rattle.ji.specs.Lomaji.ToneLetter.{first_place, searched, tone_letter}
use Rattle.ji.specs.declared.tone.Tone.TheVariants.{T2, T4, T5}
use Rattle.khiin.specs.Syllable.{encoded, mark_of}
use Rattle.grammar.specs.WellFormed.{onsets, rimes, stopped, tones_of, WellFormed, unmarked, text, entry}

get_d_in : (xs : List (List ℕ)) (i : ℕ) → i < length xs → Memᴰ (get_or xs i []) xs
get_d_in [] i h = absurd (omega arith)
get_d_in (x ∷ xs) zero h = Memᴰ.head refl
get_d_in (x ∷ xs) (suc i) h = Memᴰ.tail (get_d_in xs i (omega arith))

fifth : (rime : List ℕ) → Memᴰ T5 (tones_of rime)
fifth rime = Memᴰ.tail (Memᴰ.tail (Memᴰ.tail (Memᴰ.head refl)))

tai : WellFormed
unfolding rimes last
tai = record { onset = points "t"; rime = points "ai"; capital = true; tone = T5; onset_in = get_d_in onsets 5 (lit< tt); rime_in = get_d_in rimes 48 (lit< tt); tone_in = fifth (points "ai") }

oan : WellFormed
unfolding rimes last
oan = record { onset = []; rime = points "oan"; capital = false; tone = T5; onset_in = get_d_in onsets 0 (lit< tt); rime_in = get_d_in rimes 98 (lit< tt); tone_in = fifth (points "oan") }

bo : WellFormed
unfolding rimes last
bo = record { onset = points "b"; rime = marked "o" 0x0358; capital = false; tone = T2; onset_in = get_d_in onsets 3 (lit< tt); rime_in = get_d_in rimes 32 (lit< tt); tone_in = Memᴰ.tail (Memᴰ.head refl) }

hng : WellFormed
unfolding rimes stopped last replace_all replace_from begins listed
hng = record { onset = points "h"; rime = points "ngh"; capital = false; tone = T4; onset_in = get_d_in onsets 13 (lit< tt); rime_in = get_d_in rimes 159 (lit< tt); tone_in = Memᴰ.head refl }

taioan : entry (tai ∷ oan ∷ bo ∷ hng ∷ []) ≡ points "Tâi oân bó" ++ (0x0358 ∷ points " hngh")
unfolding tai oan bo hng entry text unmarked unicode16 mappings16 classes16 exclusions16 mapping_in class_in decomposition combining_class is_composite composite_in composite pass passes full same listed lower begins replace_from replace_all reorderable insert order nfd behind under or_kept reversed absorb compose_from compose nfc first_place searched tone_letter encoded mark_of
taioan = refl
