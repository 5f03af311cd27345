-- What is computed of the text of each well-formed syllable without its mark: 18 onsets, 160 rimes, two cases.
use mathlib.Core.Path.{◌≡◌, refl}
use mathlib.Core.Bool.{Bool, true, false, not, ◌&&◌, beq}
use mathlib.Core.List.{List, [], ◌∷◌, ◌++◌, Memᴰ}
use mathlib.Core.Option.{Option, none, some}
use Prim.Native.Nat.{ℕ, ◌≤◌, ◌<◌}
use lib.Dec.{T, leb, ltb, eqb, leb→le, ltb→lt, eqb→eq}
use lib.ListN.{length, take, drop, get_or}
use Rattle.ucd.proofs.Tests.{both_left, both_right}
use Rattle.ji.specs.Unicode.{same, listed}
use Rattle.ji.specs.Text.{points, point, within, lower, begins, last, replace_from, replace_all}
use Rattle.ji.specs.Utf8.{bytes_of, encode}
use Rattle.ji.specs.Tone.{pick_tone, tone_number}
use Rattle.ji.specs.Lomaji.Strip.{ends_in, unmarked_tone}
use Rattle.ji.specs.Lomaji.Khin.{without_khin, khin_in}
use Rattle.ji.specs.Lomaji.ToneLetter.{first_place, searched, tone_letter}
use Rattle.ji.specs.Lomaji.Keys.{plain_rules, oo_rules, rules_of, respell}
use Rattle.ji.specs.declared.tone.Tone.TheVariants.{T1, T4}
use Rattle.ji.specs.declared.lomaji.khin.Khin.TheVariants.{No}
use Rattle.ji.specs.declared.lomaji.keys.Form.{Form}
use Rattle.ji.specs.declared.lomaji.keys.Form.TheVariants.{Plain, Oo}
use Rattle.ji.proofs.unicode.Bytes.{same_equal}
use Rattle.ji.proofs.lomaji.strip.Answers.{same_tone}
use Rattle.khiin_records.specs.Syllable.{below_rules, sign_rules}
use Rattle.khiin.specs.Syllable.{is_nasal_end, ends_nasal, nasalised, moved, spelled}
use Rattle.grammar.specs.WellFormed.{onsets, rimes, cased, stopped}
use Rattle.sweep.proofs.Tests.{beq_equal, all, Passed, passed, each, each_append, each_passes, case_in}

-- ── the tests
-- the letters and signs of the onsets and rimes
abbrev pub letters : List ℕ
letters = points "abceghijklmnopstuABCEGHIJKLMNOPSTUⁿ" ++ (0x0358 ∷ [])

-- an ASCII key that is no digit
abbrev pub is_letter_key : ℕ → Bool
is_letter_key c = leb c 0x7F && not (within (point "0") (point "9") c)

-- there is a tone letter, and it is ASCII
abbrev low_at : List ℕ → Option ℕ → Bool
low_at s none = false
low_at s (some k) = ltb k (length s) && ltb (get_or s k 0) 0x80

-- of a text: it has a tone letter and no khin, its letters are in the list, and without a mark its tone is the one that the rime gives
abbrev text_tests : List ℕ → List ℕ → List Bool
text_tests rime s =
    low_at s (tone_letter s)
    ∷ not (begins (points "--") s)
    ∷ not (begins (points "·") s)
    ∷ each (listed letters) s
    ∷ leb (length s) 16
    ∷ eqb (tone_number (unmarked_tone (encode s))) (tone_number (pick_tone (stopped rime) T4 T1))
    ∷ beq (same (respell plain_rules s) (respell oo_rules s)) (not (listed s 0x0358))
    ∷ []

-- the vowel that a form has for 0358
abbrev pub vowel_of : Form → List ℕ
vowel_of Plain = points "u"
vowel_of Oo = points "o"

-- of a form of it in keys: it is spelled as the text, `from_composed` gives it, and no key of it is a digit
abbrev form_tests : List ℕ → Form → List ℕ → List Bool
form_tests s form keys =
    same (spelled keys) s
    ∷ same (respell (sign_rules (vowel_of form)) (respell below_rules s)) keys
    ∷ each is_letter_key keys
    ∷ leb (length keys) 16
    ∷ []

unfoldable pub is_sound : List ℕ → List ℕ → Bool
is_sound rime s = all (text_tests rime s) && (all (form_tests s Plain (respell plain_rules s)) && all (form_tests s Oo (respell oo_rules s)))

-- each rime behind an onset, in both cases
unfoldable pub is_sound_behind : List ℕ → Bool
is_sound_behind onset = each (λ (rime : List ℕ). each (λ (capital : Bool). is_sound rime (cased capital (onset ++ rime))) (false ∷ true ∷ [])) rimes

-- ── computed, six onsets at a time
are_sound_behind : List (List ℕ) → Bool
unfolding same listed begins lower last replace_from replace_all bytes_of encode ends_in unmarked_tone first_place searched tone_letter is_nasal_end ends_nasal nasalised moved spelled rimes stopped is_sound is_sound_behind
are_sound_behind os = each is_sound_behind os

are_each : (os : List (List ℕ)) → T (are_sound_behind os) → T (each is_sound_behind os)
unfolding are_sound_behind
are_each os t = t

first_six : T (are_sound_behind (take 6 onsets))
unfolding are_sound_behind
first_six = tt

second_six : T (are_sound_behind (take 6 (drop 6 onsets)))
unfolding are_sound_behind
second_six = tt

third_six : T (are_sound_behind (drop 12 onsets))
unfolding are_sound_behind
third_six = tt

every_onset : T (each is_sound_behind onsets)
every_onset =
    each_append is_sound_behind (take 6 onsets) (drop 6 onsets) (are_each (take 6 onsets) first_six)
    (each_append is_sound_behind (take 6 (drop 6 onsets)) (drop 12 onsets) (are_each (take 6 (drop 6 onsets)) second_six) (are_each (drop 12 onsets) third_six))

-- ── what they say
pub record Sound (rime s : List ℕ) : Type 0 where
  pub place : ℕ
  pub letter : tone_letter s ≡ some place
  pub inside : place < length s
  pub low : get_or s place 0 < 0x80
  pub khin : khin_in s ≡ No
  pub rest : without_khin s ≡ s
  pub lettered : T (each (listed letters) s)
  pub short : length s ≤ 16
  pub tone : unmarked_tone (encode s) ≡ pick_tone (stopped rime) T4 T1
  pub differ : same (respell plain_rules s) (respell oo_rules s) ≡ not (listed s 0x0358)
  pub spelling : (form : Form) → spelled (respell (rules_of form) s) ≡ s
  pub candidate : (form : Form) → respell (sign_rules (vowel_of form)) (respell below_rules s) ≡ respell (rules_of form) s
  pub keys : (form : Form) → T (each is_letter_key (respell (rules_of form) s))
  pub short_keys : (form : Form) → length (respell (rules_of form) s) ≤ 16

no_test : (b : Bool) → T (not b) → b ≡ false
no_test true t = absurd t
no_test false t = refl

low_place : (s : List ℕ) (o : Option ℕ) → T (low_at s o) → (k : ℕ) × (o ≡ some k) × (k < length s) × (get_or s k 0 < 0x80)
low_place s none t = absurd t
low_place s (some k) t =
    let inside : Bool = ltb k (length s) in
    let low : Bool = ltb (get_or s k 0) 0x80 in
    (k, refl, ltb→lt k (length s) (both_left inside low t), ltb→lt (get_or s k 0) 0x80 (both_right inside low t))

module _ (rime s : List ℕ) (h : T (is_sound rime s)) where
  text_passed : Passed (text_tests rime s)
  unfolding is_sound
  text_passed = passed (text_tests rime s) (both_left (all (text_tests rime s)) _ h)

  form_passed : (form : Form) → Passed (form_tests s form (respell (rules_of form) s))
  unfolding is_sound
  form_passed Plain = passed (form_tests s Plain (respell plain_rules s)) (both_left (all (form_tests s Plain (respell plain_rules s))) _ (both_right (all (text_tests rime s)) _ h))
  form_passed Oo = passed (form_tests s Oo (respell oo_rules s)) (both_right (all (form_tests s Plain (respell plain_rules s))) _ (both_right (all (text_tests rime s)) _ h))

  sound_of : Sound rime s
  unfolding khin_in without_khin
  sound_of =
      let (letter, (no_hyphens, (no_dot, (lettered, (short, (tone, (differ, end))))))) = text_passed in
      let place = low_place s (tone_letter s) letter in
      let hyphens : begins (points "--") s ≡ false = no_test _ no_hyphens in
      let dot : begins (points "·") s ≡ false = no_test _ no_dot in
      record {
        place = place.0;
        letter = place.1;
        inside = place.2;
        low = place.3;
        khin = rw (hyphens, dot);
        rest = rw (hyphens, dot);
        lettered = lettered;
        short = leb→le _ 16 short;
        tone = same_tone _ _ (eqb→eq _ _ tone);
        differ = beq_equal _ _ differ;
        spelling = λ form. same_equal _ _ (form_passed form).0;
        candidate = λ form. same_equal _ _ (form_passed form).1.0;
        keys = λ form. (form_passed form).1.1.0;
        short_keys = λ form. leb→le _ 16 (form_passed form).1.1.1.0;
      }

pub sound : (onset rime : List ℕ) (capital : Bool) → Memᴰ onset onsets → Memᴰ rime rimes → Sound rime (cased capital (onset ++ rime))
unfolding is_sound_behind
sound onset rime capital o r =
    sound_of rime (cased capital (onset ++ rime))
    (each_passes (λ (c : Bool). is_sound rime (cased c (onset ++ rime))) (false ∷ true ∷ [])
    (each_passes (λ (t : List ℕ). each (λ (c : Bool). is_sound t (cased c (onset ++ t))) (false ∷ true ∷ [])) rimes
    (each_passes is_sound_behind onsets every_onset onset o) rime r) capital (case_in capital))
