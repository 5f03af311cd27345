-- The keyings of one well-formed syllable: its forms in keys, and behind them the digit of its tone.
use mathlib.Core.Path.{◌≡◌, refl, sym, ap, ap₂, ◌∙◌}
use mathlib.Core.Bool.{Bool, true, false, not}
use mathlib.Core.List.Memᴰ
use mathlib.Core.List.{List, [], ◌∷◌, ◌++◌, append-nil, Memᴰ}
use mathlib.Core.Logic.{◌⊎◌, inl, inr}
use Prim.Native.Nat.{ℕ, ◌+◌, ◌≤◌}
use native.Mathlib.Omega.{arith}
use borrow.Author.Tests.{leb-true, le-leb, not-true}
use lib.Dec.{T, leb}
use lib.ListN.{length, take, drop, length-append}
use lib.Seq.{drop-nil}
use Rattle.ji.specs.Unicode.{unicode16, same}
use Rattle.ji.specs.Text.{points, point, all_ascii}
use Rattle.ji.specs.Tone.{tone_number}
use Rattle.ji.specs.Lomaji.Strip.{Stripped}
use Rattle.ji.specs.Lomaji.Keys.{rules_of, respell, keyed, keys}
use Rattle.ji.specs.declared.tone.Tone.{Tone}
use Rattle.ji.specs.declared.tone.Tone.TheVariants.{None, T1, T2, T3, T4, T5, T6, T7, T8, T9}
use Rattle.ji.specs.declared.lomaji.keys.Form.{Form}
use Rattle.ji.specs.declared.lomaji.keys.Form.TheVariants.{Plain, Oo}
use Rattle.ji.specs.declared.lomaji.keys.Kind.{Kind}
use Rattle.ji.specs.declared.lomaji.keys.Kind.TheVariants.{Detoned, Numeric}
use Rattle.ji.proofs.Bools.{and_yes}
use Rattle.ji.proofs.unicode.Ascii.{ascii_more, ascii_nil, ascii_low, ascii_rest}
use Rattle.khiin_entries.specs.KeySequence.{pick_texts, holds_dot, alone, forms}
use Rattle.grammar.specs.WellFormed.{Texts, WellFormed, unmarked, text, dotted}
use Rattle.sweep.proofs.Tests.{both_left, both_right, passed_true, each, Each}
use Rattle.sweep.proofs.Unmarked.{is_letter_key}
use Rattle.sweep.proofs.Syllables.{syllable_text, unmarked_sound}
use Rattle.roundtrip.specs.Demand3.{is_digit, digits}
use Rattle.roundtrip.proofs.Digits.{Bare, bare_digits, one_digit, Choices}

-- ── the digit of a tone
abbrev pub digit_of : Tone → ℕ
digit_of tone = point "0" + tone_number tone

numeric_key : (tone : Tone) → take 1 (drop (tone_number tone) (points "0123456789")) ≡ digit_of tone ∷ []
numeric_key None = refl
numeric_key T1 = refl
numeric_key T2 = refl
numeric_key T3 = refl
numeric_key T4 = refl
numeric_key T5 = refl
numeric_key T6 = refl
numeric_key T7 = refl
numeric_key T8 = refl
numeric_key T9 = refl

pub tone_most : (tone : Tone) → tone_number tone ≤ 9
tone_most None = omega arith
tone_most T1 = omega arith
tone_most T2 = omega arith
tone_most T3 = omega arith
tone_most T4 = omega arith
tone_most T5 = omega arith
tone_most T6 = omega arith
tone_most T7 = omega arith
tone_most T8 = omega arith
tone_most T9 = omega arith

pub tone_digit_law : (tone : Tone) → is_digit (digit_of tone) ≡ true
tone_digit_law tone = let h = tone_most tone in and_yes _ _ (le-leb 0x30 (digit_of tone) (omega arith)) ∙ le-leb (digit_of tone) 0x39 (omega arith)

-- ── letter keys
bare_of : (s : List ℕ) → T (each is_letter_key s) → Bare s
bare_of [] t = tt
bare_of (c ∷ s) t = (let key = both_left (is_letter_key c) (each is_letter_key s) t in not-true (is_digit c) (passed_true _ (both_right (leb c 0x7F) (not (is_digit c)) key)), bare_of s (both_right (is_letter_key c) (each is_letter_key s) t))

ascii_of : (s : List ℕ) → T (each is_letter_key s) → all_ascii s ≡ true
ascii_of [] t = ascii_nil
ascii_of (c ∷ s) t =
    let key = both_left (is_letter_key c) (each is_letter_key s) t in
    ascii_more c s (leb-true c 0x7F (passed_true _ (both_left (leb c 0x7F) (not (is_digit c)) key))) (ascii_of s (both_right (is_letter_key c) (each is_letter_key s) t))

pub ascii_append : (s u : List ℕ) → all_ascii s ≡ true → all_ascii u ≡ true → all_ascii (s ++ u) ≡ true
ascii_append [] u h k = k
ascii_append (c ∷ s) u h k = ascii_more c (s ++ u) (ascii_low c s h) (ascii_append s u (ascii_rest c s h) k)

-- ── one syllable
module _ (s : WellFormed) where
  -- a form of it in keys, without and with the digit
  abbrev pub bare : Form → List ℕ
  bare form = respell (rules_of form) (unmarked s)

  abbrev pub numbered : Form → List ℕ
  numbered form = bare form ++ (digit_of s.tone ∷ [])

  pub bare_keys : (form : Form) → Bare (bare form)
  bare_keys form = bare_of (bare form) ((unmarked_sound s).keys form)

  pub bare_ascii : (form : Form) → all_ascii (bare form) ≡ true
  bare_ascii form = ascii_of (bare form) ((unmarked_sound s).keys form)

  pub numbered_ascii : (form : Form) → all_ascii (numbered form) ≡ true
  numbered_ascii form =
      let h = tone_most s.tone in
      ascii_append (bare form) (digit_of s.tone ∷ []) (bare_ascii form) (ascii_more (digit_of s.tone) [] (omega arith) ascii_nil)

  pub numbered_short : (form : Form) → length (numbered form) ≤ 256
  numbered_short form = let h = (unmarked_sound s).short_keys form in omega (arith, length-append (bare form) (digit_of s.tone ∷ []))

  keys_detoned : (form : Form) → keys unicode16 form Detoned (text s) ≡ bare form
  unfolding keys keyed
  keys_detoned form =
      ap (λ (r : Stripped). keyed (rules_of form) [] r) (syllable_text s).stripping
      ∙ ap (λ (l : List ℕ). bare form ++ take 1 l) (drop-nil (tone_number s.tone))
      ∙ append-nil (bare form)

  keys_numeric : (form : Form) → keys unicode16 form Numeric (text s) ≡ numbered form
  unfolding keys keyed
  keys_numeric form =
      ap (λ (r : Stripped). keyed (rules_of form) (points "0123456789") r) (syllable_text s).stripping
      ∙ ap (λ (l : List ℕ). bare form ++ l) (numeric_key s.tone)

  -- the forms that an entry has of it: both where it holds 0358
  abbrev pub forms_of : (Form → List ℕ) → Texts
  forms_of f = pick_texts (dotted s) (f Plain ∷ f Oo ∷ []) (f Plain ∷ [])

  pub forms_are : (kind : Kind) → forms unicode16 kind (text s) ≡ forms_of (λ form. keys unicode16 form kind (text s))
  unfolding forms holds_dot dotted
  forms_are kind = refl

  forms_of_same : (f g : Form → List ℕ) → ((form : Form) → f form ≡ g form) → forms_of f ≡ forms_of g
  forms_of_same f g e = ap₂ (λ (x y : List ℕ). pick_texts (dotted s) (x ∷ y ∷ []) (x ∷ [])) (e Plain) (e Oo)

  pub forms_numeric : forms unicode16 Numeric (text s) ≡ forms_of numbered
  forms_numeric = forms_are Numeric ∙ forms_of_same (λ form. keys unicode16 form Numeric (text s)) numbered keys_numeric

  pub forms_detoned : forms unicode16 Detoned (text s) ≡ forms_of bare
  forms_detoned = forms_are Detoned ∙ forms_of_same (λ form. keys unicode16 form Detoned (text s)) bare keys_detoned

  -- one syllable by itself has the same forms
  forms_differ : same (keys unicode16 Plain Detoned (text s)) (keys unicode16 Oo Detoned (text s)) ≡ not (dotted s)
  unfolding dotted
  forms_differ = rw (keys_detoned Plain, keys_detoned Oo) ((unmarked_sound s).differ ∙ ap not (sym (syllable_text s).dot))

  either_way : (b : Bool) (x y : List ℕ) → pick_texts (not b) (x ∷ []) (x ∷ y ∷ []) ≡ pick_texts b (x ∷ y ∷ []) (x ∷ [])
  either_way true x y = refl
  either_way false x y = refl

  pub alone_forms : (kind : Kind) → alone unicode16 kind (text s) ≡ forms unicode16 kind (text s)
  unfolding alone
  alone_forms kind =
      ap (λ (b : Bool). pick_texts b (keys unicode16 Plain kind (text s) ∷ []) (keys unicode16 Plain kind (text s) ∷ keys unicode16 Oo kind (text s) ∷ [])) forms_differ
      ∙ either_way (dotted s) (keys unicode16 Plain kind (text s)) (keys unicode16 Oo kind (text s))
      ∙ sym (forms_are kind)

  -- what holds of both forms holds of each
  pub holds_forms : (P : List ℕ → Type 0) (f : Form → List ℕ) → ((form : Form) → P (f form)) → Each P (forms_of f)
  holds_forms P f h = by (dotted s)
    where
      by : (b : Bool) → Each P (pick_texts b (f Plain ∷ f Oo ∷ []) (f Plain ∷ []))
      by true = (h Plain, (h Oo, tt))
      by false = (h Plain, tt)

  pub digits_apart : Choices (forms_of numbered) (forms_of bare)
  digits_apart =
      record {
        one = holds_forms (λ x. digits x ≡ 1) numbered (λ form. one_digit (bare form) (digit_of s.tone) (bare_keys form) (tone_digit_law s.tone));
        none = holds_forms (λ x. digits x ≡ 0) bare (λ form. bare_digits (bare form) (bare_keys form));
      }

  -- a piece is a form with its digit
  pub piece_of : (p : List ℕ) → Memᴰ p (forms_of numbered) → (form : Form) × (p ≡ numbered form)
  piece_of p m = by (dotted s) m
    where
      second : (p ≡ numbered Plain) ⊎ Memᴰ p (numbered Oo ∷ []) → (form : Form) × (p ≡ numbered form)
      second (inl e) = (Plain, e)
      second (inr k) = (Oo, Memᴰ.eq_of_singleton k)

      by : (b : Bool) → Memᴰ p (pick_texts b (numbered Plain ∷ numbered Oo ∷ []) (numbered Plain ∷ [])) → (form : Form) × (p ≡ numbered form)
      by true k = second (Memᴰ.cases_cons k)
      by false k = (Plain, Memᴰ.eq_of_singleton k)
