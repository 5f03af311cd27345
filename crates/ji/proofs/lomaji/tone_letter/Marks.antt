-- The tone letter and the tone marks: a text has a tone letter just where it has one without its tone marks. No mark is a letter of a pattern,
-- and the letter that a pattern begins with is a pattern by itself, so that it does not matter which letters the marks stand between.
use mathlib.Core.Path.{◌≡◌, refl, sym, ap, ap₂, ◌∙◌}
use mathlib.Core.Bool.{Bool, true, false, ◌&&◌, ◌||◌}
use mathlib.Core.List.{List, [], ◌∷◌}
use mathlib.Core.Option.{Option, none, some}
use Prim.Native.Nat.{ℕ, ◌≤◌, ◌<◌}
use Prim.Native.String.{String}
use native.Mathlib.Omega.{arith}
use borrow.Author.Tests.{eqb-true}
use lib.Dec.{eqb}
use Rattle.std.specs.List.{list_any}
use Rattle.ucd.specs.Table.{Table, All, listed}
use Rattle.ji.specs.Text.{points, lower}
use Rattle.ji.specs.Nfd.{nfd}
use Rattle.ji.specs.Lomaji.Strip.{tone_marks, mark_in, is_tone_mark, without_marks, stripped, strip}
use Rattle.ji.specs.Lomaji.ToneLetter.{patterns, matches, pick_place, further, or_else, first_place, searched, tone_letter, is_some, has_tone_letter}
use Rattle.ji.specs.declared.tone.Tone.{Tone}
use Rattle.ji.proofs.Bools.{either, false_true, and_true, and_left, and_no, and_yes, or_yes, or_no, number_no, within_above}
use Rattle.ji.proofs.lomaji.strip.Commuting.{without_mark, without_other}
use Rattle.ji.proofs.lomaji.tone_letter.Laws.{listed_none, listed_one}

-- ── marks are no letters
abbrev High : List (ℕ × Tone) → Type 0
High [] = Unit {0}
High (m ∷ ms) = (0x0300 ≤ m.0) × High ms

high_in : (ms : List (ℕ × Tone)) → High ms → (c : ℕ) → mark_in ms c ≡ true → 0x0300 ≤ c
high_in [] h c e = absurd (false_true e)
high_in (m ∷ ms) h c e =
    either (eqb m.0 c)
    (λ y. omega (arith, h.0, eqb-true m.0 c y))
    (λ n. high_in ms h.1 c (sym (or_no (eqb m.0 c) (mark_in ms c) n) ∙ e))

mark_high : (c : ℕ) → is_tone_mark c ≡ true → 0x0300 ≤ c
unfolding is_tone_mark
mark_high c e = high_in tone_marks (omega arith) c e

lower_high : (c : ℕ) → 0x0300 ≤ c → lower c ≡ c
unfolding lower
lower_high c h = number_no _ _ _ (within_above 65 90 c (omega arith))

abbrev Low : List ℕ → Type 0
Low xs = All (λ y. y < 0x0300) xs

low_differ : (xs : List ℕ) (x : ℕ) → Low xs → 0x0300 ≤ x → All (λ y. x ≡ y → ⊥) xs
low_differ [] x h k = tt
low_differ (y ∷ xs) x h k = ((λ e. omega (arith, h.0)), low_differ xs x h.1 k)

mark_unlisted : (xs : List ℕ) → Low xs → (c : ℕ) → is_tone_mark c ≡ true → listed xs (lower c) ≡ false
mark_unlisted xs h c e =
    ap (listed xs) (lower_high c (mark_high c e)) ∙ sym (listed_none xs c (low_differ xs c h (mark_high c e)))

-- ── whether a pattern stands anywhere
place_some : (p : List String) (x : ℕ) (s : List ℕ) → is_some (first_place p (x ∷ s)) ≡ (matches p (x ∷ s) || is_some (first_place p s))
unfolding first_place
place_some p x s = picked (matches p (x ∷ s)) (first_place p s)
  where
    picked : (b : Bool) (o : Option ℕ) → is_some (pick_place b (some 0) (further 1 o)) ≡ (b || is_some o)
    picked true o = refl
    picked false none = refl
    picked false (some k) = refl

module _ (letters : String) where
  abbrev Found : List ℕ → Bool
  Found s = is_some (first_place (letters ∷ []) s)

  -- where a pattern stands, its first letter stands
  begins_found : (more : List String) (s : List ℕ) → is_some (first_place (letters ∷ more) s) ≡ true → Found s ≡ true
  unfolding first_place
  begins_found more [] e = e
  begins_found more (x ∷ s) e =
      place_some (letters ∷ []) x s
      ∙ either (matches (letters ∷ more) (x ∷ s))
      (λ y. or_yes _ _ (and_yes _ _ (and_left (listed (points letters) (lower x)) (matches more s) y)))
      (λ n. either (matches (letters ∷ []) (x ∷ s)) (λ y. or_yes _ _ y) (λ m. or_no _ _ m ∙ begins_found more s (sym (or_no (matches (letters ∷ more) (x ∷ s)) _ n) ∙ sym (place_some (letters ∷ more) x s) ∙ e)))

  -- a letter stands in a text just where it stands there without the marks
  found_without : Low (points letters) → (s : List ℕ) → Found (without_marks s) ≡ Found s
  unfolding without_marks
  found_without h [] = refl
  found_without h (x ∷ s) =
      either (is_tone_mark x)
      (λ y.
      ap Found (without_mark x s y)
      ∙ found_without h s
      ∙ sym (place_some (letters ∷ []) x s ∙ or_no _ _ (and_no _ _ (mark_unlisted (points letters) h x y))))
      (λ n.
      ap Found (without_other x s n)
      ∙ place_some (letters ∷ []) x (without_marks s)
      ∙ ap (λ (b : Bool). (listed (points letters) (lower x) && true) || b) (found_without h s)
      ∙ sym (place_some (letters ∷ []) x s))

-- ── whether one of several patterns does
abbrev anywhere : List (List String × ℕ) → List ℕ → Bool
anywhere [] s = false
anywhere (p ∷ ps) s = is_some (first_place p.0 s) || anywhere ps s

some_else : (n : ℕ) (o q : Option ℕ) → is_some (or_else (further n o) q) ≡ (is_some o || is_some q)
some_else n none q = refl
some_else n (some k) q = refl

searched_some : (ps : List (List String × ℕ)) (s : List ℕ) → is_some (searched ps s) ≡ anywhere ps s
unfolding searched
searched_some [] s = refl
searched_some (p ∷ ps) s =
    some_else p.1 (first_place p.0 s) (searched ps s) ∙ ap (λ (b : Bool). is_some (first_place p.0 s) || b) (searched_some ps s)

-- the patterns of one letter
abbrev single : List (List String × ℕ)
single = ("o" ∷ [], 0) ∷ ("a" ∷ [], 0) ∷ ("e" ∷ [], 0) ∷ ("u" ∷ [], 0) ∷ ("i" ∷ [], 0) ∷ ("n" ∷ [], 0) ∷ ("m" ∷ [], 0) ∷ []

absorbed : (a b c : Bool) → (a ≡ true → b ≡ true) → (a || (b || c)) ≡ (b || c)
absorbed true b c h = sym (or_yes b c (h refl))
absorbed false b c h = refl

-- they decide it
letter_single : (s : List ℕ) → is_some (tone_letter s) ≡ anywhere single s
unfolding tone_letter
letter_single s =
    searched_some patterns s
    ∙ absorbed (is_some (first_place ("o" ∷ "ae" ∷ "ptkhmni" ∷ []) s)) (Found "o" s) _ (begins_found "o" ("ae" ∷ "ptkhmni" ∷ []) s)
    ∙ ap (λ (b : Bool). Found "o" s || (Found "a" s || (Found "e" s || (Found "u" s || (Found "i" s || b)))))
    (absorbed (is_some (first_place ("n" ∷ "g" ∷ []) s)) (Found "n" s) _ (begins_found "n" ("g" ∷ []) s))

-- so that one letter after the other can be looked at
or_or : (a b c d : Bool) → ((a || b) || (c || d)) ≡ ((a || c) || (b || d))
or_or true b c d = refl
or_or false true true d = refl
or_or false true false d = refl
or_or false false c d = refl

abbrev matches_any : List (List String × ℕ) → List ℕ → Bool
matches_any [] s = false
matches_any (p ∷ ps) s = matches p.0 s || matches_any ps s

anywhere_step : (ps : List (List String × ℕ)) (x : ℕ) (s : List ℕ) → anywhere ps (x ∷ s) ≡ (matches_any ps (x ∷ s) || anywhere ps s)
anywhere_step [] x s = refl
anywhere_step (p ∷ ps) x s =
    ap₂ (λ (a b : Bool). a || b) (place_some p.0 x s) (anywhere_step ps x s)
    ∙ or_or (matches p.0 (x ∷ s)) (is_some (first_place p.0 s)) (matches_any ps (x ∷ s)) (anywhere ps s)

single_letter : (x : ℕ) (s : List ℕ) → matches_any single (x ∷ s) ≡ listed (points "oaeuinm") (lower x)
unfolding listed
single_letter x s =
    let one : (y : ℕ) → (listed (y ∷ []) (lower x) && true) ≡ eqb y (lower x) = λ y. and_true _ ∙ listed_one y (lower x) in
    simp (one 111, one 97, one 101, one 117, one 105, one 110, one 109)

pub letter_more : (x : ℕ) (s : List ℕ) → is_some (tone_letter (x ∷ s)) ≡ (listed (points "oaeuinm") (lower x) || is_some (tone_letter s))
letter_more x s =
    letter_single (x ∷ s)
    ∙ anywhere_step single x s
    ∙ ap₂ (λ (a b : Bool). a || b) (single_letter x s) (sym (letter_single s))

pub letter_nil : is_some (tone_letter []) ≡ false
unfolding tone_letter searched first_place
letter_nil = refl

pub letter_any : (s : List ℕ) → is_some (tone_letter s) ≡ list_any (λ x. listed (points "oaeuinm") (lower x)) s
letter_any [] = letter_nil
letter_any (x ∷ s) = letter_more x s ∙ ap (λ (b : Bool). listed (points "oaeuinm") (lower x) || b) (letter_any s)

abbrev Singles : List (List String × ℕ) → Type 0
Singles [] = Unit {0}
Singles (([], n) ∷ ps) = ⊥
Singles ((l ∷ [], n) ∷ ps) = Low (points l) × Singles ps
Singles ((l ∷ (k ∷ ls), n) ∷ ps) = ⊥

anywhere_without : (ps : List (List String × ℕ)) → Singles ps → (s : List ℕ) → anywhere ps (without_marks s) ≡ anywhere ps s
anywhere_without [] h s = refl
anywhere_without (([], n) ∷ ps) h s = absurd h
anywhere_without ((l ∷ [], n) ∷ ps) h s = ap₂ (λ (a b : Bool). a || b) (found_without l h.0 s) (anywhere_without ps h.1 s)
anywhere_without ((l ∷ (k ∷ ls), n) ∷ ps) h s = absurd h

-- a text has a tone letter just where it has one without its marks
pub letter_without : (s : List ℕ) → is_some (tone_letter (without_marks s)) ≡ is_some (tone_letter s)
letter_without s =
    letter_single (without_marks s)
    ∙ anywhere_without single (omega arith) s
    ∙ sym (letter_single s)

-- so the stripped text tells whether the text has one
pub letter_stripped : (t : Table) (s : List ℕ) → is_some (tone_letter (strip t s).rest) ≡ has_tone_letter t s
unfolding has_tone_letter stripped
letter_stripped t s = letter_without (nfd t s)
