-- The search for the tone letter, a pattern and a place at a time; and that it stands in the text.
use mathlib.Core.Path.{◌≡◌, refl, sym, ap, ap₂, ◌∙◌}
use mathlib.Core.Bool.{Bool, true, false, ◌&&◌, ◌||◌}
use mathlib.Core.List.{List, [], ◌∷◌, map}
use mathlib.Core.Option.{Option, none, some, none-ne-some, some-injective}
use Prim.Native.Nat.{ℕ, zero, suc, ◌+◌, ◌≤◌, ◌<◌}
use Prim.Native.String.{String}
use native.Mathlib.Omega.{arith}
use native.Mathlib.Numerals.{add-one}
use native.Mathlib.Decide.{dec_le, ℕ_discrete}
use borrow.Author.Tests.{eq-eqb, ne_eqb, eqb-false}
use lib.Dec.{eqb}
use lib.ListN.{length, drop, get_or, drop_of_length-le, get_or-eq_default}
use lib.Seq.{drop-cons}
use Rattle.ucd.specs.Table.{Table, All, listed}
use Rattle.ji.specs.Text.{points, point, lower}
use Rattle.ji.specs.Lomaji.ToneLetter.{patterns, matches, pick_place, further, or_else, first_place, searched, tone_letter, is_some, has_tone_letter, place_of, letter_at, tone_letter_of, tone_letter_call, has_letter_reply, has_tone_letter_of, has_tone_letter_call, has_tone_letter_reply}
use Rattle.ji.specs.Nfd.{nfd}
use Rattle.ji.specs.Reply.{refused, good, bad, check_text}
use Rattle.ji.specs.declared.reply.Refusal.{Refusal}
use Rattle.ji.proofs.Bools.{false_true, either, and_yes, and_no, and_true, and_right, or_no}
use Rattle.std.specs.List.{list_any}
use Rattle.std.specs.Prelude.{Option as Found, Ok}
use Rattle.ji.specs.declared.unicode.CharLen.{CharLen}

-- pattern k: its letters, and which of them is the tone letter
abbrev pub pattern : ℕ → List String × ℕ
pattern k = get_or patterns k ([], 0)

-- ── the nine patterns by their numbers
-- what holds of each of the nine holds of every number below nine
pub of_nine : (P : ℕ → Type 0) → P 0 → P 1 → P 2 → P 3 → P 4 → P 5 → P 6 → P 7 → P 8 → (k : ℕ) → k < 9 → P k
of_nine P a b c d e f g h i zero l = a
of_nine P a b c d e f g h i (suc zero) l = b
of_nine P a b c d e f g h i (suc (suc zero)) l = c
of_nine P a b c d e f g h i (suc (suc (suc zero))) l = d
of_nine P a b c d e f g h i (suc (suc (suc (suc zero)))) l = e
of_nine P a b c d e f g h i (suc (suc (suc (suc (suc zero))))) l = f
of_nine P a b c d e f g h i (suc (suc (suc (suc (suc (suc zero)))))) l = g
of_nine P a b c d e f g h i (suc (suc (suc (suc (suc (suc (suc zero))))))) l = h
of_nine P a b c d e f g h i (suc (suc (suc (suc (suc (suc (suc (suc zero)))))))) l = i
of_nine P a b c d e f g h i (suc (suc (suc (suc (suc (suc (suc (suc (suc k))))))))) l = let no_way : ⊥ = omega arith in absurd no_way

-- the letters that the patterns begin with
abbrev First : ℕ → ℕ → Type 0
First k x = (x ≡ point (get_or (pattern k).0 0 "")) × (0x61 ≤ x) × (x ≤ 0x7A)

abbrev firsts : List ℕ
firsts = 0x6F ∷ 0x6F ∷ 0x61 ∷ 0x65 ∷ 0x75 ∷ 0x69 ∷ 0x6E ∷ 0x6E ∷ 0x6D ∷ []

pub first_letter : (k : ℕ) → k < 9 → First k (get_or firsts k 0)
first_letter k h =
    of_nine (λ (j : ℕ). First j (get_or firsts j 0))
    (refl, omega arith, omega arith) (refl, omega arith, omega arith) (refl, omega arith, omega arith)
    (refl, omega arith, omega arith) (refl, omega arith, omega arith) (refl, omega arith, omega arith)
    (refl, omega arith, omega arith) (refl, omega arith, omega arith) (refl, omega arith, omega arith)
    k h

-- what holds of all holds of each
pub all_at : (P : ℕ → Type 0) (xs : List ℕ) → All P xs → (k : ℕ) → k < length xs → P (get_or xs k 0)
all_at P [] h k l = let no_way : ⊥ = omega arith in absurd no_way
all_at P (x ∷ xs) h zero l = h.0
all_at P (x ∷ xs) h (suc k) l = all_at P xs h.1 k (omega arith)

-- ── letters
pub listed_none : (xs : List ℕ) (x : ℕ) → All (λ y. x ≡ y → ⊥) xs → false ≡ listed xs x
unfolding listed
listed_none [] x h = refl
listed_none (y ∷ xs) x h = listed_none xs x h.1 ∙ sym (or_no _ _ (ne_eqb y x (λ e. h.0 (sym e))))

pub listed_one : (y x : ℕ) → listed (y ∷ []) x ≡ eqb y x
unfolding listed
listed_one y x = or_false (eqb y x)
  where
    or_false : (b : Bool) → (b || false) ≡ b
    or_false true = refl
    or_false false = refl

eqb_comm : (x y : ℕ) → eqb x y ≡ eqb y x
eqb_comm x y = by_first_law (ℕ_discrete x y)
  where
    by_first_law : Dec (x ≡ y) → eqb x y ≡ eqb y x
    by_first_law (yes e) = eq-eqb x y e ∙ sym (eq-eqb y x (sym e))
    by_first_law (no n) = ne_eqb x y n ∙ sym (ne_eqb y x (λ e. n (sym e)))

-- one letter of a pattern against a place. None of the letters is 0, so that past the end 0 may be read
module _ (letters : String) (more : List String) (s : List ℕ) (at : ℕ) (e : listed (points letters) (lower 0) ≡ false) where
  abbrev Met : Type 0
  Met = matches (letters ∷ more) (drop at s) ≡ (listed (points letters) (lower (get_or s at 0)) && matches more (drop (at + 1) s))

  met : Dec (length s ≤ at) → Met
  met (yes h) =
      ap (matches (letters ∷ more)) (drop_of_length-le s h)
      ∙ sym (and_no _ _ (ap (λ (x : ℕ). listed (points letters) (lower x)) (get_or-eq_default s 0 h) ∙ e))
  met (no h) = let inside : at < length s = omega arith in rw (add-one, drop-cons s at 0)

  pub matches_at : Met
  matches_at = met (dec_le (length s) at)

-- what follows the o of the first pattern
module _ (s : List ℕ) (at a b : ℕ) (first : a ≡ lower (get_or s at 0)) (second : b ≡ lower (get_or s (at + 1) 0)) where
  pub follows : matches ("ae" ∷ "ptkhmni" ∷ []) (drop at s) ≡ (listed (points "ae") a && listed (points "ptkhmni") b)
  unfolding listed lower
  follows =
      matches_at "ae" ("ptkhmni" ∷ []) s at refl
      ∙ ap₂ (λ (x : ℕ) (m : Bool). listed (points "ae") x && m) (sym first)
      (matches_at "ptkhmni" [] s (at + 1) refl ∙ and_true _ ∙ ap (listed (points "ptkhmni")) (sym second))

-- the g of ng
pub is_g : (s : List ℕ) (at x : ℕ) → x ≡ lower (get_or s at 0) → matches ("g" ∷ []) (drop at s) ≡ eqb x (point "g")
unfolding listed lower
is_g s at x e =
    matches_at "g" [] s at refl
    ∙ and_true _
    ∙ listed_one (point "g") (lower (get_or s at 0))
    ∙ ap (eqb (point "g")) (sym e)
    ∙ eqb_comm (point "g") x

-- ── a pattern against a place, by its first letter
module _ (s : List ℕ) (at : ℕ) where
  abbrev By : ℕ → Type 0
  By k = matches (pattern k).0 (drop at s) ≡ (eqb (point (get_or (pattern k).0 0 "")) (lower (get_or s at 0)) && matches (drop 1 (pattern k).0) (drop (at + 1) s))

  -- the pattern's first letter is one only, and not 0
  abbrev Begins : List String → Type 0
  Begins [] = ⊥
  Begins (letter ∷ more) = (listed (points letter) (lower 0) ≡ false) × (points letter ≡ point letter ∷ [])

  by_letter : (p : List String) → Begins p → matches p (drop at s) ≡ (eqb (point (get_or p 0 "")) (lower (get_or s at 0)) && matches (drop 1 p) (drop (at + 1) s))
  by_letter [] h = absurd h
  by_letter (letter ∷ more) h =
      matches_at letter more s at h.0
      ∙ ap (λ (b : Bool). b && matches more (drop (at + 1) s))
      (ap (λ (xs : List ℕ). listed xs (lower (get_or s at 0))) h.1 ∙ listed_one (point letter) (lower (get_or s at 0)))

  by : (k : ℕ) → k < 9 → By k
  unfolding listed lower
  by k h =
      by_letter (pattern k).0
      (of_nine (λ (j : ℕ). Begins (pattern j).0)
      (refl, refl) (refl, refl) (refl, refl) (refl, refl) (refl, refl) (refl, refl) (refl, refl) (refl, refl) (refl, refl)
      k h)

  -- x is the letter at the place and f the pattern's first
  module _ (k : ℕ) (h : k < 9) (x f : ℕ) (letter : x ≡ lower (get_or s at 0)) (first : f ≡ point (get_or (pattern k).0 0 "")) where
    pub begun : x ≡ f → matches (pattern k).0 (drop at s) ≡ matches (drop 1 (pattern k).0) (drop (at + 1) s)
    begun e = by k h ∙ and_yes _ _ (eq-eqb _ _ (sym first ∙ sym e ∙ letter))

    pub not_begun : (x ≡ f → ⊥) → matches (pattern k).0 (drop at s) ≡ false
    not_begun n = by k h ∙ and_no _ _ (ne_eqb _ _ (λ e. n (letter ∙ sym e ∙ sym first)))

-- the other patterns have one letter
pub one_letter : (k : ℕ) (s : List ℕ) → k < 9 → (k ≡ 0 → ⊥) → (k ≡ 6 → ⊥) → matches (drop 1 (pattern k).0) s ≡ true
one_letter k s h n m =
    of_nine (λ (j : ℕ). (j ≡ 0 → ⊥) → (j ≡ 6 → ⊥) → matches (drop 1 (pattern j).0) s ≡ true)
    (λ z y. absurd (z refl)) (λ z y. refl) (λ z y. refl) (λ z y. refl) (λ z y. refl) (λ z y. refl) (λ z y. absurd (y refl)) (λ z y. refl) (λ z y. refl)
    k h n m

-- ── places of one pattern
further_further : (m n : ℕ) (o : Option ℕ) → further m (further n o) ≡ further (m + n) o
further_further m n none = refl
further_further m n (some k) = let e : m + (n + k) ≡ m + n + k = omega arith in ap some e

module _ (p : List String) (s : List ℕ) where
  -- what the first place is, from a place inside the text on
  place_step : (at : ℕ) → at < length s → (b : Bool) → matches p (drop at s) ≡ b → first_place p (drop at s) ≡ pick_place b (some 0) (further 1 (first_place p (drop (suc at) s)))
  unfolding first_place
  place_step at h b e =
      let d = drop-cons s at 0 h in
      ap (first_place p) d ∙ ap (λ (t : Bool). pick_place t (some 0) (further 1 (first_place p (drop (suc at) s)))) (ap (matches p) (sym d) ∙ e)

  pub place_here : (at : ℕ) → at < length s → matches p (drop at s) ≡ true → further at (first_place p (drop at s)) ≡ some at
  place_here at h e = let z : at + 0 ≡ at = omega arith in ap (further at) (place_step at h true e) ∙ ap some z

  pub place_later : (at : ℕ) → at < length s → matches p (drop at s) ≡ false → further at (first_place p (drop at s)) ≡ further (at + 1) (first_place p (drop (at + 1) s))
  place_later at h e =
      ap (further at) (place_step at h false e)
      ∙ further_further at 1 (first_place p (drop (suc at) s))
      ∙ ap (λ (n : ℕ). further (at + 1) (first_place p (drop n s))) (sym (add-one at))

  pub place_end : (at : ℕ) → length s ≤ at → further at (first_place p (drop at s)) ≡ none
  unfolding first_place
  place_end at h = ap (λ (t : List ℕ). further at (first_place p t)) (drop_of_length-le s h)

-- ── one pattern after another
module _ (s : List ℕ) where
  pub search_start : tone_letter s ≡ searched (drop 0 patterns) s
  unfolding tone_letter
  search_start = refl

  search_step : (k : ℕ) → k < length patterns → searched (drop k patterns) s ≡ or_else (further (pattern k).1 (first_place (pattern k).0 s)) (searched (drop (k + 1) patterns) s)
  unfolding searched
  search_step k h = rw (add-one, drop-cons patterns k ([], 0) h)

  pub search_here : (k at : ℕ) → k < length patterns → first_place (pattern k).0 s ≡ some at → searched (drop k patterns) s ≡ some ((pattern k).1 + at)
  search_here k at h e = search_step k h ∙ ap (λ (o : Option ℕ). or_else (further (pattern k).1 o) (searched (drop (k + 1) patterns) s)) e

  pub search_next : (k : ℕ) → k < length patterns → first_place (pattern k).0 s ≡ none → searched (drop k patterns) s ≡ searched (drop (k + 1) patterns) s
  search_next k h e = search_step k h ∙ ap (λ (o : Option ℕ). or_else (further (pattern k).1 o) (searched (drop (k + 1) patterns) s)) e

  pub search_end : (k : ℕ) → length patterns ≤ k → searched (drop k patterns) s ≡ none
  unfolding searched
  search_end k h = ap (λ (ps : List (List String × ℕ)). searched ps s) (drop_of_length-le patterns h)

-- ── a text without o has neither of the first two patterns
place_none : (p : List String) (s : List ℕ) → ((at : ℕ) → at < length s → matches p (drop at s) ≡ false) → first_place p s ≡ none
unfolding first_place
place_none p [] h = refl
place_none p (x ∷ s) h =
    ap (λ (b : Bool). pick_place b (some 0) (further 1 (first_place p s))) (h 0 (omega arith)) ∙ ap (further 1) (place_none p s (λ at l. h (suc at) (omega arith)))

pub no_o : (s : List ℕ) → ((at : ℕ) → at < length s → eqb (lower (get_or s at 0)) (point "o") ≡ false) → tone_letter s ≡ searched (drop 2 patterns) s
no_o s h =
    search_start s
    ∙ search_next s 0 (omega arith) (place_none (pattern 0).0 s (λ at l. not_begun s at 0 (omega arith) _ _ refl refl (eqb-false _ _ (h at l))))
    ∙ search_next s 1 (omega arith) (place_none (pattern 1).0 s (λ at l. not_begun s at 1 (omega arith) _ _ refl refl (eqb-false _ _ (h at l))))

-- where neither of two holds, each does not
or_left_false : (a b : Bool) → (a || b) ≡ false → a ≡ false
or_left_false true b e = e
or_left_false false b e = refl

or_right_false : (a b : Bool) → (a || b) ≡ false → b ≡ false
or_right_false true b e = absurd (false_true (sym e))
or_right_false false b e = e

-- so none of the letters is o, where none was found to be
pub none_o : {X : Type 0} (number : X → ℕ) (s : List X) → list_any (λ x. eqb (lower (number x)) (point "o")) s ≡ false
    → (at : ℕ) → at < length (map number s) → eqb (lower (get_or (map number s) at 0)) (point "o") ≡ false
none_o number [] h at l = absurd (omega arith)
none_o number (x ∷ s) h zero l = or_left_false _ _ h
none_o number (x ∷ s) h (suc at) l = none_o number s (or_right_false (eqb (lower (number x)) (point "o")) _ h) at (omega arith)

-- ── the tone letter stands in the text
-- what is n further than a place is some, only where the place is
further_is : {P : Type 0} (n : ℕ) (o : Option ℕ) (k : ℕ) → further n o ≡ some k → ((m : ℕ) → o ≡ some m → k ≡ n + m → P) → P
further_is n none k e f = absurd (none-ne-some k e)
further_is n (some m) k e f = f m refl (some-injective k (n + m) (sym e))

matches_fits : (p : List String) (s : List ℕ) → matches p s ≡ true → length p ≤ length s
matches_fits [] s e = omega arith
matches_fits (letters ∷ p) [] e = absurd (false_true e)
matches_fits (letters ∷ p) (x ∷ s) e = let rest = matches_fits p s (and_right (listed (points letters) (lower x)) (matches p s) e) in omega arith

place_fits : (p : List String) (s : List ℕ) (k : ℕ) → first_place p s ≡ some k → k + length p ≤ length s
unfolding first_place
place_fits p [] k e = absurd (none-ne-some k e)
place_fits p (x ∷ s) k e =
    let later : Option ℕ = further 1 (first_place p s) in
    either (matches p (x ∷ s))
    (λ h.
    let z : k ≡ 0 = some-injective k 0 (sym e ∙ ap (λ (b : Bool). pick_place b (some 0) later) h) in
    let fits = matches_fits p (x ∷ s) h in
    omega arith)
    (λ h.
    further_is 1 (first_place p s) k (sym (ap (λ (b : Bool). pick_place b (some 0) later) h) ∙ e)
    (λ m o z. let fits = place_fits p s m o in omega arith))

-- the tone letter of each pattern is one of its letters
abbrev Inside : List (List String × ℕ) → Type 0
Inside [] = Unit {0}
Inside (p ∷ ps) = (p.1 < length p.0) × Inside ps

or_else_is : {P : Type 0} (o q : Option ℕ) (k : ℕ) → or_else o q ≡ some k → (o ≡ some k → P) → (q ≡ some k → P) → P
or_else_is none q k e f g = g e
or_else_is (some m) q k e f g = f e

search_below : (ps : List (List String × ℕ)) → Inside ps → (s : List ℕ) (k : ℕ) → searched ps s ≡ some k → k < length s
unfolding searched
search_below [] h s k e = absurd (none-ne-some k e)
search_below (p ∷ ps) h s k e =
    or_else_is (further p.1 (first_place p.0 s)) (searched ps s) k e
    (λ o.
    further_is p.1 (first_place p.0 s) k o (λ m f z. let fits = place_fits p.0 s m f in let inside = h.0 in omega arith))
    (λ o. search_below ps h.1 s k o)

pub tone_letter_below : (s : List ℕ) (k : ℕ) → tone_letter s ≡ some k → k < length s
unfolding tone_letter
tone_letter_below s k e = search_below patterns (omega arith) s k e

-- ── the calls
-- what was found, as the definition has it
pub letter_found : (s : List ℕ) {p x : Found CharLen} → p ≡ x → place_of p ≡ tone_letter s → place_of x ≡ tone_letter s
letter_found s e h = ap place_of (sym e) ∙ h

-- whether there is one, as the code has it
pub has_reply : (b : Bool) → has_tone_letter_reply (Ok b) ≡ has_letter_reply b
has_reply true = refl
has_reply false = refl

module _ (t : Table) (text : List ℕ) where
  pub letter_refused : (why : Refusal) → check_text t text ≡ bad why → refused why [] ≡ tone_letter_call t text
  unfolding tone_letter_call
  letter_refused why e = sym (ap tone_letter_of e)

  pub letter_good : (s : List ℕ) → check_text t text ≡ good s → letter_at s (tone_letter s) ≡ tone_letter_call t text
  unfolding tone_letter_call
  letter_good s e = sym (ap tone_letter_of e)

  pub has_refused : (why : Refusal) → check_text t text ≡ bad why → refused why [] ≡ has_tone_letter_call t text
  unfolding has_tone_letter_call
  has_refused why e = sym (ap (has_tone_letter_of t) e)

  pub has_good : (s : List ℕ) → check_text t text ≡ good s → has_letter_reply (is_some (tone_letter (nfd t s))) ≡ has_tone_letter_call t text
  unfolding has_tone_letter_call has_tone_letter
  has_good s e = sym (ap (has_tone_letter_of t) e)
