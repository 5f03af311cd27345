-- Texts without the pairs of some vowel rules: these do nothing there.
use mathlib.Core.Path.{◌≡◌, refl, sym, ap, ◌∙◌}
use mathlib.Core.Bool.{true, false, not, ◌&&◌}
use mathlib.Core.List.{List, [], ◌∷◌}
use Prim.Native.Nat.{ℕ, ◌+◌, ◌≤◌, ◌<◌}
use lib.Dec.{eqb}
use lib.ListN.{length, drop, get_or, drop_of_length-le}
use borrow.Author.Tests.{eq-eqb, eqb-true}
use Rattle.ji.specs.Unicode.{listed}
use Rattle.ji.specs.Text.{points, begins, replace_all}
use Rattle.ji.specs.Lomaji.Keys.{respell}
use Rattle.ji.proofs.Bools.{either, false_true, and_yes, and_false, and_left, and_right, or_yes, or_no}
use Rattle.ji.proofs.text.Laws.{drop_next, replace_nil, replace_miss}
use Rattle.khiin.specs.Syllable.{vowel_rules}
use Rattle.khiin.specs.Compose.{apart_from, o_pairs, e_pairs}

module _ (F G : List ℕ) where
  -- the walk
  pub apart_step : (before : ℕ) (s : List ℕ) (i : ℕ) → i < length s → (listed F before && listed G (get_or s i 0)) ≡ false → apart_from F G before (drop i s) ≡ apart_from F G (get_or s i 0) (drop (i + 1) s)
  unfolding apart_from
  apart_step before s i h e = ap (apart_from F G before) (drop_next s i h) ∙ and_yes _ _ (ap not e)

  pub apart_end : (before : ℕ) (s : List ℕ) (i : ℕ) → length s ≤ i → apart_from F G before (drop i s) ≡ true
  unfolding apart_from
  apart_end before s i h = ap (apart_from F G before) (drop_of_length-le s h)

  apart_rest : (before x : ℕ) (s : List ℕ) → apart_from F G before (x ∷ s) ≡ true → apart_from F G x s ≡ true
  unfolding apart_from
  apart_rest before x s h = and_right (not (listed F before && listed G x)) (apart_from F G x s) h

  not_both : (before x : ℕ) (s : List ℕ) → apart_from F G before (x ∷ s) ≡ true → (listed F before && listed G x) ≡ true → ⊥
  unfolding apart_from
  not_both before x s h e = false_true (sym (ap not e) ∙ and_left (not (listed F before && listed G x)) (apart_from F G x s) h)

  -- a pattern of a first and a second letter
  module _ (f g : ℕ) (first : listed F f ≡ true) (second : listed G g ≡ true) where
    absent : (x : ℕ) (s : List ℕ) → apart_from F G x s ≡ true → begins (f ∷ g ∷ []) (x ∷ s) ≡ false
    unfolding begins
    absent x [] h = and_false (eqb x f)
    absent x (y ∷ s) h =
        either (begins (f ∷ g ∷ []) (x ∷ y ∷ s))
        (λ e.
        let x_is = eqb-true x f (and_left (eqb x f) (eqb y g && true) e) in
        let y_is = eqb-true y g (and_left (eqb y g) true (and_right (eqb x f) (eqb y g && true) e)) in
        absurd (not_both x y s h (and_yes _ _ (ap (listed F) x_is ∙ first) ∙ ap (listed G) y_is ∙ second)))
        (λ e. e)

    stays : (r : List ℕ) (before : ℕ) (s : List ℕ) → apart_from F G before s ≡ true → replace_all (f ∷ g ∷ []) r s ≡ s
    stays r before [] h = replace_nil (f ∷ g ∷ []) r
    stays r before (x ∷ s) h =
        let k = apart_rest before x s h in
        replace_miss (f ∷ g ∷ []) r x s (absent x s k) ∙ ap (λ (t : List ℕ). x ∷ t) (stays r x s k)

  -- rules with such patterns
  abbrev Two : List ℕ → Type 0
  Two p = (f : ℕ) × (g : ℕ) × (p ≡ f ∷ g ∷ []) × (listed F f ≡ true) × (listed G g ≡ true)

  abbrev Rules : List (List ℕ × List ℕ) → Type 0
  Rules [] = Unit {0}
  Rules (r ∷ rs) = Two r.0 × Rules rs

  respell_apart : (rules : List (List ℕ × List ℕ)) → Rules rules → (before : ℕ) (s : List ℕ) → apart_from F G before s ≡ true → respell rules s ≡ s
  respell_apart [] h before s k = refl
  respell_apart (r ∷ rs) ((f, g, is, first, second), h) before s k =
      ap (respell rs) (ap (λ (p : List ℕ). replace_all p r.1 s) is ∙ stays f g first second r.1 before s k) ∙ respell_apart rs h before s k

-- all of the vowel rules
pub vowels_apart : (s : List ℕ) → apart_from (points "oOeE") (points "oOuU") 0 s ≡ true → respell vowel_rules s ≡ s
unfolding listed
vowels_apart s h = respell_apart (points "oOeE") (points "oOuU") vowel_rules ((0x6F, 0x75, refl, refl, refl), ((0x6F, 0x55, refl, refl, refl), ((0x4F, 0x75, refl, refl, refl), ((0x4F, 0x55, refl, refl, refl), ((0x6F, 0x6F, refl, refl, refl), ((0x6F, 0x4F, refl, refl, refl), ((0x4F, 0x6F, refl, refl, refl), ((0x4F, 0x4F, refl, refl, refl), ((0x65, 0x6F, refl, refl, refl), ((0x45, 0x6F, refl, refl, refl), ((0x65, 0x4F, refl, refl, refl), ((0x45, 0x4F, refl, refl, refl), ((0x65, 0x75, refl, refl, refl), ((0x45, 0x75, refl, refl, refl), ((0x65, 0x55, refl, refl, refl), ((0x45, 0x55, refl, refl, refl), tt)))))))))))))))) 0 s h

-- those of a group
listed_first : (a b : ℕ) → listed (a ∷ b ∷ []) a ≡ true
unfolding listed
listed_first a b = or_yes _ _ (eq-eqb a a refl)

listed_last : (a b : ℕ) → listed (a ∷ b ∷ []) b ≡ true
unfolding listed
listed_last a b =
    either (eqb a b) (λ e. or_yes _ _ e) (λ n. or_no _ _ n ∙ or_yes _ _ (eq-eqb b b refl))

module _ (small capital : ℕ) (s : List ℕ) where
  pub o_apart : apart_from (0x6F ∷ 0x4F ∷ []) (small ∷ capital ∷ []) 0 s ≡ true → respell (o_pairs small capital) s ≡ s
  o_apart h =
      let a = listed_first small capital in
      let b = listed_last small capital in
      let o = listed_first 0x6F 0x4F in
      let p = listed_last 0x6F 0x4F in
      respell_apart (0x6F ∷ 0x4F ∷ []) (small ∷ capital ∷ []) (o_pairs small capital)
      ((0x6F, small, refl, o, a), ((0x6F, capital, refl, o, b), ((0x4F, small, refl, p, a), ((0x4F, capital, refl, p, b), tt)))) 0 s h

  pub e_apart : apart_from (0x65 ∷ 0x45 ∷ []) (small ∷ capital ∷ []) 0 s ≡ true → respell (e_pairs small capital) s ≡ s
  e_apart h =
      let a = listed_first small capital in
      let b = listed_last small capital in
      let e = listed_first 0x65 0x45 in
      let f = listed_last 0x65 0x45 in
      respell_apart (0x65 ∷ 0x45 ∷ []) (small ∷ capital ∷ []) (e_pairs small capital)
      ((0x65, small, refl, e, a), ((0x45, small, refl, f, a), ((0x65, capital, refl, e, b), ((0x45, capital, refl, f, b), tt)))) 0 s h
