-- What the quick way rests on of the table, each from a test that is computed over its rows.
use mathlib.Core.Path.{◌≡◌, refl, sym, ap, ◌∙◌, subst}
use mathlib.Core.Bool.{Bool, true, false, not, ◌&&◌}
use mathlib.Core.List.{List, [], ◌∷◌}
use mathlib.Core.Option.{Option, none, some, some-injective}
use Prim.Native.Nat.{ℕ, ◌≤◌, ◌<◌}
use native.Mathlib.Omega.{arith}
use lib.Dec.{T, leb, ltb, eqb, leb→le, ltb→lt, eqb→eq}
use borrow.Author.Tests.{ne_eqb, leb-true}
use Rattle.ji.specs.Unicode.{Table, unicode16, mappings16, classes16, spread, same, listed, mapping_in, class_in, decomposition, combining_class, is_composite, composite_in, composite, pass, passes, full}
use Rattle.ji.specs.Text.{points}
use Rattle.ji.proofs.Cases.{none_not_some}
use Rattle.ji.proofs.Bools.{either, false_true, and_left, and_right, number_no, text_yes, text_no}
use Rattle.ji.proofs.unicode.Bytes.{same_equal}
use Rattle.ji.proofs.unicode.Laws.{spread_itself}
use Rattle.khiin.specs.Compose.{is_mark, JoinedAs}
use Rattle.khiin.specs.declared.syllable.marking.Joined.{Joined}
use Rattle.khiin.specs.declared.syllable.marking.Joined.TheVariants.{Composite, Apart, Unknown}

-- ── classes
abbrev marks_only : List (ℕ × ℕ) → Bool
marks_only [] = true
marks_only (r ∷ rs) = leb 0x0300 r.0 && marks_only rs

class_in_law : (rs : List (ℕ × ℕ)) → marks_only rs ≡ true → (c : ℕ) → c < 0x0300 → class_in rs c ≡ 0
unfolding class_in
class_in_law [] h c low = refl
class_in_law (r ∷ rs) h c low =
    let k : 0x0300 ≤ r.0 = leb-true 0x0300 r.0 (and_left (leb 0x0300 r.0) (marks_only rs) h) in
    number_no (eqb r.0 c) r.1 (class_in rs c) (ne_eqb r.0 c (λ e. omega arith))
    ∙ class_in_law rs (and_right (leb 0x0300 r.0) (marks_only rs) h) c low

marks_only_law : marks_only classes16 ≡ true
unfolding classes16
marks_only_law = refl

-- what lies below 0300 is a starter
pub low_starter : (c : ℕ) → c < 0x0300 → combining_class unicode16 c ≡ 0
unfolding combining_class unicode16
low_starter c h = class_in_law classes16 marks_only_law c h

-- the classes of the marks and the signs
pub dots_class : combining_class unicode16 0x0324 ≡ 220
unfolding combining_class unicode16 class_in classes16
dots_class = refl

pub dot_class : combining_class unicode16 0x0358 ≡ 232
unfolding combining_class unicode16 class_in classes16
dot_class = refl

pub small_class : combining_class unicode16 0x207F ≡ 0
unfolding combining_class unicode16 class_in classes16
small_class = refl

pub capital_class : combining_class unicode16 0x1D3A ≡ 0
unfolding combining_class unicode16 class_in classes16
capital_class = refl

-- ── full decomposition
pub low_full : (c : ℕ) → c < 0xC0 → full unicode16 (c ∷ []) ≡ c ∷ []
unfolding spread
low_full c h = spread_itself true c h

pub dots_full : full unicode16 (0x0324 ∷ []) ≡ 0x0324 ∷ []
unfolding full passes pass decomposition unicode16 mapping_in mappings16
dots_full = refl

pub small_full : full unicode16 (0x207F ∷ []) ≡ 0x207F ∷ []
unfolding full passes pass decomposition unicode16 mapping_in mappings16
small_full = refl

pub capital_full : full unicode16 (0x1D3A ∷ []) ≡ 0x1D3A ∷ []
unfolding full passes pass decomposition unicode16 mapping_in mappings16
capital_full = refl

-- ── composites
-- no mapping ends in a code point above 0338 or in 030D, and none is an o with 0324
abbrev pub second_fits : ℕ → ℕ → Bool
second_fits a b = leb b 0x0338 && (not (eqb b 0x030D) && not (eqb b 0x0324 && listed (points "oO") a))

abbrev text_fits : List ℕ → Bool
text_fits [] = true
text_fits (a ∷ []) = true
text_fits (a ∷ b ∷ []) = second_fits a b
text_fits (a ∷ b ∷ (x ∷ s)) = true

abbrev texts_fit : List (ℕ × List ℕ) → Bool
texts_fit [] = true
texts_fit (r ∷ rs) = text_fits r.1 && texts_fit rs

mapping_in_law : (rs : List (ℕ × List ℕ)) → texts_fit rs ≡ true → (c : ℕ) → text_fits (mapping_in rs c) ≡ true
unfolding mapping_in
mapping_in_law [] h c = refl
mapping_in_law (r ∷ rs) h c =
    either (eqb r.0 c)
    (λ e. ap text_fits (text_yes (eqb r.0 c) r.1 (mapping_in rs c) e) ∙ and_left (text_fits r.1) (texts_fit rs) h)
    (λ e. ap text_fits (text_no (eqb r.0 c) r.1 (mapping_in rs c) e) ∙ mapping_in_law rs (and_right (text_fits r.1) (texts_fit rs) h) c)

texts_fit_law : texts_fit mappings16 ≡ true
unfolding mappings16 listed
texts_fit_law = refl

passed : (b : Bool) → b ≡ true → T b
passed b e = subst T (sym e) tt

-- a composite is one of the test
composite_is : (t : Table) (rs : List (ℕ × List ℕ)) (a b p : ℕ) → composite_in t rs a b ≡ some p → is_composite t a b p ≡ true
unfolding composite_in
composite_is t [] a b p e = absurd (none_not_some refl e)
composite_is t (r ∷ rs) a b p e =
    either (is_composite t a b r.0)
    (λ y. subst (λ (q : ℕ). is_composite t a b q ≡ true) (some-injective r.0 p (rw y at e)) y)
    (λ n. composite_is t rs a b p (rw n at e))

second_fits_law : (a b p : ℕ) → composite unicode16 a b ≡ some p → second_fits a b ≡ true
unfolding composite is_composite decomposition unicode16
second_fits_law a b p e =
    let is : same (mapping_in mappings16 p) (a ∷ b ∷ []) ≡ true = and_left (same (mapping_in mappings16 p) (a ∷ b ∷ [])) _ (composite_is unicode16 mappings16 a b p e) in
    sym (ap text_fits (same_equal (mapping_in mappings16 p) (a ∷ b ∷ []) (passed _ is))) ∙ mapping_in_law mappings16 texts_fit_law p

pub no_composite : (a b : ℕ) → second_fits a b ≡ false → composite unicode16 a b ≡ none
no_composite a b h = go (composite unicode16 a b) refl
  where
    go : (o : Option ℕ) → composite unicode16 a b ≡ o → composite unicode16 a b ≡ none
    go none e = e
    go (some p) e = absurd (false_true (sym h ∙ second_fits_law a b p e))

-- ── the composites of the letters
abbrev pub is_told : Joined → Option ℕ → Bool
is_told (Composite c) none = false
is_told (Composite c) (some p) = eqb p c && (leb 0x80 c && ltb c 0x0300)
is_told Apart none = true
is_told Apart (some p) = false
is_told Unknown o = true

unfoldable pub is_joined : ℕ → ℕ → Joined → Bool
is_joined x mark j = ltb x 0x80 && (is_mark mark && is_told j (composite unicode16 x mark))

two_left : (a b : Bool) → T (a && b) → T a
two_left true b t = tt
two_left false b t = t

two_right : (a b : Bool) → T (a && b) → T b
two_right true b t = t
two_right false b t = absurd t

module _ (k mark : ℕ) (low : k < 0x80) (mark_is : is_mark mark ≡ true) where
  known : (j : Joined) (o : Option ℕ) → composite unicode16 k mark ≡ o → T (is_told j o) → JoinedAs k mark j
  known (Composite c) none e h = absurd h
  known (Composite c) (some p) e h =
      let is : p ≡ c = eqb→eq p c (two_left (eqb p c) (leb 0x80 c && ltb c 0x0300) h) in
      let both : T (leb 0x80 c && ltb c 0x0300) = two_right (eqb p c) (leb 0x80 c && ltb c 0x0300) h in
      let from : 0x80 ≤ c = leb→le 0x80 c (two_left (leb 0x80 c) (ltb c 0x0300) both) in
      let to : c < 0x0300 = ltb→lt c 0x0300 (two_right (leb 0x80 c) (ltb c 0x0300) both) in
      record { letter = low; tone = mark_is; one = e ∙ ap some is; small = (from, to) }
  known Apart none e h = record { letter = low; tone = mark_is; apart = e }
  known Apart (some p) e h = absurd h
  known Unknown o e h = tt

true_of : (b : Bool) → T b → b ≡ true
true_of true t = refl
true_of false t = absurd t

-- at the letter k
pub joined_at : (k mark : ℕ) (j : Joined) → T (is_joined k mark j) → (x : ℕ) → x ≡ k → JoinedAs x mark j
unfolding is_joined
joined_at k mark j h x e =
    subst (λ (y : ℕ). JoinedAs y mark j) (sym e)
    (let rest = two_right (ltb k 0x80) (is_mark mark && is_told j (composite unicode16 k mark)) h in
    known k mark (ltb→lt k 0x80 (two_left (ltb k 0x80) _ h)) (true_of (is_mark mark) (two_left (is_mark mark) _ rest)) j (composite unicode16 k mark) refl
    (two_right (is_mark mark) _ rest))

-- no letter has a composite with 030D
pub joined_line : (x : ℕ) → x < 0x80 → JoinedAs x 0x030D Apart
unfolding listed
joined_line x low = record { letter = low; tone = refl; apart = no_composite x 0x030D refl }
