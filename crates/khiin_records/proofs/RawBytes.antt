-- The body of a candidate in bytes is the body that the rules make of its code points.
use mathlib.Core.Path.{◌≡◌, refl, sym, ap, ap₂, ◌∙◌, subst}
use mathlib.Core.Bool.{Bool, true, false, ◌&&◌, ◌||◌}
use mathlib.Core.List.{List, [], ◌∷◌, ◌++◌, append_assoc, append-nil}
use Prim.Native.Nat.{ℕ, ◌+◌, ◌-◌, ◌/◌, ◌%◌, ◌≤◌, ◌<◌}
use native.Mathlib.Omega.{arith}
use native.Mathlib.Decide.{dec_le}
use borrow.Author.Tests.{eq-eqb, ne_eqb, eqb-true, eqb-false}
use lib.Dec.{eqb}
use lib.ListN.{length, take, length-append}
use lib.Seq.{take_at}
use Rattle.ji.specs.Unicode.{listed}
use Rattle.ji.specs.Text.{point, points, begins, replace_all}
use Rattle.ji.specs.Utf8.{bytes_of, encode}
use Rattle.ji.specs.Lomaji.Keys.{respell}
use Rattle.ji.proofs.Bools.{either, false_true, and_yes, and_no, and_false, or_no}
use Rattle.ji.proofs.text.Laws.{begins_point, replace_nil, replace_hit, replace_miss}
use Rattle.ji.proofs.unicode.Bytes.{bytes_one, bytes_two, bytes_three, bytes_four, encode_nil, encode_cons, begins_bytes, listed_cons}
use Rattle.khiin_records.specs.Syllable.{below_rules, sign_rules}
use Rattle.khiin_records.specs.RawBytes.{takes_below, first_of, second_of, dot, nasal, below, Body, pick_body, body_from, body_of}
use Rattle.khiin_records.proofs.Spelling.{sign_vowel, sign_nasal, sign_other, signs_end}

-- ── the rules of U+0324, all at once
-- a pair is not found where its first code point is another, or its second does not follow
module _ (a b : ℕ) (r : List ℕ) where
  pair_other : (x : ℕ) (s : List ℕ) → (x ≡ a → ⊥) → replace_all (a ∷ b ∷ []) r (x ∷ s) ≡ x ∷ replace_all (a ∷ b ∷ []) r s
  unfolding begins
  pair_other x s h = replace_miss (a ∷ b ∷ []) r x s (and_no (eqb x a) (begins (b ∷ []) s) (ne_eqb x a h))

  pair_apart : (x : ℕ) (s : List ℕ) → begins (b ∷ []) s ≡ false → replace_all (a ∷ b ∷ []) r (x ∷ s) ≡ x ∷ replace_all (a ∷ b ∷ []) r s
  unfolding begins
  pair_apart x s h = replace_miss (a ∷ b ∷ []) r x s (ap (λ (t : Bool). eqb x a && t) h ∙ and_false (eqb x a))

  pair_here : (s : List ℕ) → replace_all (a ∷ b ∷ []) r (a ∷ b ∷ s) ≡ r ++ replace_all (a ∷ b ∷ []) r s
  unfolding begins
  pair_here s = replace_hit (a ∷ b ∷ []) r a (b ∷ s) (omega arith) (and_yes (eqb a a) _ (eq-eqb a a refl) ∙ and_yes (eqb b b) true (eq-eqb b b refl))

-- what a text begins with is no b afterwards, where it was none before
ahead : (a b x y : ℕ) (s : List ℕ) → (x ≡ b → ⊥) → begins (b ∷ []) s ≡ false → begins (b ∷ []) (replace_all (a ∷ b ∷ []) (x ∷ y ∷ []) s) ≡ false
ahead a b x y [] n h = rw (replace_nil (a ∷ b ∷ []) (x ∷ y ∷ [])) h
ahead a b x y (c ∷ s) n h =
    either (begins (a ∷ b ∷ []) (c ∷ s))
    (λ e. ap (begins (b ∷ [])) (replace_hit (a ∷ b ∷ []) (x ∷ y ∷ []) c s (omega arith) e) ∙ begins_point b x _ ∙ ne_eqb x b n)
    (λ e. ap (begins (b ∷ [])) (replace_miss (a ∷ b ∷ []) (x ∷ y ∷ []) c s e) ∙ begins_point b c _ ∙ sym (begins_point b c s) ∙ h)

abbrev lowered : List ℕ → List ℕ
lowered s = respell below_rules s

abbrev one : List ℕ → List ℕ
one s = replace_all (0x75 ∷ 0x0324 ∷ []) (points "eu") s

abbrev two : List ℕ → List ℕ
two s = replace_all (0x55 ∷ 0x0324 ∷ []) (points "Eu") s

abbrev three : List ℕ → List ℕ
three s = replace_all (0x6F ∷ 0x0324 ∷ []) (points "eo") s

abbrev four : List ℕ → List ℕ
four s = replace_all (0x4F ∷ 0x0324 ∷ []) (points "Eo") s

-- a code point that no rule changes
kept : (x : ℕ) (s : List ℕ) → one (x ∷ s) ≡ x ∷ one s → two (x ∷ one s) ≡ x ∷ two (one s) → three (x ∷ two (one s)) ≡ x ∷ three (two (one s))
    → four (x ∷ three (two (one s))) ≡ x ∷ four (three (two (one s))) → lowered (x ∷ s) ≡ x ∷ lowered s
kept x s a b c d = ap (λ (l : List ℕ). four (three (two l))) a ∙ ap (λ (l : List ℕ). four (three l)) b ∙ ap four c ∙ d

unlike : (x c : ℕ) → takes_below x ≡ true → takes_below c ≡ false → c ≡ x → ⊥
unlike x c t f e = false_true (sym f ∙ ap takes_below e ∙ t)

lowered_other : (c : ℕ) (s : List ℕ) → takes_below c ≡ false → lowered (c ∷ s) ≡ c ∷ lowered s
unfolding takes_below listed
lowered_other c s h =
    kept c s (pair_other 0x75 0x0324 (points "eu") c s (unlike 0x75 c refl h)) (pair_other 0x55 0x0324 (points "Eu") c (one s) (unlike 0x55 c refl h))
    (pair_other 0x6F 0x0324 (points "eo") c (two (one s)) (unlike 0x6F c refl h)) (pair_other 0x4F 0x0324 (points "Eo") c (three (two (one s))) (unlike 0x4F c refl h))

lowered_apart : (x : ℕ) (s : List ℕ) → begins (0x0324 ∷ []) s ≡ false → lowered (x ∷ s) ≡ x ∷ lowered s
lowered_apart x s h =
    let h1 = ahead 0x75 0x0324 0x65 0x75 s (λ e. omega (arith, e)) h in
    let h2 = ahead 0x55 0x0324 0x45 0x75 (one s) (λ e. omega (arith, e)) h1 in
    let h3 = ahead 0x6F 0x0324 0x65 0x6F (two (one s)) (λ e. omega (arith, e)) h2 in
    kept x s (pair_apart 0x75 0x0324 (points "eu") x s h) (pair_apart 0x55 0x0324 (points "Eu") x (one s) h1)
    (pair_apart 0x6F 0x0324 (points "eo") x (two (one s)) h2) (pair_apart 0x4F 0x0324 (points "Eo") x (three (two (one s))) h3)

-- two code points that a rule leaves
past : (a : ℕ) (r : List ℕ) (x y : ℕ) (s : List ℕ) → (x ≡ a → ⊥) → (y ≡ a → ⊥)
    → replace_all (a ∷ 0x0324 ∷ []) r (x ∷ y ∷ s) ≡ x ∷ y ∷ replace_all (a ∷ 0x0324 ∷ []) r s
past a r x y s n m = pair_other a 0x0324 r x (y ∷ s) n ∙ ap (λ (l : List ℕ). x ∷ l) (pair_other a 0x0324 r y s m)

with_u : (s : List ℕ) → lowered (0x75 ∷ 0x0324 ∷ s) ≡ 0x65 ∷ 0x75 ∷ lowered s
with_u s =
    ap (λ (l : List ℕ). four (three (two l))) (pair_here 0x75 0x0324 (points "eu") s)
    ∙ ap (λ (l : List ℕ). four (three l)) (past 0x55 (points "Eu") 0x65 0x75 (one s) (λ e. omega (arith, e)) (λ e. omega (arith, e)))
    ∙ ap four (past 0x6F (points "eo") 0x65 0x75 (two (one s)) (λ e. omega (arith, e)) (λ e. omega (arith, e)))
    ∙ past 0x4F (points "Eo") 0x65 0x75 (three (two (one s))) (λ e. omega (arith, e)) (λ e. omega (arith, e))

with_capital_u : (s : List ℕ) → lowered (0x55 ∷ 0x0324 ∷ s) ≡ 0x45 ∷ 0x75 ∷ lowered s
with_capital_u s =
    ap (λ (l : List ℕ). four (three (two l))) (past 0x75 (points "eu") 0x55 0x0324 s (λ e. omega (arith, e)) (λ e. omega (arith, e)))
    ∙ ap (λ (l : List ℕ). four (three l)) (pair_here 0x55 0x0324 (points "Eu") (one s))
    ∙ ap four (past 0x6F (points "eo") 0x45 0x75 (two (one s)) (λ e. omega (arith, e)) (λ e. omega (arith, e)))
    ∙ past 0x4F (points "Eo") 0x45 0x75 (three (two (one s))) (λ e. omega (arith, e)) (λ e. omega (arith, e))

with_o : (s : List ℕ) → lowered (0x6F ∷ 0x0324 ∷ s) ≡ 0x65 ∷ 0x6F ∷ lowered s
with_o s =
    ap (λ (l : List ℕ). four (three (two l))) (past 0x75 (points "eu") 0x6F 0x0324 s (λ e. omega (arith, e)) (λ e. omega (arith, e)))
    ∙ ap (λ (l : List ℕ). four (three l)) (past 0x55 (points "Eu") 0x6F 0x0324 (one s) (λ e. omega (arith, e)) (λ e. omega (arith, e)))
    ∙ ap four (pair_here 0x6F 0x0324 (points "eo") (two (one s)))
    ∙ past 0x4F (points "Eo") 0x65 0x6F (three (two (one s))) (λ e. omega (arith, e)) (λ e. omega (arith, e))

with_capital_o : (s : List ℕ) → lowered (0x4F ∷ 0x0324 ∷ s) ≡ 0x45 ∷ 0x6F ∷ lowered s
with_capital_o s =
    ap (λ (l : List ℕ). four (three (two l))) (past 0x75 (points "eu") 0x4F 0x0324 s (λ e. omega (arith, e)) (λ e. omega (arith, e)))
    ∙ ap (λ (l : List ℕ). four (three l)) (past 0x55 (points "Eu") 0x4F 0x0324 (one s) (λ e. omega (arith, e)) (λ e. omega (arith, e)))
    ∙ ap four (past 0x6F (points "eo") 0x4F 0x0324 (two (one s)) (λ e. omega (arith, e)) (λ e. omega (arith, e)))
    ∙ pair_here 0x4F 0x0324 (points "Eo") (three (two (one s)))

-- what holds of each of the letters
by_letter : (P : ℕ → Type 0) → P 0x75 → P 0x55 → P 0x6F → P 0x4F → (x : ℕ) → takes_below x ≡ true → P x
unfolding takes_below listed
by_letter P a b c d x h =
    either (eqb 0x75 x) (λ e. subst P (eqb-true 0x75 x e) a)
    (λ e. either (eqb 0x55 x) (λ f. subst P (eqb-true 0x55 x f) b)
    (λ f. either (eqb 0x6F x) (λ g. subst P (eqb-true 0x6F x g) c)
    (λ g. either (eqb 0x4F x) (λ k. subst P (eqb-true 0x4F x k) d)
    (λ k. absurd (false_true (sym (or_no _ _ e ∙ or_no _ _ f ∙ or_no _ _ g ∙ or_no _ _ k) ∙ h))))))

lowered_with : (s : List ℕ) (x : ℕ) → takes_below x ≡ true → lowered (x ∷ 0x0324 ∷ s) ≡ first_of x ∷ second_of x ∷ lowered s
unfolding listed
lowered_with s x h = by_letter (λ x. lowered (x ∷ 0x0324 ∷ s) ≡ first_of x ∷ second_of x ∷ lowered s) (with_u s) (with_capital_u s) (with_o s) (with_capital_o s) x h

letter_low : (x : ℕ) → takes_below x ≡ true → x ≤ 0x7F
letter_low x h = by_letter (λ x. x ≤ 0x7F) (omega arith) (omega arith) (omega arith) (omega arith) x h

first_low : (x : ℕ) → takes_below x ≡ true → first_of x ≤ 0x7F
unfolding listed
first_low x h = by_letter (λ x. first_of x ≤ 0x7F) (omega arith) (omega arith) (omega arith) (omega arith) x h

second_low_law : (x : ℕ) → takes_below x ≡ true → second_of x ≤ 0x7F
unfolding listed
second_low_law x h = by_letter (λ x. second_of x ≤ 0x7F) (omega arith) (omega arith) (omega arith) (omega arith) x h

-- ── the body, code point by code point
abbrev pub spelling : ℕ → List ℕ → List ℕ
spelling vowel u = encode (respell (sign_rules (vowel ∷ [])) (respell below_rules u))

module _ (vowel : ℕ) (low : vowel < 0x80) where
  wide : vowel < 0x100
  wide = omega (arith, low)

  abbrev signs : List ℕ → List ℕ
  signs s = respell (sign_rules (vowel ∷ [])) s

  spelling_nil : spelling vowel [] ≡ []
  spelling_nil =
      ap (λ (l : List ℕ). encode (signs (four (three (two l))))) (replace_nil (0x75 ∷ 0x0324 ∷ []) (points "eu"))
      ∙ ap (λ (l : List ℕ). encode (signs (four (three l)))) (replace_nil (0x55 ∷ 0x0324 ∷ []) (points "Eu"))
      ∙ ap (λ (l : List ℕ). encode (signs (four l))) (replace_nil (0x6F ∷ 0x0324 ∷ []) (points "eo"))
      ∙ ap (λ (l : List ℕ). encode (signs l)) (replace_nil (0x4F ∷ 0x0324 ∷ []) (points "Eo"))
      ∙ ap encode (signs_end vowel wide)
      ∙ encode_nil

  spelling_other : (c : ℕ) (u : List ℕ) → lowered (c ∷ u) ≡ c ∷ lowered u → (c ≡ 0x0358 → ⊥) → (c ≡ point "ⁿ" → ⊥) → spelling vowel (c ∷ u) ≡ bytes_of c ++ spelling vowel u
  spelling_other c u e n m = ap (λ (l : List ℕ). encode (signs l)) e ∙ ap encode (sign_other vowel wide c (lowered u) n m) ∙ encode_cons c (signs (lowered u))

  ascii_one : (c : ℕ) (s : List ℕ) → c ≤ 0x7F → encode (signs (c ∷ s)) ≡ c ∷ encode (signs s)
  ascii_one c s h =
      ap encode (sign_other vowel wide c s (λ e. omega (arith, e)) (λ e. omega (arith, e)))
      ∙ encode_cons c (signs s)
      ∙ ap (λ (l : List ℕ). l ++ encode (signs s)) (bytes_one c h)

  spelling_dot : (u : List ℕ) → spelling vowel (0x0358 ∷ u) ≡ vowel ∷ spelling vowel u
  unfolding takes_below listed
  spelling_dot u =
      ap (λ (l : List ℕ). encode (signs l)) (lowered_other 0x0358 u refl)
      ∙ ap encode (sign_vowel vowel wide 0x0358 (lowered u) refl)
      ∙ encode_cons vowel (signs (lowered u))
      ∙ ap (λ (l : List ℕ). l ++ spelling vowel u) (bytes_one vowel (omega arith))

  spelling_nasal : (u : List ℕ) → spelling vowel (point "ⁿ" ∷ u) ≡ points "nn" ++ spelling vowel u
  unfolding takes_below listed
  spelling_nasal u =
      ap (λ (l : List ℕ). encode (signs l)) (lowered_other (point "ⁿ") u refl)
      ∙ ap encode (sign_nasal vowel wide (point "ⁿ") (lowered u) (λ e. omega (arith, e)) refl)
      ∙ encode_cons 0x6E (0x6E ∷ signs (lowered u))
      ∙ ap₂ ◌++◌ (bytes_one 0x6E (omega arith)) (encode_cons 0x6E (signs (lowered u)) ∙ ap (λ (l : List ℕ). l ++ spelling vowel u) (bytes_one 0x6E (omega arith)))

  module _ (x : ℕ) (letter : takes_below x ≡ true) (u : List ℕ) where
    spelling_with : spelling vowel (x ∷ 0x0324 ∷ u) ≡ first_of x ∷ second_of x ∷ spelling vowel u
    spelling_with =
        ap (λ (l : List ℕ). encode (signs l)) (lowered_with u x letter)
        ∙ ascii_one (first_of x) (second_of x ∷ lowered u) (first_low x letter)
        ∙ ap (λ (l : List ℕ). first_of x ∷ l) (ascii_one (second_of x) (lowered u) (second_low_law x letter))

    spelling_apart : begins (0x0324 ∷ []) u ≡ false → spelling vowel (x ∷ u) ≡ x ∷ spelling vowel u
    spelling_apart h = ap (λ (l : List ℕ). encode (signs l)) (lowered_apart x u h) ∙ ascii_one x (lowered u) (letter_low x letter)

-- ── the walk over the bytes, byte by byte
module _ (vowel : ℕ) (d : List ℕ) (t : Bool) (l : ℕ) where
  abbrev letters : List ℕ
  letters = take (length d - 1) d ++ (first_of l ∷ second_of l ∷ [])

  module _ (b : ℕ) (s : List ℕ) where
    abbrev rest_copied : Body
    rest_copied = body_from vowel 0 (d ++ (b ∷ [])) t b s

    abbrev rest_below : Body
    rest_below = pick_body (begins below (b ∷ s) && takes_below l) (body_from vowel 1 letters t b s) rest_copied

    abbrev rest_nasal : Body
    rest_nasal = pick_body (begins nasal (b ∷ s)) (body_from vowel 2 (d ++ points "nn") t b s) rest_below

    pub from_dot : begins dot (b ∷ s) ≡ true → body_from vowel 0 d t l (b ∷ s) ≡ body_from vowel 1 (d ++ (vowel ∷ [])) true b s
    unfolding body_from
    from_dot e = ap (λ (x : Bool). pick_body x (body_from vowel 1 (d ++ (vowel ∷ [])) true b s) rest_nasal) e

    module _ (n : begins dot (b ∷ s) ≡ false) where
      pub from_nasal : begins nasal (b ∷ s) ≡ true → body_from vowel 0 d t l (b ∷ s) ≡ body_from vowel 2 (d ++ points "nn") t b s
      unfolding body_from
      from_nasal e =
          ap (λ (x : Bool). pick_body x (body_from vowel 1 (d ++ (vowel ∷ [])) true b s) rest_nasal) n
          ∙ ap (λ (x : Bool). pick_body x (body_from vowel 2 (d ++ points "nn") t b s) rest_below) e

      module _ (m : begins nasal (b ∷ s) ≡ false) where
        from_rest : body_from vowel 0 d t l (b ∷ s) ≡ rest_below
        unfolding body_from
        from_rest =
            ap (λ (x : Bool). pick_body x (body_from vowel 1 (d ++ (vowel ∷ [])) true b s) rest_nasal) n
            ∙ ap (λ (x : Bool). pick_body x (body_from vowel 2 (d ++ points "nn") t b s) rest_below) m

        pub from_below : (begins below (b ∷ s) && takes_below l) ≡ true → body_from vowel 0 d t l (b ∷ s) ≡ body_from vowel 1 letters t b s
        from_below e = from_rest ∙ ap (λ (x : Bool). pick_body x (body_from vowel 1 letters t b s) rest_copied) e

        pub from_copy : (begins below (b ∷ s) && takes_below l) ≡ false → body_from vowel 0 d t l (b ∷ s) ≡ rest_copied
        from_copy e = from_rest ∙ ap (λ (x : Bool). pick_body x (body_from vowel 1 letters t b s) rest_copied) e

-- the byte before matters only to U+0324
last_free : (vowel : ℕ) (d : List ℕ) (t : Bool) (l k : ℕ) (s : List ℕ) → begins below s ≡ false → body_from vowel 0 d t l s ≡ body_from vowel 0 d t k s
unfolding body_from
last_free vowel d t l k [] h = refl
last_free vowel d t l k (b ∷ s) h =
    ap (λ (x : Body). pick_body (begins dot (b ∷ s)) (body_from vowel 1 (d ++ (vowel ∷ [])) true b s) (pick_body (begins nasal (b ∷ s)) (body_from vowel 2 (d ++ points "nn") t b s) x)) (at l ∙ sym (at k))
  where
    at : (l : ℕ) → rest_below vowel d t l b s ≡ rest_copied vowel d t l b s
    at l = ap (λ (x : Bool). pick_body x (body_from vowel 1 (letters vowel d t l) t b s) (rest_copied vowel d t l b s)) (and_no (begins below (b ∷ s)) (takes_below l) h)

-- the bytes of a code point
dot_at : (u : List ℕ) → begins dot (encode u) ≡ begins (0x0358 ∷ []) u
unfolding encode bytes_of
dot_at u = begins_bytes (0x0358 ∷ []) u

nasal_at : (u : List ℕ) → begins nasal (encode u) ≡ begins (points "ⁿ") u
unfolding encode bytes_of
nasal_at u = begins_bytes (points "ⁿ") u

below_at : (u : List ℕ) → begins below (encode u) ≡ begins (0x0324 ∷ []) u
unfolding encode bytes_of
below_at u = begins_bytes (0x0324 ∷ []) u

-- a byte that goes on with a sequence
further : (vowel : ℕ) (d : List ℕ) (t : Bool) (l b : ℕ) (s : List ℕ) → 0x80 ≤ b → b < 0xC0 → body_from vowel 0 d t l (b ∷ s) ≡ body_from vowel 0 (d ++ (b ∷ [])) t b s
unfolding begins
further vowel d t l b s h k =
    from_copy vowel d t l b s (and_no _ _ (ne_eqb b 0xCD (λ e. omega (arith, e)))) (and_no _ _ (ne_eqb b 0xE2 (λ e. omega (arith, e))))
    (and_no _ _ (and_no _ _ (ne_eqb b 0xCC (λ e. omega (arith, e)))))

high_plain : (b : ℕ) → 0x80 ≤ b → takes_below b ≡ false
high_plain b h = either (takes_below b) (λ e. absurd (let k = letter_low b e in omega arith)) (λ e. e)

-- the first byte of a code point that no rule changes
front : (vowel : ℕ) (t : Bool) (u : List ℕ) (c : ℕ) (d : List ℕ) (l : ℕ) → (c ≡ 0x0358 → ⊥) → (c ≡ point "ⁿ" → ⊥) → takes_below l ≡ false
    → (b : ℕ) (s : List ℕ) → encode (c ∷ u) ≡ b ∷ s → body_from vowel 0 d t l (encode (c ∷ u)) ≡ body_from vowel 0 (d ++ (b ∷ [])) t b s
front vowel t u c d l n m f b s e =
    ap (body_from vowel 0 d t l) e
    ∙ from_copy vowel d t l b s
    (ap (begins dot) (sym e) ∙ dot_at (c ∷ u) ∙ begins_point 0x0358 c u ∙ ne_eqb c 0x0358 n)
    (ap (begins nasal) (sym e) ∙ nasal_at (c ∷ u) ∙ begins_point (point "ⁿ") c u ∙ ne_eqb c (point "ⁿ") m)
    (ap (λ (x : Bool). begins below (b ∷ s) && x) f ∙ and_false (begins below (b ∷ s)))

-- such a code point is copied, whatever its bytes
module _ (vowel : ℕ) (t : Bool) (u : List ℕ) (X : List ℕ → Body) (go : (d : List ℕ) (l : ℕ) → takes_below l ≡ false → body_from vowel 0 d t l (encode u) ≡ X d) where
  module _ (c : ℕ) (d : List ℕ) (l : ℕ) (n : (c ≡ 0x0358 → ⊥)) (m : (c ≡ point "ⁿ" → ⊥)) (f : takes_below l ≡ false) where
    first : (b : ℕ) (s : List ℕ) → encode (c ∷ u) ≡ b ∷ s → body_from vowel 0 d t l (encode (c ∷ u)) ≡ body_from vowel 0 (d ++ (b ∷ [])) t b s
    first b s e = front vowel t u c d l n m f b s e

    more : (a b : ℕ) (s : List ℕ) (p : List ℕ) → 0x80 ≤ b → b < 0xC0 → body_from vowel 0 p t a (b ∷ s) ≡ body_from vowel 0 (p ++ (b ∷ [])) t b s
    more a b s p h k = further vowel p t a b s h k

    copied_one : c ≤ 0x7F → takes_below c ≡ false → body_from vowel 0 d t l (encode (c ∷ u)) ≡ X (d ++ bytes_of c)
    copied_one h g =
        let e = bytes_one c h in
        first c (encode u) (encode_cons c u ∙ ap (λ (p : List ℕ). p ++ encode u) e) ∙ go (d ++ (c ∷ [])) c g ∙ ap (λ (p : List ℕ). X (d ++ p)) (sym e)

    copied_two : 0x7F < c → c ≤ 0x7FF → body_from vowel 0 d t l (encode (c ∷ u)) ≡ X (d ++ bytes_of c)
    copied_two h k =
        let e = bytes_two c h k in
        let a = 0xC0 + c / 64 in
        let b = 0x80 + c % 64 in
        first a (b ∷ encode u) (encode_cons c u ∙ ap (λ (p : List ℕ). p ++ encode u) e)
        ∙ more a b (encode u) (d ++ (a ∷ [])) (omega arith) (omega arith)
        ∙ go ((d ++ (a ∷ [])) ++ (b ∷ [])) b (high_plain b (omega arith))
        ∙ ap X (append_assoc d (a ∷ []) (b ∷ []))
        ∙ ap (λ (p : List ℕ). X (d ++ p)) (sym e)

    copied_three : 0x7FF < c → c ≤ 0xFFFF → body_from vowel 0 d t l (encode (c ∷ u)) ≡ X (d ++ bytes_of c)
    copied_three h k =
        let e = bytes_three c h k in
        let a = 0xE0 + c / 4096 in
        let b = 0x80 + c / 64 % 64 in
        let z = 0x80 + c % 64 in
        first a (b ∷ z ∷ encode u) (encode_cons c u ∙ ap (λ (p : List ℕ). p ++ encode u) e)
        ∙ more a b (z ∷ encode u) (d ++ (a ∷ [])) (omega arith) (omega arith)
        ∙ more b z (encode u) ((d ++ (a ∷ [])) ++ (b ∷ [])) (omega arith) (omega arith)
        ∙ go (((d ++ (a ∷ [])) ++ (b ∷ [])) ++ (z ∷ [])) z (high_plain z (omega arith))
        ∙ ap X (append_assoc (d ++ (a ∷ [])) (b ∷ []) (z ∷ []) ∙ append_assoc d (a ∷ []) (b ∷ z ∷ []))
        ∙ ap (λ (p : List ℕ). X (d ++ p)) (sym e)

    copied_four : 0xFFFF < c → body_from vowel 0 d t l (encode (c ∷ u)) ≡ X (d ++ bytes_of c)
    copied_four h =
        let e = bytes_four c h in
        let a = 0xF0 + c / 262144 in
        let b = 0x80 + c / 4096 % 64 in
        let y = 0x80 + c / 64 % 64 in
        let z = 0x80 + c % 64 in
        first a (b ∷ y ∷ z ∷ encode u) (encode_cons c u ∙ ap (λ (p : List ℕ). p ++ encode u) e)
        ∙ more a b (y ∷ z ∷ encode u) (d ++ (a ∷ [])) (omega arith) (omega arith)
        ∙ more b y (z ∷ encode u) ((d ++ (a ∷ [])) ++ (b ∷ [])) (omega arith) (omega arith)
        ∙ more y z (encode u) (((d ++ (a ∷ [])) ++ (b ∷ [])) ++ (y ∷ [])) (omega arith) (omega arith)
        ∙ go ((((d ++ (a ∷ [])) ++ (b ∷ [])) ++ (y ∷ [])) ++ (z ∷ [])) z (high_plain z (omega arith))
        ∙ ap X (append_assoc ((d ++ (a ∷ [])) ++ (b ∷ [])) (y ∷ []) (z ∷ []) ∙ append_assoc (d ++ (a ∷ [])) (b ∷ []) (y ∷ z ∷ []) ∙ append_assoc d (a ∷ []) (b ∷ y ∷ z ∷ []))
        ∙ ap (λ (p : List ℕ). X (d ++ p)) (sym e)

    copied : takes_below c ≡ false → body_from vowel 0 d t l (encode (c ∷ u)) ≡ X (d ++ bytes_of c)
    copied g = by_size (dec_le c 0x7F) (dec_le c 0x7FF) (dec_le c 0xFFFF)
      where
        by_size : Dec (c ≤ 0x7F) → Dec (c ≤ 0x7FF) → Dec (c ≤ 0xFFFF) → body_from vowel 0 d t l (encode (c ∷ u)) ≡ X (d ++ bytes_of c)
        by_size (yes p) q r = copied_one p g
        by_size (no p) (yes q) r = copied_two (omega arith) q
        by_size (no p) (no q) (yes r) = copied_three (omega arith) r
        by_size (no p) (no q) (no r) = copied_four (omega arith)

-- ── the walk over the bytes of a text makes its body
module _ (vowel : ℕ) (low : vowel < 0x80) where
  abbrev body_with : List ℕ → Bool → List ℕ → Bool → Body
  body_with d t text dotted = record { text = d ++ text; dotted = t || dotted }

  -- behind a byte that is no letter, and behind a letter that U+0324 may follow
  abbrev Plainly : List ℕ → Type 0
  Plainly u = (d : List ℕ) (t : Bool) (l : ℕ) → takes_below l ≡ false → body_from vowel 0 d t l (encode u) ≡ body_with d t (spelling vowel u) (listed u 0x0358)

  abbrev Behind : List ℕ → Type 0
  Behind u = (d : List ℕ) (t : Bool) (x : ℕ) → takes_below x ≡ true → body_from vowel 0 (d ++ (x ∷ [])) t x (encode u) ≡ body_with d t (spelling vowel (x ∷ u)) (listed u 0x0358)

  same_with : (d p : List ℕ) (t : Bool) (a b : List ℕ) (x y : Bool) → p ++ a ≡ b → x ≡ y → body_with (d ++ p) t a x ≡ body_with d t b y
  same_with d p t a b x y e f = ap₂ (λ (text : List ℕ) (dotted : Bool). record { text = text; dotted = t || dotted }) (append_assoc d p a ∙ ap (λ (l : List ℕ). d ++ l) e) f

  -- a text that begins with no U+0324
  behind_apart : (u : List ℕ) → Plainly u → begins (0x0324 ∷ []) u ≡ false → Behind u
  unfolding takes_below listed
  behind_apart u plain h d t x e =
      last_free vowel (d ++ (x ∷ [])) t x 0 (encode u) (below_at u ∙ h)
      ∙ plain (d ++ (x ∷ [])) t 0 refl
      ∙ same_with d (x ∷ []) t (spelling vowel u) (spelling vowel (x ∷ u)) (listed u 0x0358) (listed u 0x0358) (sym (spelling_apart vowel low x e u h)) refl

  -- U+0324 takes back the letter
  behind_with : (u : List ℕ) → Plainly u → Behind (0x0324 ∷ u)
  unfolding encode bytes_of begins body_from takes_below listed
  behind_with u plain d t x e =
      let back : take (length (d ++ (x ∷ [])) - 1) (d ++ (x ∷ [])) ≡ d = take_at d (x ∷ []) (length (d ++ (x ∷ [])) - 1) (omega (arith, length-append d (x ∷ []))) in
      from_below vowel (d ++ (x ∷ [])) t x 0xCC (0xA4 ∷ encode u) refl refl e
      ∙ ap (λ (l : List ℕ). body_from vowel 0 (l ++ (first_of x ∷ second_of x ∷ [])) t 0xA4 (encode u)) back
      ∙ plain (d ++ (first_of x ∷ second_of x ∷ [])) t 0xA4 refl
      ∙ same_with d (first_of x ∷ second_of x ∷ []) t (spelling vowel u) (spelling vowel (x ∷ 0x0324 ∷ u)) (listed u 0x0358) (listed u 0x0358) (sym (spelling_with vowel low x e u)) refl

  module _ (u : List ℕ) (plain : Plainly u) (behind : Behind u) where
    plain_dot : Plainly (0x0358 ∷ u)
    unfolding encode bytes_of begins body_from takes_below listed
    plain_dot d t l f =
        from_dot vowel d t l 0xCD (0x98 ∷ encode u) refl
        ∙ plain (d ++ (vowel ∷ [])) true 0x98 refl
        ∙ ap₂ (λ (text : List ℕ) (dotted : Bool). record { text = text; dotted = dotted })
        (append_assoc d (vowel ∷ []) (spelling vowel u) ∙ ap (λ (l : List ℕ). d ++ l) (sym (spelling_dot vowel low u)))
        (sym (met t))
      where
        met : (t : Bool) → (t || true) ≡ true
        met true = refl
        met false = refl

    plain_nasal : Plainly (point "ⁿ" ∷ u)
    unfolding encode bytes_of begins body_from takes_below listed
    plain_nasal d t l f =
        from_nasal vowel d t l 0xE2 (0x81 ∷ 0xBF ∷ encode u) refl refl
        ∙ plain (d ++ points "nn") t 0xBF refl
        ∙ same_with d (points "nn") t (spelling vowel u) (spelling vowel (point "ⁿ" ∷ u)) (listed u 0x0358) (listed (point "ⁿ" ∷ u) 0x0358) (sym (spelling_nasal vowel low u)) refl

    module _ (c : ℕ) (n : (c ≡ 0x0358 → ⊥)) where
      unlisted : listed u 0x0358 ≡ listed (c ∷ u) 0x0358
      unlisted = sym (listed_cons c u 0x0358 ∙ or_no _ _ (ne_eqb c 0x0358 n))

      plain_other : (c ≡ point "ⁿ" → ⊥) → takes_below c ≡ false → Plainly (c ∷ u)
      plain_other m g d t l f =
          copied vowel t u (λ p. body_with p t (spelling vowel u) (listed u 0x0358)) (λ p k h. plain p t k h) c d l n m f g
          ∙ same_with d (bytes_of c) t (spelling vowel u) (spelling vowel (c ∷ u)) (listed u 0x0358) (listed (c ∷ u) 0x0358)
          (sym (spelling_other vowel low c u (lowered_other c u g) n m)) unlisted

      plain_letter : takes_below c ≡ true → Plainly (c ∷ u)
      plain_letter g d t l f =
          let h = letter_low c g in
          front vowel t u c d l n (λ e. omega (arith, e)) f c (encode u) (encode_cons c u ∙ ap (λ (p : List ℕ). p ++ encode u) (bytes_one c h))
          ∙ behind d t c g
          ∙ ap (body_with d t (spelling vowel (c ∷ u))) unlisted

    plainly : (c : ℕ) → Plainly (c ∷ u)
    plainly c =
        either (eqb c 0x0358) (λ e. subst (λ (c : ℕ). Plainly (c ∷ u)) (sym (eqb-true c 0x0358 e)) plain_dot)
        (λ n. either (eqb c (point "ⁿ")) (λ e. subst (λ (c : ℕ). Plainly (c ∷ u)) (sym (eqb-true c (point "ⁿ") e)) plain_nasal)
        (λ m. either (takes_below c) (plain_letter c (eqb-false c 0x0358 n)) (plain_other c (eqb-false c 0x0358 n) (eqb-false c (point "ⁿ") m))))

  plain_end : Plainly []
  unfolding body_from encode listed
  plain_end d t l f =
      ap₂ (λ (text : List ℕ) (dotted : Bool). record { text = text; dotted = dotted })
      (sym (ap (λ (p : List ℕ). d ++ p) (spelling_nil vowel low) ∙ append-nil d)) (sym (unmet t))
    where
      unmet : (t : Bool) → (t || false) ≡ t
      unmet true = refl
      unmet false = refl

  nothing_below : begins (0x0324 ∷ []) [] ≡ false
  unfolding begins
  nothing_below = refl

  both : (u : List ℕ) → Plainly u × Behind u
  both [] = (plain_end, behind_apart [] plain_end nothing_below)
  both (c ∷ u) =
      let h = both u in
      let plain = plainly u h.0 h.1 c in (
        plain,
        either (eqb c 0x0324)
            (λ e. subst (λ (c : ℕ). Behind (c ∷ u)) (sym (eqb-true c 0x0324 e)) (behind_with u h.0))
            (λ e. behind_apart (c ∷ u) plain (begins_point 0x0324 c u ∙ e)),
      )

  pub body_is : (u : List ℕ) → body_of vowel (encode u) ≡ record { text = spelling vowel u; dotted = listed u 0x0358 }
  unfolding body_of takes_below listed
  body_is u = (both u).0 [] false 0 refl
