-- Bodies that the rules touch in one place only: one pair of vowels, nn at the end, a sign at the end.
use mathlib.Core.Path.{◌≡◌, refl, sym, ap, ap₂, ◌∙◌, subst}
use mathlib.Core.Bool.{Bool, true, false, ◌&&◌}
use mathlib.Core.List.{List, [], ◌∷◌, ◌++◌}
use mathlib.Core.Logic.{◌⊎◌, inl, inr}
use Prim.Native.Nat.{ℕ, zero, suc, ◌+◌, ◌-◌, ◌≤◌, ◌<◌}
use native.Mathlib.Decide.{ℕ_discrete, dec_le}
use native.Mathlib.Omega.{arith}
use borrow.Author.Tests.{eq-eqb, ne_eqb, eqb-true}
use lib.Dec.{eqb}
use lib.ListN.{length, take, drop, get_or, set, length-set, length-append, drop_of_length-le, take-append-drop, get_or-eq_default, get_or-append}
use lib.Seq.{set-get_or, get_or-set_same, get_or-set_other, get_or-take, get_or-drop, drop-drop, length-take-le, take-suc-set}
use Rattle.ji.specs.Unicode.{listed, pick_text}
use Rattle.ji.specs.Text.{points, marked, point, within, lower, begins, replace_all, last}
use Rattle.ji.specs.Lomaji.Keys.{respell}
use Rattle.ji.proofs.Bools.{either, false_true, and_yes, and_no, and_false, and_left, and_right, or_no, number_yes, number_no, text_yes, text_no}
use Rattle.ji.proofs.text.Laws.{drop_next, begins_length, replace_hit, replace_miss, replace_none}
use Rattle.ji.proofs.unicode.Bytes.{last_skip}
use Rattle.std.specs.Prelude.{None, Some}
use Rattle.khiin.specs.Syllable.{vowel_rules, nasal_rules, o_rules, ends_nasal, moved}
use Rattle.khiin.specs.Compose.{Front, is_pair, is_nasal_pair, takes_dot, NoPairIn, NoNasalBefore, NoSignBefore, DotAt}
use Rattle.khiin.proofs.syllable.compose.Laws.{pair_at_law, nasal_short, nasal_read, dotted, o_dotted, dot_at}

-- ── a pattern that occurs once
module _ (p r : List ℕ) (some : 0 < length p) where
  begins_nothing : begins p [] ≡ true → ⊥
  begins_nothing e = omega (arith, begins_length p [] e)

  pub replace_once : (s : List ℕ) (i : ℕ) → begins p (drop i s) ≡ true → ((k : ℕ) → k < i → begins p (drop k s) ≡ false)
      → ((k : ℕ) → i + length p ≤ k → begins p (drop k s) ≡ false) → replace_all p r s ≡ take i s ++ (r ++ drop (i + length p) s)
  replace_once [] zero e before after = absurd (begins_nothing e)
  replace_once (x ∷ s) zero e before after =
      let z : 0 + length p ≡ length p = omega arith in
      let rest : replace_all p r (drop (length p) (x ∷ s)) ≡ drop (length p) (x ∷ s) = replace_none p r (drop (length p) (x ∷ s)) (λ k h. ap (begins p) (drop-drop k (length p) (x ∷ s)) ∙ after (length p + k) (omega arith)) in
      replace_hit p r x s some e ∙ ap (λ (t : List ℕ). r ++ t) (rest ∙ ap (λ (n : ℕ). drop n (x ∷ s)) (sym z))
  replace_once [] (suc i) e before after = absurd (begins_nothing e)
  replace_once (x ∷ s) (suc i) e before after =
      let z : suc i + length p ≡ suc (i + length p) = omega arith in
      replace_miss p r x s (before 0 (omega arith))
      ∙ ap (λ (t : List ℕ). x ∷ t)
      (replace_once s i e (λ k h. before (suc k) (omega arith)) (λ k h. after (suc k) (omega arith)))
      ∙ ap (λ (n : ℕ). x ∷ (take i s ++ (r ++ drop n (x ∷ s)))) (sym z)

-- two stores
stored_two : (s : List ℕ) (i c d : ℕ) → i + 1 < length s → take i s ++ (c ∷ d ∷ drop (i + 2) s) ≡ set (set s i c) (i + 1) d
stored_two [] i c d h = absurd (omega arith)
stored_two (x ∷ []) i c d h = absurd (omega arith)
stored_two (x ∷ (y ∷ s)) zero c d h = refl
stored_two (x ∷ (y ∷ s)) (suc i) c d h =
    let a : suc i + 2 ≡ suc (i + 2) = omega arith in
    let b : suc i + 1 ≡ suc (i + 1) = omega arith in
    ap (λ (n : ℕ). x ∷ (take i (y ∷ s) ++ (c ∷ d ∷ drop n (x ∷ y ∷ s)))) a
    ∙ ap (λ (t : List ℕ). x ∷ t) (stored_two (y ∷ s) i c d (omega arith))
    ∙ sym (ap (λ (n : ℕ). set (x ∷ set (y ∷ s) i c) n d) b)

-- ── one pair of vowels
abbrev First : ℕ → Bool
First x = listed (points "oOeE") x

abbrev Second : ℕ → Bool
Second x = listed (points "oOuU") x

-- a rule for two letters, one of the first and one of the second, whose replacement has a mark behind it
pub record VowelRule (r : List ℕ × List ℕ) : Type 0 where
  pub a : ℕ
  pub b : ℕ
  pub c : ℕ
  pub mark : ℕ
  pub pattern : r.0 ≡ a ∷ b ∷ []
  pub result : r.1 ≡ c ∷ mark ∷ []
  pub first : First a ≡ true
  pub second : Second b ≡ true
  pub not_first : First mark ≡ false
  pub not_second : Second mark ≡ false

abbrev Rules : List (List ℕ × List ℕ) → Type 0
Rules [] = Unit {0}
Rules (r ∷ rs) = VowelRule r × Rules rs

-- where a rule's pattern stands, a pair does
begins_pair : (a b : ℕ) → First a ≡ true → Second b ≡ true → (s : List ℕ) → begins (a ∷ b ∷ []) s ≡ true → is_pair s ≡ true
unfolding begins is_pair
begins_pair a b f g [] e = absurd (false_true e)
begins_pair a b f g (x ∷ []) e = absurd (false_true (sym (and_false (eqb x a)) ∙ e))
begins_pair a b f g (x ∷ (y ∷ s)) e =
    let x_is = eqb-true x a (and_left (eqb x a) (eqb y b && true) e) in
    let y_is = eqb-true y b (and_left (eqb y b) true (and_right (eqb x a) (eqb y b && true) e)) in
    and_yes _ _ (ap First x_is ∙ f) ∙ ap Second y_is ∙ g

no_pair_begins : (r : List ℕ × List ℕ) → VowelRule r → (s : List ℕ) → is_pair s ≡ false → begins r.0 s ≡ false
no_pair_begins r v s e =
    either (begins r.0 s)
    (λ y. absurd (false_true (sym e ∙ begins_pair v.a v.b v.first v.second s (ap (λ (p : List ℕ). begins p s) (sym v.pattern) ∙ y))))
    (λ n. n)

-- a text without any pair stays
quiet : (rules : List (List ℕ × List ℕ)) → Rules rules → (s : List ℕ) → ((k : ℕ) → is_pair (drop k s) ≡ false) → respell rules s ≡ s
quiet [] h s n = refl
quiet (r ∷ rs) (v, h) s n = ap (respell rs) (replace_none r.0 r.1 s (λ i l. no_pair_begins r v (drop i s) (n i))) ∙ quiet rs h s n

-- what the first rule that fits makes of two letters
abbrev replacement : List (List ℕ × List ℕ) → ℕ → ℕ → List ℕ
replacement [] f g = f ∷ g ∷ []
replacement (r ∷ rs) f g = pick_text (begins r.0 (f ∷ g ∷ [])) r.1 (replacement rs f g)

module _ (s : List ℕ) (i : ℕ) (h : i + 1 < length s) (before : NoPairIn 0 i s) (after : NoPairIn (i + 1) (length s) s)
    (alone : 0 < i → First (get_or s (i - 1) 0) ≡ false) where
  abbrev f : ℕ
  f = get_or s i 0

  abbrev g : ℕ
  g = get_or s (i + 1) 0

  abbrev put : List ℕ → List ℕ
  put two = take i s ++ (two ++ drop (i + 2) s)

  no_other : (k : ℕ) → (k ≡ i → ⊥) → is_pair (drop k s) ≡ false
  unfolding is_pair
  no_other k n = by_place (dec_le i k) (dec_le (length s) k)
    where
      by_place : Dec (i ≤ k) → Dec (length s ≤ k) → is_pair (drop k s) ≡ false
      by_place (no l) q = before k (omega arith) (omega arith)
      by_place (yes l) (no m) = after k (omega arith) (omega arith)
      by_place (yes l) (yes m) = ap is_pair (drop_of_length-le s m)

  here : drop i s ≡ f ∷ g ∷ drop (i + 2) s
  here =
      let z : i + 1 + 1 ≡ i + 2 = omega arith in
      drop_next s i (omega arith) ∙ ap (λ (t : List ℕ). f ∷ t) (drop_next s (i + 1) h ∙ ap (λ (n : ℕ). g ∷ drop n s) z)

  two_letters : (r : List ℕ × List ℕ) → VowelRule r → begins r.0 (drop i s) ≡ begins r.0 (f ∷ g ∷ [])
  unfolding begins
  two_letters r v = ap₂ begins v.pattern here ∙ ap (λ (p : List ℕ). begins p (f ∷ g ∷ [])) (sym v.pattern)

  -- the text with a mark at i + 1
  module _ (c m : ℕ) (nf : First m ≡ false) (ng : Second m ≡ false) where
    abbrev changed : List ℕ
    changed = set (set s i c) (i + 1) m

    first_there : i + 1 < length (set s i c)
    first_there = rw (length-set s i c) h

    mark_there : get_or changed (i + 1) 0 ≡ m
    mark_there = get_or-set_same (set s i c) (i + 1) m 0 first_there

    other_there : (k : ℕ) → (k ≡ i → ⊥) → (k ≡ i + 1 → ⊥) → get_or changed k 0 ≡ get_or s k 0
    other_there k n l = get_or-set_other (set s i c) (i + 1) k m 0 l ∙ get_or-set_other s i k c 0 n

    none_left : (k : ℕ) → is_pair (drop k changed) ≡ false
    none_left k = pair_at_law changed k ∙ by_place (ℕ_discrete (k + 1) i) (ℕ_discrete k i) (ℕ_discrete k (i + 1))
      where
        by_place : Dec (k + 1 ≡ i) → Dec (k ≡ i) → Dec (k ≡ i + 1) → (First (get_or changed k 0) && Second (get_or changed (k + 1) 0)) ≡ false
        by_place (yes e) q r =
            let z : i - 1 ≡ k = omega arith in
            and_no _ _ (ap First (other_there k (λ w. omega arith) (λ w. omega arith)) ∙ ap (λ (n : ℕ). First (get_or s n 0)) (sym z) ∙ alone (omega arith))
        by_place (no e) (yes q) r =
            ap (λ (n : ℕ). First (get_or changed k 0) && Second (get_or changed (n + 1) 0)) q
            ∙ ap (λ (x : ℕ). First (get_or changed k 0) && Second x) mark_there
            ∙ ap (λ (b : Bool). First (get_or changed k 0) && b) ng
            ∙ and_false (First (get_or changed k 0))
        by_place (no e) (no q) (yes r) = and_no _ _ (ap (λ (n : ℕ). First (get_or changed n 0)) r ∙ ap First mark_there ∙ nf)
        by_place (no e) (no q) (no r) =
            ap₂ (λ (x y : ℕ). First x && Second y) (other_there k q r) (other_there (k + 1) e (λ w. omega arith)) ∙ sym (pair_at_law s k) ∙ no_other k q

  one_rule : (r : List ℕ × List ℕ) (v : VowelRule r) → begins r.0 (drop i s) ≡ true → replace_all r.0 r.1 s ≡ put r.1
  one_rule r v e =
      let size : length r.0 ≡ 2 = ap length v.pattern in
      let somewhat : 0 < length r.0 = omega arith in
      let z : i + length r.0 ≡ i + 2 = omega arith in
      replace_once r.0 r.1 somewhat s i e
      (λ k l. no_pair_begins r v (drop k s) (no_other k (λ w. omega arith)))
      (λ k l. no_pair_begins r v (drop k s) (no_other k (λ w. omega arith)))
      ∙ ap (λ (n : ℕ). take i s ++ (r.1 ++ drop n s)) z

  put_changed : (r : List ℕ × List ℕ) (v : VowelRule r) → put r.1 ≡ set (set s i v.c) (i + 1) v.mark
  put_changed r v = ap put v.result ∙ stored_two s i v.c v.mark h

  put_itself : put (f ∷ g ∷ []) ≡ s
  put_itself =
      stored_two s i f g h ∙ ap (λ (t : List ℕ). set t (i + 1) g) (set-get_or s i 0) ∙ set-get_or s (i + 1) 0

  pub respell_once : (rules : List (List ℕ × List ℕ)) → Rules rules → respell rules s ≡ put (replacement rules f g)
  respell_once [] u = sym put_itself
  respell_once (r ∷ rs) (v, u) =
      either (begins r.0 (f ∷ g ∷ []))
      (λ e.
      let same = one_rule r v (two_letters r v ∙ e) ∙ put_changed r v in
      ap (respell rs) same
      ∙ quiet rs u (set (set s i v.c) (i + 1) v.mark) (none_left v.c v.mark v.not_first v.not_second)
      ∙ sym (put_changed r v)
      ∙ sym (ap put (text_yes _ r.1 (replacement rs f g) e)))
      (λ e.
      let missed : (k : ℕ) → begins r.0 (drop k s) ≡ false = λ k. by_place k (ℕ_discrete k i) e in
      ap (respell rs) (replace_none r.0 r.1 s (λ k l. missed k))
      ∙ respell_once rs u
      ∙ sym (ap put (text_no _ r.1 (replacement rs f g) e)))
    where
      by_place : (k : ℕ) → Dec (k ≡ i) → begins r.0 (f ∷ g ∷ []) ≡ false → begins r.0 (drop k s) ≡ false
      by_place k (yes q) e = ap (λ (n : ℕ). begins r.0 (drop n s)) q ∙ two_letters r v ∙ e
      by_place k (no q) e = no_pair_begins r v (drop k s) (no_other k q)

-- the sixteen vowel rules are such rules
rule : (a b c m : ℕ) → First a ≡ true → Second b ≡ true → First m ≡ false → Second m ≡ false → VowelRule (a ∷ b ∷ [], c ∷ m ∷ [])
rule a b c m e f g h =
    record { a = a; b = b; c = c; mark = m; pattern = refl; result = refl; first = e; second = f; not_first = g; not_second = h }

vowel_rules_law : Rules vowel_rules
unfolding listed
vowel_rules_law = (
  rule 0x6F 0x75 0x6F 0x0358 refl refl refl refl,
  (
    rule 0x6F 0x55 0x6F 0x0358 refl refl refl refl,
    (
      rule 0x4F 0x75 0x4F 0x0358 refl refl refl refl,
      (
        rule 0x4F 0x55 0x4F 0x0358 refl refl refl refl,
        (
          rule 0x6F 0x6F 0x6F 0x0358 refl refl refl refl,
          (
            rule 0x6F 0x4F 0x6F 0x0358 refl refl refl refl,
            (
              rule 0x4F 0x6F 0x4F 0x0358 refl refl refl refl,
              (
                rule 0x4F 0x4F 0x4F 0x0358 refl refl refl refl,
                (
                  rule 0x65 0x6F 0x6F 0x0324 refl refl refl refl,
                  (
                    rule 0x45 0x6F 0x6F 0x0324 refl refl refl refl,
                    (
                      rule 0x65 0x4F 0x4F 0x0324 refl refl refl refl,
                      (
                        rule 0x45 0x4F 0x4F 0x0324 refl refl refl refl,
                        (rule 0x65 0x75 0x75 0x0324 refl refl refl refl, (rule 0x45 0x75 0x75 0x0324 refl refl refl refl, (rule 0x65 0x55 0x55 0x0324 refl refl refl refl, (rule 0x45 0x55 0x55 0x0324 refl refl refl refl, tt)))),
                      ),
                    ),
                  ),
                ),
              ),
            ),
          ),
        ),
      ),
    ),
  ),
)

-- one of four letters
one_of : (a b c d x : ℕ) → listed (a ∷ b ∷ c ∷ d ∷ []) x ≡ true → (x ≡ a) ⊎ ((x ≡ b) ⊎ ((x ≡ c) ⊎ (x ≡ d)))
unfolding listed
one_of a b c d x e =
    either (eqb a x) (λ y. inl (sym (eqb-true a x y)))
    (λ n. either (eqb b x) (λ y. inr (inl (sym (eqb-true b x y))))
    (λ m. either (eqb c x) (λ y. inr (inr (inl (sym (eqb-true c x y)))))
    (λ l. either (eqb d x) (λ y. inr (inr (inr (sym (eqb-true d x y)))))
    (λ k. absurd (false_true (sym (or_no _ _ n ∙ or_no _ _ m ∙ or_no _ _ l ∙ or_no _ _ k) ∙ e))))))

abbrev Pairs : (ℕ → ℕ → List ℕ) → ℕ → ℕ → Type 0
Pairs result x y = replacement vowel_rules x y ≡ result x y

-- what holds behind each second letter holds behind any
by_second : (result : ℕ → ℕ → List ℕ) (x y : ℕ) → Second y ≡ true → Pairs result x 0x6F → Pairs result x 0x4F → Pairs result x 0x75 → Pairs result x 0x55 → Pairs result x y
by_second result x y e o O u U = go (one_of 0x6F 0x4F 0x75 0x55 y e)
  where
    go : (y ≡ 0x6F) ⊎ ((y ≡ 0x4F) ⊎ ((y ≡ 0x75) ⊎ (y ≡ 0x55))) → Pairs result x y
    go (inl z) = subst (Pairs result x) (sym z) o
    go (inr (inl z)) = subst (Pairs result x) (sym z) O
    go (inr (inr (inl z))) = subst (Pairs result x) (sym z) u
    go (inr (inr (inr z))) = subst (Pairs result x) (sym z) U

abbrev dotted_o : ℕ → ℕ → List ℕ
dotted_o x y = x ∷ 0x0358 ∷ []

abbrev below_e : ℕ → ℕ → List ℕ
below_e x y = y ∷ 0x0324 ∷ []

o_pairs_law : (x y : ℕ) → (x ≡ 0x4F) ⊎ (x ≡ 0x6F) → Second y ≡ true → Pairs dotted_o x y
unfolding begins
o_pairs_law x y (inl z) e = subst (λ (w : ℕ). Pairs dotted_o w y) (sym z) (by_second dotted_o 0x4F y e refl refl refl refl)
o_pairs_law x y (inr z) e = subst (λ (w : ℕ). Pairs dotted_o w y) (sym z) (by_second dotted_o 0x6F y e refl refl refl refl)

e_pairs_law : (x y : ℕ) → First x ≡ true → ((x ≡ 0x4F) ⊎ (x ≡ 0x6F) → ⊥) → Second y ≡ true → Pairs below_e x y
unfolding begins
e_pairs_law x y f n e = go (one_of 0x6F 0x4F 0x65 0x45 x f)
  where
    go : (x ≡ 0x6F) ⊎ ((x ≡ 0x4F) ⊎ ((x ≡ 0x65) ⊎ (x ≡ 0x45))) → Pairs below_e x y
    go (inl z) = absurd (n (inr z))
    go (inr (inl z)) = absurd (n (inl z))
    go (inr (inr (inl z))) = subst (λ (w : ℕ). Pairs below_e w y) (sym z) (by_second below_e 0x65 y e refl refl refl refl)
    go (inr (inr (inr z))) = subst (λ (w : ℕ). Pairs below_e w y) (sym z) (by_second below_e 0x45 y e refl refl refl refl)

-- what the code stores
module _ (s : List ℕ) (i : ℕ) (pair : is_pair (drop i s) ≡ true) (before : NoPairIn 0 i s) (after : NoPairIn (i + 1) (length s) s)
    (alone : 0 < i → First (get_or s (i - 1) 0) ≡ false) where
  both : (First (get_or s i 0) && Second (get_or s (i + 1) 0)) ≡ true
  both = sym (pair_at_law s i) ∙ pair

  -- the second letter stands in the text
  pub pair_fits : i + 1 < length s
  unfolding listed
  pair_fits = by_end (dec_le (length s) (i + 1))
    where
      by_end : Dec (length s ≤ i + 1) → i + 1 < length s
      by_end (yes h) =
          absurd (false_true (sym (ap Second (get_or-eq_default s 0 h)) ∙ and_right (First (get_or s i 0)) (Second (get_or s (i + 1) 0)) both))
      by_end (no h) = omega arith

  pub vowels_o : (get_or s i 0 ≡ 0x4F) ⊎ (get_or s i 0 ≡ 0x6F) → respell vowel_rules s ≡ set s (i + 1) 0x0358
  vowels_o e =
      respell_once s i pair_fits before after alone vowel_rules vowel_rules_law
      ∙ ap (λ (t : List ℕ). take i s ++ (t ++ drop (i + 2) s)) (o_pairs_law (get_or s i 0) (get_or s (i + 1) 0) e (and_right (First (get_or s i 0)) (Second (get_or s (i + 1) 0)) both))
      ∙ stored_two s i (get_or s i 0) 0x0358 pair_fits
      ∙ ap (λ (t : List ℕ). set t (i + 1) 0x0358) (set-get_or s i 0)

  pub vowels_e : ((get_or s i 0 ≡ 0x4F) ⊎ (get_or s i 0 ≡ 0x6F) → ⊥) → respell vowel_rules s ≡ set (set s i (get_or s (i + 1) 0)) (i + 1) 0x0324
  vowels_e n =
      respell_once s i pair_fits before after alone vowel_rules vowel_rules_law
      ∙ ap (λ (t : List ℕ). take i s ++ (t ++ drop (i + 2) s))
      (e_pairs_law (get_or s i 0) (get_or s (i + 1) 0) (and_left (First (get_or s i 0)) (Second (get_or s (i + 1) 0)) both) n (and_right (First (get_or s i 0)) (Second (get_or s (i + 1) 0)) both))
      ∙ stored_two s i (get_or s (i + 1) 0) 0x0324 pair_fits

-- a text without a pair
pub vowels_none : (s : List ℕ) → NoPairIn 0 (length s) s → respell vowel_rules s ≡ s
unfolding is_pair
vowels_none s n = quiet vowel_rules vowel_rules_law s (λ k. by_end k (dec_le (length s) k))
  where
    by_end : (k : ℕ) → Dec (length s ≤ k) → is_pair (drop k s) ≡ false
    by_end k (yes h) = ap is_pair (drop_of_length-le s h)
    by_end k (no h) = n k (omega arith) (omega arith)

-- ── nn at the end only
abbrev IsN : ℕ → Bool
IsN x = eqb (lower x) (point "n")

nasal_first : (s : List ℕ) → is_nasal_pair s ≡ (IsN (get_or s 0 0) && IsN (get_or s 1 0))
unfolding is_nasal_pair lower
nasal_first [] = refl
nasal_first (x ∷ s) = refl

pub nasal_at : (s : List ℕ) (k : ℕ) → is_nasal_pair (drop k s) ≡ (IsN (get_or s k 0) && IsN (get_or s (k + 1) 0))
nasal_at s k =
    let z : k + 0 ≡ k = omega arith in
    nasal_first (drop k s) ∙ ap₂ (λ (x y : ℕ). IsN x && IsN y) (get_or-drop k s 0 0 ∙ ap (λ (n : ℕ). get_or s n 0) z) (get_or-drop k s 1 0)

-- a rule for two letters n, whose replacement is one code point and no n
pub record NasalRule (r : List ℕ × List ℕ) : Type 0 where
  pub a : ℕ
  pub b : ℕ
  pub sign : ℕ
  pub pattern : r.0 ≡ a ∷ b ∷ []
  pub result : r.1 ≡ sign ∷ []
  pub first : IsN a ≡ true
  pub second : IsN b ≡ true
  pub other : IsN sign ≡ false

abbrev Nasals : List (List ℕ × List ℕ) → Type 0
Nasals [] = Unit {0}
Nasals (r ∷ rs) = NasalRule r × Nasals rs

begins_nasal : (a b : ℕ) → IsN a ≡ true → IsN b ≡ true → (s : List ℕ) → begins (a ∷ b ∷ []) s ≡ true → is_nasal_pair s ≡ true
unfolding begins is_nasal_pair
begins_nasal a b f g [] e = absurd (false_true e)
begins_nasal a b f g (x ∷ []) e = absurd (false_true (sym (and_false (eqb x a)) ∙ e))
begins_nasal a b f g (x ∷ (y ∷ s)) e =
    let x_is = eqb-true x a (and_left (eqb x a) (eqb y b && true) e) in
    let y_is = eqb-true y b (and_left (eqb y b) true (and_right (eqb x a) (eqb y b && true) e)) in
    and_yes _ _ (ap IsN x_is ∙ f) ∙ ap IsN y_is ∙ g

no_nasal_begins : (r : List ℕ × List ℕ) → NasalRule r → (s : List ℕ) → is_nasal_pair s ≡ false → begins r.0 s ≡ false
no_nasal_begins r v s e =
    either (begins r.0 s)
    (λ y. absurd (false_true (sym e ∙ begins_nasal v.a v.b v.first v.second s (ap (λ (p : List ℕ). begins p s) (sym v.pattern) ∙ y))))
    (λ n. n)

quiet_nasals : (rules : List (List ℕ × List ℕ)) → Nasals rules → (s : List ℕ) → ((k : ℕ) → is_nasal_pair (drop k s) ≡ false) → respell rules s ≡ s
quiet_nasals [] h s n = refl
quiet_nasals (r ∷ rs) (v, h) s n = ap (respell rs) (replace_none r.0 r.1 s (λ i l. no_nasal_begins r v (drop i s) (n i))) ∙ quiet_nasals rs h s n

module _ (s : List ℕ) (i : ℕ) (h : i + 2 ≡ length s) (before : NoNasalBefore s) where
  abbrev x : ℕ
  x = get_or s i 0

  abbrev y : ℕ
  y = get_or s (i + 1) 0

  other_nasal : (k : ℕ) → (k ≡ i → ⊥) → is_nasal_pair (drop k s) ≡ false
  unfolding lower
  other_nasal k n = by_end (dec_le (i + 1) k)
    where
      by_end : Dec (i + 1 ≤ k) → is_nasal_pair (drop k s) ≡ false
      by_end (yes l) =
          let beyond : length s ≤ k + 1 = omega arith in
          nasal_at s k ∙ ap (λ (z : ℕ). IsN (get_or s k 0) && IsN z) (get_or-eq_default s 0 beyond) ∙ and_false (IsN (get_or s k 0))
      by_end (no l) = before k (omega arith)

  end_is : drop i s ≡ x ∷ y ∷ []
  end_is =
      let z : length s ≤ i + 1 + 1 = omega arith in
      drop_next s i (omega arith) ∙ ap (λ (t : List ℕ). x ∷ t) (drop_next s (i + 1) (omega arith) ∙ ap (λ (t : List ℕ). y ∷ t) (drop_of_length-le s z))

  module _ (sign : ℕ) (other : IsN sign ≡ false) where
    abbrev signed : List ℕ
    signed = take i s ++ (sign ∷ [])

    size : length (take i s) ≡ i
    size = length-take-le i s (omega arith)

    sign_there : get_or signed i 0 ≡ sign
    sign_there = ap (λ (n : ℕ). get_or signed n 0) (sym size) ∙ at_seam (take i s)
      where
        at_seam : (l : List ℕ) → get_or (l ++ (sign ∷ [])) (length l) 0 ≡ sign
        at_seam [] = refl
        at_seam (z ∷ l) = at_seam l

    front_there : (k : ℕ) → k < i → get_or signed k 0 ≡ get_or s k 0
    front_there k l = get_or-append (take i s) (sign ∷ []) 0 k (rw size l) ∙ get_or-take i s k 0 l

    none_there : (k : ℕ) → i < k → get_or signed k 0 ≡ 0
    none_there k l = get_or-eq_default signed 0 (omega (arith, length-append (take i s) (sign ∷ []), size))

    none_signed : (k : ℕ) → is_nasal_pair (drop k signed) ≡ false
    unfolding lower
    none_signed k = nasal_at signed k ∙ by_place (dec_le i k) (ℕ_discrete k i) (ℕ_discrete (k + 1) i)
      where
        by_place : Dec (i ≤ k) → Dec (k ≡ i) → Dec (k + 1 ≡ i) → (IsN (get_or signed k 0) && IsN (get_or signed (k + 1) 0)) ≡ false
        by_place (yes l) (yes e) r = and_no _ _ (ap (λ (n : ℕ). IsN (get_or signed n 0)) e ∙ ap IsN sign_there ∙ other)
        by_place (yes l) (no e) r = and_no _ _ (ap IsN (none_there k (omega arith)))
        by_place (no l) q (yes e) =
            ap (λ (n : ℕ). IsN (get_or signed k 0) && IsN (get_or signed n 0)) e
            ∙ ap (λ (z : ℕ). IsN (get_or signed k 0) && IsN z) sign_there
            ∙ ap (λ (b : Bool). IsN (get_or signed k 0) && b) other
            ∙ and_false (IsN (get_or signed k 0))
        by_place (no l) q (no e) =
            ap₂ (λ (u v : ℕ). IsN u && IsN v) (front_there k (omega arith)) (front_there (k + 1) (omega arith)) ∙ sym (nasal_at s k) ∙ before k (omega arith)

  nasal_rule : (r : List ℕ × List ℕ) (v : NasalRule r) → begins r.0 (x ∷ y ∷ []) ≡ true → replace_all r.0 r.1 s ≡ take i s ++ r.1
  nasal_rule r v e =
      let two : length r.0 ≡ 2 = ap length v.pattern in
      let somewhat : 0 < length r.0 = omega arith in
      let past : length s ≤ i + length r.0 = omega arith in
      replace_once r.0 r.1 somewhat s i (ap (begins r.0) end_is ∙ e)
      (λ k l. no_nasal_begins r v (drop k s) (other_nasal k (λ w. omega arith)))
      (λ k l. no_nasal_begins r v (drop k s) (other_nasal k (λ w. omega arith)))
      ∙ ap (λ (t : List ℕ). take i s ++ (r.1 ++ t)) (drop_of_length-le s past)
      ∙ ap (λ (t : List ℕ). take i s ++ t) (ap (λ (t : List ℕ). t ++ []) v.result ∙ sym v.result)

  pub respell_end : (rules : List (List ℕ × List ℕ)) → Nasals rules → respell rules s ≡ take i s ++ replacement rules x y
  respell_end [] u = sym (split_end s i)
    where
      split_end : (l : List ℕ) (n : ℕ) → take i s ++ (x ∷ y ∷ []) ≡ s
      split_end l n = ap (λ (t : List ℕ). take i s ++ t) (sym end_is) ∙ take-append-drop i s
  respell_end (r ∷ rs) (v, u) =
      either (begins r.0 (x ∷ y ∷ []))
      (λ e.
      let same = nasal_rule r v e ∙ ap (λ (t : List ℕ). take i s ++ t) v.result in
      ap (respell rs) same
      ∙ quiet_nasals rs u (take i s ++ (v.sign ∷ [])) (none_signed v.sign v.other)
      ∙ ap (λ (t : List ℕ). take i s ++ t) (sym v.result ∙ sym (text_yes _ r.1 (replacement rs x y) e)))
      (λ e.
      ap (respell rs) (replace_none r.0 r.1 s (λ k l. by_place k (ℕ_discrete k i) e))
      ∙ respell_end rs u
      ∙ ap (λ (t : List ℕ). take i s ++ t) (sym (text_no _ r.1 (replacement rs x y) e)))
    where
      by_place : (k : ℕ) → Dec (k ≡ i) → begins r.0 (x ∷ y ∷ []) ≡ false → begins r.0 (drop k s) ≡ false
      by_place k (yes q) e = ap (λ (n : ℕ). begins r.0 (drop n s)) q ∙ ap (begins r.0) end_is ∙ e
      by_place k (no q) e = no_nasal_begins r v (drop k s) (other_nasal k q)

nasal : (a b c : ℕ) → IsN a ≡ true → IsN b ≡ true → IsN c ≡ false → NasalRule (a ∷ b ∷ [], c ∷ [])
nasal a b c e f g = record { a = a; b = b; sign = c; pattern = refl; result = refl; first = e; second = f; other = g }

nasal_rules_law : Nasals nasal_rules
unfolding lower
nasal_rules_law =
    (nasal 0x6E 0x6E 0x207F refl refl refl, (nasal 0x6E 0x4E 0x207F refl refl refl, (nasal 0x4E 0x6E 0x207F refl refl refl, (nasal 0x4E 0x4E 0x1D3A refl refl refl, tt))))

is_n : (x : ℕ) → IsN x ≡ true → (x ≡ 0x6E) ⊎ (x ≡ 0x4E)
unfolding lower
is_n x e =
    either (within 65 90 x)
    (λ y. let z : x + 32 ≡ 0x6E = sym (number_yes (within 65 90 x) (x + 32) x y) ∙ eqb-true (lower x) 0x6E e in inr (omega arith))
    (λ n. inl (sym (number_no (within 65 90 x) (x + 32) x n) ∙ eqb-true (lower x) 0x6E e))

abbrev Signs : ℕ → ℕ → ℕ → Type 0
Signs sign x y = replacement nasal_rules x y ≡ sign ∷ []

nasal_capital : (x y : ℕ) → x ≡ 0x4E → y ≡ 0x4E → Signs 0x1D3A x y
unfolding begins
nasal_capital x y e f = subst (λ (z : ℕ). Signs 0x1D3A z y) (sym e) (subst (Signs 0x1D3A 0x4E) (sym f) refl)

nasal_small : (x y : ℕ) → (x ≡ 0x6E) ⊎ (x ≡ 0x4E) → (y ≡ 0x6E) ⊎ (y ≡ 0x4E) → (y ≡ 0x4E → x ≡ 0x4E → ⊥) → Signs 0x207F x y
unfolding begins
nasal_small x y (inl e) (inl f) n = subst (λ (z : ℕ). Signs 0x207F z y) (sym e) (subst (Signs 0x207F 0x6E) (sym f) refl)
nasal_small x y (inl e) (inr f) n = subst (λ (z : ℕ). Signs 0x207F z y) (sym e) (subst (Signs 0x207F 0x6E) (sym f) refl)
nasal_small x y (inr e) (inl f) n = subst (λ (z : ℕ). Signs 0x207F z y) (sym e) (subst (Signs 0x207F 0x4E) (sym f) refl)
nasal_small x y (inr e) (inr f) n = absurd (n f e)

module _ (s : List ℕ) (e : ends_nasal s ≡ true) where
  pub nasal_three : 3 ≤ length s
  nasal_three = by_length (dec_le 3 (length s))
    where
      by_length : Dec (3 ≤ length s) → 3 ≤ length s
      by_length (yes h) = h
      by_length (no h) = absurd (false_true (sym (nasal_short s (omega arith)) ∙ e))

  abbrev i : ℕ
  i = length s - 2

  tests : (listed (marked "aeiouptkhm" 0x0358) (lower (get_or s (length s - 3) 0)) && IsN (get_or s i 0) && IsN (get_or s (length s - 1) 0)) ≡ true
  tests = sym (nasal_read s nasal_three) ∙ e

  last_n : IsN (get_or s (length s - 1) 0) ≡ true
  last_n = and_right (listed (marked "aeiouptkhm" 0x0358) (lower (get_or s (length s - 3) 0)) && IsN (get_or s i 0)) (IsN (get_or s (length s - 1) 0)) tests

  second_n : IsN (get_or s i 0) ≡ true
  second_n =
      and_right (listed (marked "aeiouptkhm" 0x0358) (lower (get_or s (length s - 3) 0))) (IsN (get_or s i 0))
      (and_left (listed (marked "aeiouptkhm" 0x0358) (lower (get_or s (length s - 3) 0)) && IsN (get_or s i 0)) (IsN (get_or s (length s - 1) 0)) tests)

  place : i + 2 ≡ length s
  place = omega (arith, nasal_three)

  behind : get_or s (i + 1) 0 ≡ get_or s (length s - 1) 0
  behind = let z : i + 1 ≡ length s - 1 = omega (arith, nasal_three) in ap (λ (n : ℕ). get_or s n 0) z

  module _ (before : NoNasalBefore s) where
    pub end_capital : get_or s (length s - 1) 0 ≡ 0x4E → get_or s i 0 ≡ 0x4E → respell nasal_rules s ≡ take i s ++ (0x1D3A ∷ [])
    end_capital f g =
        respell_end s i place before nasal_rules nasal_rules_law ∙ ap (λ (t : List ℕ). take i s ++ t) (nasal_capital (get_or s i 0) (get_or s (i + 1) 0) g (behind ∙ f))

    pub end_small : (get_or s (length s - 1) 0 ≡ 0x4E → get_or s i 0 ≡ 0x4E → ⊥) → respell nasal_rules s ≡ take i s ++ (0x207F ∷ [])
    end_small n =
        respell_end s i place before nasal_rules nasal_rules_law
        ∙ ap (λ (t : List ℕ). take i s ++ t)
        (nasal_small (get_or s i 0) (get_or s (i + 1) 0) (is_n (get_or s i 0) second_n) (is_n (get_or s (i + 1) 0) (ap IsN behind ∙ last_n)) (λ f g. n (sym behind ∙ f) g))

-- as the code leaves it
pub front_signed : (s : List ℕ) (sign : ℕ) → 3 ≤ length s → Front (set s (length s - 2) sign) (length s - 1) (take (length s - 2) s ++ (sign ∷ []))
front_signed s sign h =
    let i : ℕ = length s - 2 in
    let z : length s - 1 ≡ suc i = omega arith in
    record {
      is = ap (λ (n : ℕ). take n (set s i sign)) z ∙ take-suc-set s i sign (omega arith);
      size = length-append (take i s) (sign ∷ []) ∙ omega (arith, length-take-le i s (omega arith));
    }

-- ── a sign at the end only
sign_last : (s : List ℕ) (c : ℕ) → 0x1D3A ≤ c → NoSignBefore s → listed s c ≡ true → last s ≡ c
unfolding listed last
sign_last [] c h n e = absurd (false_true e)
sign_last (x ∷ []) c h n e = either (eqb x c) (λ y. eqb-true x c y) (λ m. absurd (false_true (sym (or_no _ _ m) ∙ e)))
sign_last (x ∷ (y ∷ s)) c h n e =
    let low : x < 0x1D3A = n 0 (omega arith) in
    let other : eqb x c ≡ false = ne_eqb x c (λ z. omega arith) in
    last_skip x y s ∙ sign_last (y ∷ s) c h (λ k l. n (suc k) (omega arith)) (sym (or_no _ _ other) ∙ e)

moved_lone : (s : List ℕ) (c : ℕ) → 0x1D3A ≤ c → NoSignBefore s → moved c s ≡ s
unfolding moved
moved_lone s c h n =
    either (listed s c)
    (λ l. text_yes (listed s c) _ _ l ∙ text_yes (eqb (last s) c) _ _ (eq-eqb _ _ (sign_last s c h n l)))
    (λ l. text_no (listed s c) _ _ l)

pub moved_none_lone : (s : List ℕ) → NoSignBefore s → moved 0x1D3A (moved 0x207F s) ≡ s
moved_none_lone s n = ap (moved 0x1D3A) (moved_lone s 0x207F (omega arith) n) ∙ moved_lone s 0x1D3A (omega arith) n

-- ── the O rules there
dotted_quiet : (s : List ℕ) → ((k : ℕ) → takes_dot (drop k s) ≡ false) → dotted o_rules s ≡ s
unfolding takes_dot dotted
dotted_quiet [] n = refl
dotted_quiet (x ∷ s) n = ap (λ (t : List ℕ). x ∷ t) (text_no _ _ _ (n 0) ∙ dotted_quiet s (λ k. n (suc k)))

dotted_once : (s : List ℕ) (k : ℕ) → k < length s → takes_dot (drop k s) ≡ true → ((j : ℕ) → (j ≡ k → ⊥) → takes_dot (drop j s) ≡ false)
    → dotted o_rules s ≡ take (k + 1) s ++ (0x0358 ∷ drop (k + 1) s)
unfolding takes_dot dotted
dotted_once [] k h e n = absurd (omega arith)
dotted_once (x ∷ s) zero h e n =
    ap (λ (t : List ℕ). x ∷ t) (text_yes _ _ _ e ∙ ap (λ (t : List ℕ). 0x0358 ∷ t) (dotted_quiet s (λ j. n (suc j) (λ z. omega arith))))
dotted_once (x ∷ s) (suc k) h e n =
    let z : suc k + 1 ≡ suc (k + 1) = omega arith in
    ap (λ (t : List ℕ). x ∷ t)
    (text_no _ _ _ (n 0 (λ w. omega arith)) ∙ dotted_once s k (omega arith) e (λ j l. n (suc j) (λ w. l (omega arith))))
    ∙ sym (ap (λ (m : ℕ). take m (x ∷ s) ++ (0x0358 ∷ drop m (x ∷ s))) z)

low_dot : (x y z : ℕ) → y < 0x1D3A → z < 0x1D3A → takes_dot (x ∷ y ∷ z ∷ []) ≡ false
unfolding takes_dot begins
low_dot x y z h k =
    let a : eqb y 0x1D3A ≡ false = ne_eqb y 0x1D3A (λ w. omega arith) in
    let b : eqb y 0x207F ≡ false = ne_eqb y 0x207F (λ w. omega arith) in
    let c : eqb z 0x1D3A ≡ false = ne_eqb z 0x1D3A (λ w. omega arith) in
    let d : eqb z 0x207F ≡ false = ne_eqb z 0x207F (λ w. omega arith) in
    simp (a, b, c, d, and_false)

-- what takes U+0358 is an o, and nothing takes it before an o
dot_letter : (x y z : ℕ) → takes_dot (x ∷ y ∷ z ∷ []) ≡ true → (x ≡ 0x4F) ⊎ (x ≡ 0x6F)
unfolding takes_dot begins
dot_letter x y z e =
    either (eqb x 0x4F) (λ w. inl (eqb-true x 0x4F w))
    (λ n. either (eqb x 0x6F) (λ w. inr (eqb-true x 0x6F w)) (λ m. absurd (false_true (sym (simp (n, m) refl) ∙ e))))

dot_before_o : (x y z : ℕ) → (y ≡ 0x4F) ⊎ (y ≡ 0x6F) → takes_dot (x ∷ y ∷ z ∷ []) ≡ false
unfolding takes_dot begins
dot_before_o x y z (inl e) = rw e (simp and_false)
dot_before_o x y z (inr e) = rw e (simp and_false)

module _ (s : List ℕ) (n : NoSignBefore s) where
  low_at_law : (k : ℕ) → (k + 1 ≡ length s → ⊥) → get_or s k 0 < 0x1D3A
  low_at_law k l = by_end (dec_le (length s) k)
    where
      by_end : Dec (length s ≤ k) → get_or s k 0 < 0x1D3A
      by_end (yes h) = rw (get_or-eq_default s 0 h) (omega arith)
      by_end (no h) = n k (omega arith)

  no_dot : (k : ℕ) → (k + 2 ≡ length s → ⊥) → (k + 3 ≡ length s → ⊥) → takes_dot (drop k s) ≡ false
  no_dot k l m = dot_at s k ∙ low_dot (get_or s k 0) (get_or s (k + 1) 0) (get_or s (k + 2) 0) (low_at_law (k + 1) (λ w. l (omega arith))) (low_at_law (k + 2) (λ w. m (omega arith)))

  dots_none : ((k : ℕ) → takes_dot (drop k s) ≡ false) → DotAt None s
  dots_none h = o_dotted s ∙ dotted_quiet s h

  dots_one : (k at : ℕ) → k + 1 ≡ at → k < length s → takes_dot (drop k s) ≡ true → ((j : ℕ) → (j ≡ k → ⊥) → takes_dot (drop j s) ≡ false) → DotAt (Some at) s
  dots_one k at e h t q = (omega arith, o_dotted s ∙ dotted_once s k h t q ∙ ap (λ (m : ℕ). take m s ++ (0x0358 ∷ drop m s)) e)

  pub dot_short : length s < 2 → DotAt None s
  dot_short h = dots_none (λ k. no_dot k (λ w. omega arith) (λ w. omega arith))

  pub dot_low : get_or s (length s - 1) 0 < 0x1D3A → DotAt None s
  dot_low h =
      dots_none (λ k. dot_at s k ∙ low_dot (get_or s k 0) (get_or s (k + 1) 0) (get_or s (k + 2) 0) (all_low (k + 1)) (all_low (k + 2)))
    where
      all_low : (k : ℕ) → get_or s k 0 < 0x1D3A
      all_low k = by_end (ℕ_discrete (k + 1) (length s))
        where
          by_end : Dec (k + 1 ≡ length s) → get_or s k 0 < 0x1D3A
          by_end (yes e) = let z : length s - 1 ≡ k = omega arith in subst (λ (m : ℕ). get_or s m 0 < 0x1D3A) z h
          by_end (no e) = low_at_law k e

  module _ (two : 2 ≤ length s) where
    pub dot_last : takes_dot (drop (length s - 2) s) ≡ true → DotAt (Some (length s - 1)) s
    dot_last e = dots_one (length s - 2) (length s - 1) (omega arith) (omega arith) e (λ j l. by_place j l (ℕ_discrete (j + 3) (length s)))
      where
        letter : (get_or s (length s - 2) 0 ≡ 0x4F) ⊎ (get_or s (length s - 2) 0 ≡ 0x6F)
        letter = dot_letter (get_or s (length s - 2) 0) (get_or s (length s - 2 + 1) 0) (get_or s (length s - 2 + 2) 0) (sym (dot_at s (length s - 2)) ∙ e)

        by_place : (j : ℕ) → (j ≡ length s - 2 → ⊥) → Dec (j + 3 ≡ length s) → takes_dot (drop j s) ≡ false
        by_place j l (yes m) =
            let z : j + 1 ≡ length s - 2 = omega arith in
            dot_at s j ∙ dot_before_o (get_or s j 0) (get_or s (j + 1) 0) (get_or s (j + 2) 0) (subst (λ (k : ℕ). (get_or s k 0 ≡ 0x4F) ⊎ (get_or s k 0 ≡ 0x6F)) (sym z) letter)
        by_place j l (no m) = no_dot j (λ w. l (omega arith)) m

    pub dot_second : 2 < length s → takes_dot (drop (length s - 2) s) ≡ false → takes_dot (drop (length s - 3) s) ≡ true → DotAt (Some (length s - 2)) s
    dot_second three f e = dots_one (length s - 3) (length s - 2) (omega arith) (omega arith) e (λ j l. by_place j l (ℕ_discrete (j + 2) (length s)))
      where
        by_place : (j : ℕ) → (j ≡ length s - 3 → ⊥) → Dec (j + 2 ≡ length s) → takes_dot (drop j s) ≡ false
        by_place j l (yes m) = let z : j ≡ length s - 2 = omega arith in ap (λ (k : ℕ). takes_dot (drop k s)) z ∙ f
        by_place j l (no m) = no_dot j m (λ w. l (omega arith))

    pub dot_nowhere : takes_dot (drop (length s - 2) s) ≡ false → (2 < length s → takes_dot (drop (length s - 3) s) ≡ false) → DotAt None s
    dot_nowhere f g = dots_none (λ j. by_place j (ℕ_discrete (j + 2) (length s)) (ℕ_discrete (j + 3) (length s)))
      where
        by_place : (j : ℕ) → Dec (j + 2 ≡ length s) → Dec (j + 3 ≡ length s) → takes_dot (drop j s) ≡ false
        by_place j (yes m) q = let z : j ≡ length s - 2 = omega arith in ap (λ (k : ℕ). takes_dot (drop k s)) z ∙ f
        by_place j (no m) (yes q) = let z : j ≡ length s - 3 = omega arith in ap (λ (k : ℕ). takes_dot (drop k s)) z ∙ g (omega arith)
        by_place j (no m) (no q) = no_dot j m q
