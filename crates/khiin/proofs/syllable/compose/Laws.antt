-- Laws of the rules by which a body is spelled, of the front of a buffer, and of the call.
use mathlib.Core.Path.{◌≡◌, refl, sym, ap, ap₂, ◌∙◌}
use mathlib.Core.Bool.{Bool, true, false, not, ◌&&◌, ◌||◌}
use mathlib.Core.List.{List, [], ◌∷◌, ◌++◌}
use Prim.Native.Nat.{ℕ, suc, ◌+◌, ◌-◌, ◌*◌, ◌≤◌, ◌<◌, suc-le-suc}
use native.Mathlib.Omega.{arith}
use borrow.Author.Tests.{eq-eqb, ne_eqb, eqb-true, eqb-false}
use lib.Dec.{ltb, eqb}
use lib.ListN.{length, take, drop, get_or, set, get_or-append, drop_of_length-le}
use lib.Seq.{length-take-le, take-length, take-take, take-add, take-suc, get_or-take, get_or-drop, drop-cons, drop-drop, drop_at, set_at, split_at, append_snoc}
use Rattle.std.specs.List.{starts_with}
use Rattle.ji.specs.Unicode.{unicode16, pick_text, listed}
use Rattle.ji.specs.Text.{points, marked, point, lower, begins, replace_all, last}
use Rattle.ji.specs.Written.{Written}
use Rattle.ji.specs.Lomaji.Keys.{respell}
use Rattle.ji.specs.declared.tone.Tone.{Tone}
use Rattle.ji.specs.declared.lomaji.khin.Khin.{Khin}
use Rattle.ji.proofs.Bools.{either, false_true, and_no, and_false, and_left, and_right, or_yes, or_no, text_yes, text_no}
use Rattle.ji.proofs.Writing.{written_length, written_take, written_drop, stores_2}
use Rattle.ji.proofs.Underway.{Underway, underway_start, underway_one, underway_run, underway_end}
use Rattle.ji.proofs.text.Laws.{drop_next, begins_split, replace_nil, replace_hit, replace_miss, replace_point, replace_other, replace_growth, replace_induction}
use Rattle.khiin.specs.Syllable.{o_rules, is_nasal_end, ends_nasal, nasalised, moved, spelled, khin_text, mark_of, composed_with, compose}
use Rattle.khiin.specs.Compose.{Front, is_pair, begins_any, takes_dot, settled_body, inserted}

-- the method tells what the definition does
eqb_turned : (a b : ℕ) → eqb a b ≡ eqb b a
eqb_turned a b =
    either (eqb b a)
    (λ e. eq-eqb a b (sym (eqb-true b a e)) ∙ sym e)
    (λ e. ne_eqb a b (λ z. eqb-false b a e (sym z)) ∙ sym e)

pub begins_told : (p s : List ℕ) → starts_with eqb s p ≡ begins p s
unfolding begins
begins_told [] s = refl
begins_told (a ∷ p) [] = refl
begins_told (a ∷ p) (x ∷ s) = ap₂ (λ (u v : Bool). u && v) (eqb_turned a x) (begins_told p s)

get_d_start : (s : List ℕ) (i : ℕ) → get_or (drop i s) 0 0 ≡ get_or s i 0
get_d_start s i = let z : i + 0 ≡ i = omega arith in get_or-drop i s 0 0 ∙ ap (λ (k : ℕ). get_or s k 0) z

-- ── the front of a buffer
pub front_written : {before after : List ℕ} {n : ℕ} {s : List ℕ} → Written before after n s → Front after n s
front_written w = record { is = written_take w; size = w.size }

pub front_whole : (s : List ℕ) → Front s (length s) s
front_whole s = record { is = take-length s; size = refl }

-- ── a walk that writes F s over s itself, behind the place that it reads
pub record Walk (F : List ℕ → List ℕ) (s₀ s : List ℕ) (i n : ℕ) : Type 0 where
  pub behind : n ≤ i
  pub under : Underway F s₀ s₀ s i n

pub walk_start : (F : List ℕ → List ℕ) (s : List ℕ) → Walk F s s 0 0
walk_start F s = record { behind = omega arith; under = underway_start F s s }

module _ {F : List ℕ → List ℕ} {s₀ s : List ℕ} {i n : ℕ} (h : Walk F s₀ s i n) where
  pub walk_length : length s ≡ length s₀
  walk_length = written_length h.under.written

  -- what is not read yet stands as it was
  pub walk_unread : drop i s ≡ drop i s₀
  walk_unread =
      let k : n + (i - n) ≡ i = omega (arith, h.behind) in
      rw (← k, ← drop-drop (i - n) n s, ← drop-drop (i - n) n s₀) (ap (drop (i - n)) (written_drop h.under.written))

  pub walk_here : get_or s i 0 ≡ get_or s₀ i 0
  walk_here = sym (get_d_start s i) ∙ ap (λ (t : List ℕ). get_or t 0 0) walk_unread ∙ get_d_start s₀ i

  pub walk_one : (i' x : ℕ) → F (drop i s₀) ≡ x ∷ F (drop i' s₀) → i < i' → i' ≤ length s → Walk F s₀ (set s n x) i' (n + 1)
  walk_one i' x piece more inside =
      record {
        behind = omega (arith, h.behind);
        under = underway_one h.under i' x piece (omega (arith, walk_length)) (omega (arith, h.behind, walk_length));
      }

  pub walk_past : (i' : ℕ) → F (drop i s₀) ≡ F (drop i' s₀) → i ≤ i' → i' ≤ length s → Walk F s₀ s i' n
  walk_past i' piece more inside =
      record {
        behind = omega (arith, h.behind);
        under =
            record {
              inside = omega (arith, walk_length);
              done = h.under.done;
              written = h.under.written;
              rest = ap (λ (t : List ℕ). h.under.done ++ t) (sym piece) ∙ h.under.rest;
            };
      }

  pub walk_end : F (drop i s₀) ≡ [] → Written s₀ s n (F s₀)
  walk_end e = underway_end h.under e

-- two elements more
pub underway_two : {F : List ℕ → List ℕ} {s before after : List ℕ} {i j : ℕ} → Underway F s before after i j → (i' x y : ℕ) → F (drop i s) ≡ x ∷ y ∷ F (drop i' s) → i' ≤ length s → j + 2 ≤ length before → Underway F s before (set (set after j x) (j + 1) y) i' (j + 1 + 1)
underway_two {F} {s} {before} {after} {i} {j} h i' x y piece inside room =
    let two : j + 1 + 1 ≡ j + 2 = omega arith in
    rw (two, stores_2 after j x y (rw (written_length h.written) room)) (underway_run h i' (x ∷ y ∷ []) piece inside room)

not_true : (b : Bool) → not b ≡ true → b ≡ true → ⊥
not_true true e f = false_true e
not_true false e f = false_true f

-- ── what the code reads of a text
pair_read : (s : List ℕ) → is_pair s ≡ (listed (points "oOeE") (get_or s 0 0) && listed (points "oOuU") (get_or s 1 0))
unfolding is_pair listed
pair_read [] = refl
pair_read (x ∷ s) = refl

pub pair_at_law : (s : List ℕ) (i : ℕ) → is_pair (drop i s) ≡ (listed (points "oOeE") (get_or s i 0) && listed (points "oOuU") (get_or s (i + 1) 0))
pair_at_law s i =
    pair_read (drop i s)
    ∙ ap₂ (λ (x y : ℕ). listed (points "oOeE") x && listed (points "oOuU") y) (get_d_start s i) (get_or-drop i s 1 0)

pub nasal_short : (s : List ℕ) → length s < 3 → ends_nasal s ≡ false
unfolding ends_nasal is_nasal_end
nasal_short [] h = refl
nasal_short (a ∷ []) h = refl
nasal_short (a ∷ b ∷ []) h = refl
nasal_short (a ∷ b ∷ (c ∷ s)) h = absurd (omega arith)

module _ (s : List ℕ) (h : 3 ≤ length s) where
  last_three : drop (length s - 3) s ≡ get_or s (length s - 3) 0 ∷ get_or s (length s - 2) 0 ∷ get_or s (length s - 1) 0 ∷ []
  last_three =
      let n = length s in
      let two : n - 3 + 1 ≡ n - 2 = omega arith in
      let one : n - 2 + 1 ≡ n - 1 = omega arith in
      let end : n ≤ n - 1 + 1 = omega arith in
      drop_next s (n - 3) (omega arith)
      ∙ ap (λ (k : ℕ). get_or s (n - 3) 0 ∷ drop k s) two
      ∙ ap (λ (t : List ℕ). get_or s (n - 3) 0 ∷ t) (drop_next s (n - 2) (omega arith)
      ∙ ap (λ (k : ℕ). get_or s (n - 2) 0 ∷ drop k s) one
      ∙ ap (λ (t : List ℕ). get_or s (n - 2) 0 ∷ t) (drop_next s (n - 1) (omega arith) ∙ ap (λ (t : List ℕ). get_or s (n - 1) 0 ∷ t) (drop_of_length-le s end)))

  abbrev letter : ℕ → ℕ
  letter back = lower (get_or s (length s - back) 0)

  pub nasal_read : ends_nasal s ≡ (listed (marked "aeiouptkhm" 0x0358) (letter 3) && eqb (letter 2) (point "n") && eqb (letter 1) (point "n"))
  unfolding ends_nasal is_nasal_end
  nasal_read = ap is_nasal_end last_three

  abbrev ending : Bool → Bool → Bool
  ending second last = listed (marked "aeiouptkhm" 0x0358) (letter 3) && second && last

  pub nasal_not_last : (letter 1 ≡ point "n" → ⊥) → ends_nasal s ≡ false
  nasal_not_last n = nasal_read ∙ ap (ending (eqb (letter 2) (point "n"))) (ne_eqb _ _ n) ∙ and_false (listed (marked "aeiouptkhm" 0x0358) (letter 3) && eqb (letter 2) (point "n"))

  pub nasal_not_second : (letter 2 ≡ point "n" → ⊥) → ends_nasal s ≡ false
  nasal_not_second n =
      nasal_read
      ∙ ap (λ (b : Bool). ending b (eqb (letter 1) (point "n"))) (ne_eqb _ _ n)
      ∙ and_no _ _ (and_false (listed (marked "aeiouptkhm" 0x0358) (letter 3)))

-- past the end 0 is read, which no O rule has
dot_zeros : (s : List ℕ) → takes_dot s ≡ takes_dot (get_or s 0 0 ∷ get_or s 1 0 ∷ get_or s 2 0 ∷ [])
unfolding takes_dot begins
dot_zeros [] = refl
dot_zeros (x ∷ []) = refl
dot_zeros (x ∷ y ∷ []) = refl
dot_zeros (x ∷ y ∷ (z ∷ s)) = refl

pub dot_at : (s : List ℕ) (i : ℕ) → takes_dot (drop i s) ≡ takes_dot (get_or s i 0 ∷ get_or s (i + 1) 0 ∷ get_or s (i + 2) 0 ∷ [])
dot_at s i =
    dot_zeros (drop i s)
    ∙ ap (λ (x : ℕ). takes_dot (x ∷ get_or (drop i s) 1 0 ∷ get_or (drop i s) 2 0 ∷ [])) (get_d_start s i)
    ∙ ap₂ (λ (y z : ℕ). takes_dot (get_or s i 0 ∷ y ∷ z ∷ [])) (get_or-drop i s 1 0) (get_or-drop i s 2 0)

-- ── the O rules in one walk
-- a rule that puts U+0358 behind the first code point of its pattern: that one, and those that follow it
abbrev rule_of : ℕ × List ℕ → List ℕ × List ℕ
rule_of d = (d.0 ∷ d.1, d.0 ∷ 0x0358 ∷ d.1)

abbrev rules_of : List (ℕ × List ℕ) → List (List ℕ × List ℕ)
rules_of [] = []
rules_of (d ∷ ds) = rule_of d ∷ rules_of ds

unfoldable pub dotted : List (List ℕ × List ℕ) → List ℕ → List ℕ
dotted rules [] = []
dotted rules (x ∷ s) = x ∷ pick_text (begins_any rules (x ∷ s)) (0x0358 ∷ dotted rules s) (dotted rules s)

-- what a pattern begins with, and U+0358, stand nowhere else in a pattern
abbrev is_dot : ℕ → Bool
is_dot c = listed (marked "oO" 0x0358) c

unfoldable free : List ℕ → Bool
free [] = true
free (c ∷ q) = not (is_dot c) && free q

unfoldable is_rule : ℕ × List ℕ → Bool
is_rule d = (is_dot d.0 && not (eqb d.0 0x0358)) && (ltb 0 (length d.1) && free d.1)

unfoldable all_rules : List (ℕ × List ℕ) → Bool
all_rules [] = true
all_rules (d ∷ ds) = is_rule d && all_rules ds

apart : (c a : ℕ) → not (is_dot c) ≡ true → is_dot a ≡ true → c ≡ a → ⊥
apart c a h k e = not_true (is_dot c) h (ap is_dot e ∙ k)

-- one rule
module _ (a : ℕ) (q : List ℕ) (letter : is_dot a ≡ true) (clear : free q ≡ true) where
  abbrev alone : List (List ℕ × List ℕ)
  alone = rule_of (a, q) ∷ []

  dot_other : (x : ℕ) (s : List ℕ) → (x ≡ a → ⊥) → dotted alone (x ∷ s) ≡ x ∷ dotted alone s
  unfolding dotted begins
  dot_other x s n = ap (λ (l : List ℕ). x ∷ l) (text_no _ _ _ (or_no _ _ (and_no _ _ (ne_eqb x a n))))

  dot_free : (u s : List ℕ) → free u ≡ true → dotted alone (u ++ s) ≡ u ++ dotted alone s
  unfolding free
  dot_free [] s f = refl
  dot_free (c ∷ u) s f =
      dot_other c (u ++ s) (apart c a (and_left (not (is_dot c)) (free u) f) letter)
      ∙ ap (λ (l : List ℕ). c ∷ l) (dot_free u s (and_right (not (is_dot c)) (free u) f))

  begins_dotted : (u s : List ℕ) → free u ≡ true → begins u (dotted alone s) ≡ begins u s
  unfolding free begins dotted
  begins_dotted [] s f = refl
  begins_dotted (c ∷ u) [] f = refl
  begins_dotted (c ∷ u) (y ∷ s) f =
      either (eqb y c)
      (λ e.
      let same = eqb-true y c e in
      let n = apart c a (and_left (not (is_dot c)) (free u) f) letter in
      ap (begins (c ∷ u)) (dot_other y s (λ z. n (sym same ∙ z)))
      ∙ ap (λ (b : Bool). eqb y c && b) (begins_dotted u s (and_right (not (is_dot c)) (free u) f)))
      (λ e. and_no _ _ e ∙ sym (and_no (eqb y c) (begins u s) e))

  one_rule : (s : List ℕ) → replace_all (a ∷ q) (a ∷ 0x0358 ∷ q) s ≡ dotted alone s
  unfolding dotted begins
  one_rule =
      replace_induction (a ∷ q) (omega arith) (λ (s : List ℕ). replace_all (a ∷ q) (a ∷ 0x0358 ∷ q) s ≡ dotted alone s)
      (replace_nil (a ∷ q) (a ∷ 0x0358 ∷ q))
      (λ x s e ih.
      let same = eqb-true x a (and_left (eqb x a) (begins q s) e) in
      let rest = begins_split q s (and_right (eqb x a) (begins q s) e) in
      replace_hit (a ∷ q) (a ∷ 0x0358 ∷ q) x s (omega arith) e
      ∙ ap (λ (l : List ℕ). a ∷ 0x0358 ∷ (q ++ l)) ih
      ∙ ap (λ (l : List ℕ). a ∷ 0x0358 ∷ l) (sym (dot_free q (drop (length q) s) clear) ∙ ap (dotted alone) (sym rest))
      ∙ ap (λ (c : ℕ). c ∷ 0x0358 ∷ dotted alone s) (sym same)
      ∙ ap (λ (l : List ℕ). x ∷ l) (sym (text_yes _ _ _ (or_yes _ _ e))))
      (λ x s e ih.
      replace_miss (a ∷ q) (a ∷ 0x0358 ∷ q) x s e
      ∙ ap (λ (l : List ℕ). x ∷ l) (ih ∙ sym (text_no _ _ _ (or_no _ _ e))))

-- rules after one another: none begins with U+0358, has it behind its first code point, or sees whether an earlier one put it there
module _ (d : ℕ × List ℕ) (ds : List (ℕ × List ℕ)) (h : all_rules (d ∷ ds) ≡ true) where
  rule_first : is_rule d ≡ true
  unfolding all_rules
  rule_first = and_left (is_rule d) (all_rules ds) h

  rules_rest : all_rules ds ≡ true
  unfolding all_rules
  rules_rest = and_right (is_rule d) (all_rules ds) h

  rule_letter : is_dot d.0 ≡ true
  unfolding is_rule
  rule_letter =
      and_left (is_dot d.0) (not (eqb d.0 0x0358)) (and_left (is_dot d.0 && not (eqb d.0 0x0358)) (ltb 0 (length d.1) && free d.1) rule_first)

  rule_other : eqb d.0 0x0358 ≡ true → ⊥
  unfolding is_rule
  rule_other e =
      not_true (eqb d.0 0x0358)
      (and_right (is_dot d.0) (not (eqb d.0 0x0358)) (and_left (is_dot d.0 && not (eqb d.0 0x0358)) (ltb 0 (length d.1) && free d.1) rule_first))
      e

  rule_tail : (ltb 0 (length d.1) && free d.1) ≡ true
  unfolding is_rule
  rule_tail = and_right (is_dot d.0 && not (eqb d.0 0x0358)) (ltb 0 (length d.1) && free d.1) rule_first

  rule_free : free d.1 ≡ true
  rule_free = and_right (ltb 0 (length d.1)) (free d.1) rule_tail

free_mark : (q s : List ℕ) → (ltb 0 (length q) && free q) ≡ true → begins q (0x0358 ∷ s) ≡ false
unfolding free begins listed
free_mark [] s h = absurd (false_true h)
free_mark (c ∷ q) s h =
    let clear = and_left (not (is_dot c)) (free q) (and_right (ltb 0 (suc (length q))) (not (is_dot c) && free q) h) in
    and_no _ _ (ne_eqb 0x0358 c (λ e. apart c 0x0358 clear refl (sym e)))

none_at_mark : (ds : List (ℕ × List ℕ)) → all_rules ds ≡ true → (s : List ℕ) → begins_any (rules_of ds) (0x0358 ∷ s) ≡ false
unfolding begins
none_at_mark [] h s = refl
none_at_mark (d ∷ ds) h s =
    or_no _ _ (and_no _ _ (ne_eqb 0x0358 d.0 (λ e. rule_other d ds h (eq-eqb d.0 0x0358 (sym e)))))
    ∙ none_at_mark ds (rules_rest d ds h) s

none_before_mark : (ds : List (ℕ × List ℕ)) → all_rules ds ≡ true → (x : ℕ) (s : List ℕ) → begins_any (rules_of ds) (x ∷ 0x0358 ∷ s) ≡ false
unfolding begins
none_before_mark [] h x s = refl
none_before_mark (d ∷ ds) h x s =
    or_no _ _ (ap (λ (b : Bool). eqb x d.0 && b) (free_mark d.1 s (rule_tail d ds h)) ∙ and_false (eqb x d.0))
    ∙ none_before_mark ds (rules_rest d ds h) x s

module _ (a : ℕ) (q : List ℕ) (letter : is_dot a ≡ true) (clear : free q ≡ true) where
  any_dotted : (ds : List (ℕ × List ℕ)) → all_rules ds ≡ true → (x : ℕ) (s : List ℕ) → begins_any (rules_of ds) (x ∷ dotted (rule_of (a, q) ∷ []) s) ≡ begins_any (rules_of ds) (x ∷ s)
  unfolding begins
  any_dotted [] h x s = refl
  any_dotted (d ∷ ds) h x s =
      ap₂ (λ (b c : Bool). (eqb x d.0 && b) || c) (begins_dotted a q letter clear d.1 s (rule_free d ds h)) (any_dotted ds (rules_rest d ds h) x s)

  module _ (ds : List (ℕ × List ℕ)) (h : all_rules ds ≡ true) where
    more_rules : (s : List ℕ) → dotted (rules_of ds) (dotted (rule_of (a, q) ∷ []) s) ≡ dotted (rules_of ((a, q) ∷ ds)) s
    unfolding dotted
    more_rules [] = refl
    more_rules (x ∷ s) =
        let rule : List ℕ × List ℕ = rule_of (a, q) in
        let done : List ℕ = dotted (rule ∷ []) s in
        either (begins (a ∷ q) (x ∷ s))
        (λ e.
        ap (λ (l : List ℕ). dotted (rules_of ds) (x ∷ l)) (text_yes _ (0x0358 ∷ done) done (or_yes _ false e))
        ∙ ap (λ (l : List ℕ). x ∷ l)
        (text_no _ _ _ (none_before_mark ds h x done)
        ∙ ap (λ (l : List ℕ). 0x0358 ∷ l) (text_no _ _ _ (none_at_mark ds h done) ∙ more_rules s)
        ∙ sym (text_yes _ _ _ (or_yes _ (begins_any (rules_of ds) (x ∷ s)) e))))
        (λ e.
        ap (λ (l : List ℕ). dotted (rules_of ds) (x ∷ l)) (text_no _ (0x0358 ∷ done) done (or_no _ false e))
        ∙ ap (λ (l : List ℕ). x ∷ l)
        (ap₂ (λ (b : Bool) (l : List ℕ). pick_text b (0x0358 ∷ l) l) (any_dotted ds h x s ∙ sym (or_no _ (begins_any (rules_of ds) (x ∷ s)) e)) (more_rules s)))

dotted_none : (s : List ℕ) → s ≡ dotted [] s
unfolding dotted
dotted_none [] = refl
dotted_none (x ∷ s) = ap (λ (l : List ℕ). x ∷ l) (dotted_none s)

respell_dotted : (ds : List (ℕ × List ℕ)) → all_rules ds ≡ true → (s : List ℕ) → respell (rules_of ds) s ≡ dotted (rules_of ds) s
respell_dotted [] h s = dotted_none s
respell_dotted (d ∷ ds) h s =
    ap (respell (rules_of ds)) (one_rule d.0 d.1 (rule_letter d ds h) (rule_free d ds h) s)
    ∙ respell_dotted ds (rules_rest d ds h) (dotted (rule_of d ∷ []) s)
    ∙ more_rules d.0 d.1 (rule_letter d ds h) (rule_free d ds h) ds (rules_rest d ds h) s

abbrev o_patterns : List (ℕ × List ℕ)
o_patterns =
    (point "O", points "ᴺ") ∷ (point "O", points "ⁿ") ∷ (point "o", points "ⁿ") ∷ (point "O", points "Hᴺ") ∷ (point "O", points "hⁿ") ∷ (point "o", points "hⁿ") ∷ []

pub o_dotted : (s : List ℕ) → respell o_rules s ≡ dotted o_rules s
unfolding all_rules is_rule free listed
o_dotted s = respell_dotted o_patterns refl s

-- what the walk does at a place
module _ (s : List ℕ) (i : ℕ) (h : i < length s) where
  pub dotted_here : takes_dot (drop i s) ≡ true → dotted o_rules (drop i s) ≡ get_or s i 0 ∷ 0x0358 ∷ dotted o_rules (drop (i + 1) s)
  unfolding takes_dot dotted
  dotted_here e =
      let here = drop_next s i h in
      ap (dotted o_rules) here ∙ ap (λ (l : List ℕ). get_or s i 0 ∷ l) (text_yes _ _ _ (ap (begins_any o_rules) (sym here) ∙ e))

  pub dotted_not : takes_dot (drop i s) ≡ false → dotted o_rules (drop i s) ≡ get_or s i 0 ∷ dotted o_rules (drop (i + 1) s)
  unfolding takes_dot dotted
  dotted_not e =
      let here = drop_next s i h in
      ap (dotted o_rules) here ∙ ap (λ (l : List ℕ). get_or s i 0 ∷ l) (text_no _ _ _ (ap (begins_any o_rules) (sym here) ∙ e))

pub dotted_end : (s : List ℕ) (i : ℕ) → length s ≤ i → dotted o_rules (drop i s) ≡ []
unfolding dotted
dotted_end s i h = ap (dotted o_rules) (drop_of_length-le s h)

pub dotted_length : (rules : List (List ℕ × List ℕ)) (s : List ℕ) → length (dotted rules s) ≤ 2 * length s
unfolding dotted
dotted_length rules [] = omega arith
dotted_length rules (x ∷ s) =
    let most = dotted_length rules s in
    either (begins_any rules (x ∷ s))
    (λ e. rw (text_yes (begins_any rules (x ∷ s)) (0x0358 ∷ dotted rules s) (dotted rules s) e) (omega arith))
    (λ e. rw (text_no (begins_any rules (x ∷ s)) (0x0358 ∷ dotted rules s) (dotted rules s) e) (omega arith))

-- ── the move to the end
neither : (a b : Bool) → (a || b) ≡ false → (a ≡ false) × (b ≡ false)
neither true b e = absurd (false_true (sym e))
neither false b e = (refl, e)

module _ (c : ℕ) where
  out_most : (s : List ℕ) → length (replace_all (c ∷ []) [] s) ≤ length s
  out_most s = omega (arith, replace_growth (c ∷ []) [] (omega arith) 1 (omega arith) (omega arith) s)

  out_listed : (s : List ℕ) → listed s c ≡ true → length (replace_all (c ∷ []) [] s) < length s
  unfolding listed
  out_listed [] e = absurd (false_true e)
  out_listed (x ∷ s) e =
      either (eqb x c)
      (λ y. rw (replace_point c [] x s (eqb-true x c y)) (omega (arith, out_most s)))
      (λ n. rw (replace_other c [] x s (eqb-false x c n)) (suc-le-suc (out_listed s (sym (or_no _ _ n) ∙ e))))

  out_none : (s : List ℕ) → listed s c ≡ false → replace_all (c ∷ []) [] s ≡ s
  unfolding listed
  out_none [] e = replace_nil (c ∷ []) []
  out_none (x ∷ s) e =
      let z = neither (eqb x c) (listed s c) e in
      replace_other c [] x s (eqb-false x c z.0) ∙ ap (λ (l : List ℕ). x ∷ l) (out_none s z.1)

  module _ (s : List ℕ) where
    pub moved_end : get_or s (length s - 1) 0 ≡ c → moved c s ≡ s
    unfolding moved last
    moved_end e =
        either (listed s c)
        (λ l. text_yes (listed s c) _ _ l ∙ text_yes (eqb (last s) c) _ _ (eq-eqb _ _ e))
        (λ l. text_no (listed s c) _ _ l)

    pub moved_none : length s ≤ length (replace_all (c ∷ []) [] s) → (moved c s ≡ s) × (replace_all (c ∷ []) [] s ≡ s)
    unfolding moved
    moved_none h =
        either (listed s c)
        (λ l. let z : ⊥ = omega (arith, out_listed s l) in absurd z)
        (λ l. (text_no (listed s c) _ _ l, out_none s l))

    pub moved_some : (get_or s (length s - 1) 0 ≡ c → ⊥) → length (replace_all (c ∷ []) [] s) < length s → moved c s ≡ replace_all (c ∷ []) [] s ++ (c ∷ [])
    unfolding moved last
    moved_some n h =
        either (listed s c)
        (λ l. text_yes (listed s c) _ _ l ∙ text_no (eqb (last s) c) _ _ (ne_eqb _ _ n))
        (λ l. let z : ⊥ = omega (arith, ap length (out_none s l)) in absurd z)

-- ── a mark put into a text in place
-- what follows place i has moved up by one, over the last
abbrev pub shifted : List ℕ → ℕ → List ℕ
shifted s i = take i s ++ (get_or s i 0 ∷ take (length s - 1 - i) (drop i s))

pub shifted_start : (s : List ℕ) → 0 < length s → s ≡ shifted s (length s - 1)
shifted_start s h =
    let m : ℕ = length s - 1 in
    let end : length s ≤ suc m = omega arith in
    let nothing : m - m ≡ 0 = omega arith in
    split_at s m 0 (omega arith)
    ∙ ap (λ (l : List ℕ). take m s ++ (get_or s m 0 ∷ l)) (drop_of_length-le s end ∙ ap (λ (k : ℕ). take k (drop m s)) (sym nothing))

module _ (s₀ s : List ℕ) (i : ℕ) where
  -- the store at i
  stored : (x : ℕ) → i < length s₀ → s ≡ shifted s₀ i → set s i x ≡ take i s₀ ++ (x ∷ take (length s₀ - 1 - i) (drop i s₀))
  stored x h e =
      ap (λ (l : List ℕ). set l i x) e
      ∙ set_at (take i s₀) (get_or s₀ i 0) (take (length s₀ - 1 - i) (drop i s₀)) x i (length-take-le i s₀ (omega arith))

  pub shifted_step : 0 < i → i < length s₀ → s ≡ shifted s₀ i → set s i (get_or s (i - 1) 0) ≡ shifted s₀ (i - 1)
  shifted_step pos h e =
      let j : ℕ = i - 1 in
      let next : i ≡ suc j = omega arith in
      let x : ℕ = get_or s₀ j 0 in
      let rest : List ℕ = take (length s₀ - 1 - i) (drop i s₀) in
      let same : get_or s j 0 ≡ x = unmoved j next in
      let more : length s₀ - 1 - j ≡ suc (length s₀ - 1 - i) = omega arith in
      let behind : take (length s₀ - 1 - j) (drop j s₀) ≡ x ∷ rest = rw (more, drop-cons s₀ j 0 (omega arith), ← next) in
      ap (set s i) same
      ∙ stored x h e
      ∙ ap (λ (l : List ℕ). l ++ (x ∷ rest)) (ap (λ (k : ℕ). take k s₀) next ∙ take-suc s₀ j 0 (omega arith))
      ∙ append_snoc (take j s₀) x (x ∷ rest)
      ∙ ap (λ (l : List ℕ). take j s₀ ++ (x ∷ l)) (sym behind)
    where
      unmoved : (j : ℕ) → i ≡ suc j → get_or s j 0 ≡ get_or s₀ j 0
      unmoved j next =
          ap (λ (l : List ℕ). get_or l j 0) e
          ∙ get_or-append (take i s₀) _ 0 j (rw (length-take-le i s₀ (omega arith)) (omega arith))
          ∙ get_or-take i s₀ j 0 (omega arith)

pub shifted_end : (s₀ s : List ℕ) (k x : ℕ) → k < length s₀ → s ≡ shifted s₀ k → set s k x ≡ inserted k x s₀
shifted_end s₀ s k x h e = stored s₀ s k x h e

-- the same of the first n + 1 places: the mark stands in the text of the first n
module _ (s : List ℕ) (n k x : ℕ) (h : n < length s) (l : k ≤ n) where
  inserted_rest : take (n - k) (drop k (take (n + 1) s)) ≡ drop k (take n s)
  inserted_rest =
      let m : ℕ = n - k in
      let one : n + 1 ≡ k + (m + 1) = omega arith in
      let all : n ≡ k + m = omega arith in
      ap (λ (j : ℕ). take m (drop k (take j s))) one
      ∙ ap (take m) (behind (m + 1))
      ∙ take-take m (m + 1) (drop k s) (omega arith)
      ∙ sym (ap (λ (j : ℕ). drop k (take j s)) all ∙ behind m)
    where
      behind : (m : ℕ) → drop k (take (k + m) s) ≡ take m (drop k s)
      behind m = ap (drop k) (take-add k m s) ∙ drop_at (take k s) (take m (drop k s)) k (length-take-le k s (omega arith))

  pub inserted_is : inserted k x (take (n + 1) s) ≡ take k (take n s) ++ (x ∷ drop k (take n s))
  inserted_is =
      let whole : length (take (n + 1) s) - 1 - k ≡ n - k = omega (arith, length-take-le (n + 1) s (omega arith)) in
      ap₂ (λ (a b : List ℕ). a ++ (x ∷ b))
      (take-take k (n + 1) s (omega arith) ∙ sym (take-take k n s l))
      (ap (λ (j : ℕ). take j (drop k (take (n + 1) s))) whole ∙ inserted_rest)

-- ── the front of a buffer, step by step
-- ── compose
pub nasalised_no : (s : List ℕ) → ends_nasal s ≡ false → nasalised s ≡ s
unfolding nasalised
nasalised_no s e = text_no (ends_nasal s) _ _ e

-- what the O rules and khin make of a settled body is what compose marks
pub composed_is : (raw_input body s : List ℕ) (tone : Tone) (khin : Khin) → settled_body body ≡ s
    → composed_with unicode16 raw_input (khin_text khin ++ respell o_rules s) (mark_of tone) ≡ compose unicode16 raw_input body tone khin
unfolding compose spelled settled_body
composed_is raw_input body s tone khin e = ap (λ (u : List ℕ). composed_with unicode16 raw_input (khin_text khin ++ respell o_rules u) (mark_of tone)) (sym e)
