-- Stripping and canonical order: a text may be stripped before it is put in order. The tone marks are all of one class, so they keep their
-- order among each other, and what is left is put in order as if they had never been there.
use mathlib.Core.Path.{◌≡◌, refl, sym, ap, ◌∙◌}
use mathlib.Core.Bool.{true, false, ◌||◌}
use mathlib.Core.List.{List, [], ◌∷◌}
use Prim.Native.Nat.{ℕ, ◌<◌}
use native.Mathlib.Decide.{dec_lt}
use native.Mathlib.Omega.{arith}
use lib.Dec.{eqb}
use borrow.Author.Tests.{eq-eqb, eqb-true}
use Rattle.ucd.specs.Table.{combining_class, class_in, pick_text}
use Rattle.ucd.specs.Full.{full}
use Rattle.ucd.specs.Unicode16.{unicode16, classes16}
use Rattle.ji.specs.Nfd.{Reorderable, Exchange, here, there, Exchanges, none, more, NoPair, Ordered, order, of_class, nfd}
use Rattle.ji.specs.Lomaji.Strip.{tone_marks, mark_in, is_tone_mark, without_marks, dropped_marks}
use Rattle.ji.specs.declared.tone.Tone.{Tone}
use Rattle.ji.proofs.Bools.{either, false_true, or_yes, or_no, text_yes, text_no}
use Rattle.ji.proofs.Order.{exchanges_join, exchanges_behind, order_reached, order_ordered, ordered_fixed, order_only, order_stable}

-- ── the class of the tone marks
abbrev OfClass230 : List (ℕ × Tone) → Type 0
OfClass230 [] = Unit {0}
OfClass230 (m ∷ ms) = (combining_class unicode16 m.0 ≡ 230) × OfClass230 ms

classes_230 : OfClass230 tone_marks
unfolding combining_class unicode16 classes16 class_in
classes_230 = (refl, (refl, (refl, (refl, (refl, (refl, (refl, tt)))))))

class_in_law : (ms : List (ℕ × Tone)) → OfClass230 ms → (c : ℕ) → mark_in ms c ≡ true → combining_class unicode16 c ≡ 230
class_in_law [] h c e = absurd (false_true e)
class_in_law (m ∷ ms) h c e =
    either (eqb m.0 c)
    (λ y. ap (combining_class unicode16) (sym (eqb-true m.0 c y)) ∙ h.0)
    (λ n. class_in_law ms h.1 c (sym (or_no (eqb m.0 c) (mark_in ms c) n) ∙ e))

pub mark_class_law : (c : ℕ) → is_tone_mark c ≡ true → combining_class unicode16 c ≡ 230
unfolding is_tone_mark
mark_class_law c e = class_in_law tone_marks classes_230 c e

-- ── a text without its marks, one code point at a time
module _ (c : ℕ) (s : List ℕ) where
  pub without_mark : is_tone_mark c ≡ true → without_marks (c ∷ s) ≡ without_marks s
  unfolding without_marks
  without_mark e = text_yes _ _ _ e

  pub without_other : is_tone_mark c ≡ false → without_marks (c ∷ s) ≡ c ∷ without_marks s
  unfolding without_marks
  without_other e = text_no _ _ _ e

  pub dropped_mark : is_tone_mark c ≡ true → dropped_marks (c ∷ s) ≡ c ∷ dropped_marks s
  unfolding dropped_marks
  dropped_mark e = text_yes _ _ _ e

  pub dropped_other : is_tone_mark c ≡ false → dropped_marks (c ∷ s) ≡ dropped_marks s
  unfolding dropped_marks
  dropped_other e = text_no _ _ _ e

-- ── what is left is put in order as if there had been no marks
-- an exchange is an exchange of what is left, or nothing where a mark is exchanged
exchange_without : {s u : List ℕ} → Exchange unicode16 s u → Exchanges unicode16 (without_marks s) (without_marks u)
exchange_without (here {a} {b} {s} h) =
    either (is_tone_mark a)
    (λ x. rw (without_mark a (b ∷ s) x)
    (either (is_tone_mark b)
    (λ y. rw (without_mark b s y, without_mark b (a ∷ s) y, without_mark a s x) none)
    (λ y. rw (without_other b s y, without_other b (a ∷ s) y, without_mark a s x) none)))
    (λ x. rw (without_other a (b ∷ s) x)
    (either (is_tone_mark b)
    (λ y. rw (without_mark b s y, without_mark b (a ∷ s) y, without_other a s x) none)
    (λ y. rw (without_other b s y, without_other b (a ∷ s) y, without_other a s x) (more (here h) none))))
exchange_without (there {c} {s} {u} x) =
    either (is_tone_mark c)
    (λ e. rw (without_mark c s e, without_mark c u e) (exchange_without x))
    (λ e. rw (without_other c s e, without_other c u e) (exchanges_behind unicode16 (c ∷ []) (exchange_without x)))

exchanges_without : {s u : List ℕ} → Exchanges unicode16 s u → Exchanges unicode16 (without_marks s) (without_marks u)
exchanges_without none = none
exchanges_without (more x xs) = exchanges_join unicode16 (exchange_without x) (exchanges_without xs)

-- a text in order stays so when a mark that stands behind its first code point is taken out
no_pair_past : (a m : ℕ) (s : List ℕ) → combining_class unicode16 m ≡ 230 → (Reorderable unicode16 a m → ⊥) → NoPair unicode16 m s → NoPair unicode16 a s
no_pair_past a m [] e f g = tt
no_pair_past a m (b ∷ s) e f g = λ h. by_class (dec_lt (combining_class unicode16 m) (combining_class unicode16 a)) h
  where
    by_class : Dec (combining_class unicode16 m < combining_class unicode16 a) → Reorderable unicode16 a b → ⊥
    by_class (yes k) h = f (omega arith, k)
    by_class (no k) h = g (h.0, omega arith)

without_no_pair : (a : ℕ) (s : List ℕ) → NoPair unicode16 a s → Ordered unicode16 s → NoPair unicode16 a (without_marks s)
unfolding without_marks
without_no_pair a [] f h = tt
without_no_pair a (m ∷ s) f h =
    either (is_tone_mark m)
    (λ e. rw (without_mark m s e) (without_no_pair a s (no_pair_past a m s (mark_class_law m e) f h.0) h.1))
    (λ e. rw (without_other m s e) f)

without_ordered : (s : List ℕ) → Ordered unicode16 s → Ordered unicode16 (without_marks s)
unfolding without_marks
without_ordered [] h = tt
without_ordered (c ∷ s) h =
    either (is_tone_mark c)
    (λ e. rw (without_mark c s e) (without_ordered s h.1))
    (λ e. rw (without_other c s e) (without_no_pair c s h.0 h.1, without_ordered s h.1))

-- stripping commutes with canonical order
pub without_order : (s : List ℕ) → without_marks (order unicode16 s) ≡ order unicode16 (without_marks s)
without_order s =
    order_only unicode16 (without_marks s) (without_marks (order unicode16 s)) (exchanges_without (order_reached unicode16 s)) (without_ordered (order unicode16 s) (order_ordered unicode16 s))

-- ── the marks keep their order
dropped_of_class : (s : List ℕ) → dropped_marks (of_class unicode16 230 s) ≡ dropped_marks s
unfolding of_class dropped_marks
dropped_of_class [] = refl
dropped_of_class (c ∷ s) =
    either (eqb (combining_class unicode16 c) 230 || eqb (combining_class unicode16 c) 0)
    (λ y. ap dropped_marks (text_yes _ _ _ y) ∙ ap (λ (l : List ℕ). pick_text (is_tone_mark c) (c ∷ l) l) (dropped_of_class s))
    (λ n. ap dropped_marks (text_no _ _ _ n) ∙ dropped_of_class s ∙ sym (text_no _ _ _ (no_tone n)))
  where
    no_tone : (eqb (combining_class unicode16 c) 230 || eqb (combining_class unicode16 c) 0) ≡ false → is_tone_mark c ≡ false
    no_tone n = either (is_tone_mark c) (λ e. absurd (false_true (sym n ∙ or_yes _ _ (eq-eqb _ _ (mark_class_law c e))))) (λ e. e)

pub dropped_order : (s : List ℕ) → dropped_marks (order unicode16 s) ≡ dropped_marks s
dropped_order s = sym (dropped_of_class (order unicode16 s)) ∙ ap dropped_marks (order_stable unicode16 230 s) ∙ dropped_of_class s

-- so a text whose rest, fully decomposed, is in order as it stands is stripped as it stands
pub nfd_without : (u : List ℕ) → Ordered unicode16 (without_marks (full unicode16 u)) → without_marks (nfd unicode16 u) ≡ without_marks (full unicode16 u)
unfolding nfd
nfd_without u h = without_order (full unicode16 u) ∙ ordered_fixed unicode16 (without_marks (full unicode16 u)) h

pub nfd_dropped : (u : List ℕ) → dropped_marks (nfd unicode16 u) ≡ dropped_marks (full unicode16 u)
unfolding nfd
nfd_dropped u = dropped_order (full unicode16 u)
