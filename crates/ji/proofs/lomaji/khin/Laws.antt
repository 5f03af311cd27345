-- The neutral-tone mark: both marks have two bytes, and a text without its mark is no longer than the text.
use mathlib.Core.Path.{◌≡◌, refl, sym, ◌∙◌}
use mathlib.Core.Bool.{Bool, true, false, ◌||◌}
use mathlib.Core.List.{List}
use Prim.Native.Nat.{ℕ, ◌-◌, ◌≤◌}
use native.Mathlib.Omega.{arith}
use lib.ListN.{length, take, drop, length-drop}
use Rattle.ji.proofs.Parts.{part_is}
use Rattle.ji.specs.Text.{points, begins}
use Rattle.ji.specs.Utf8.{bytes_of, encode, bytes}
use Rattle.ji.specs.Lomaji.Khin.{after_mark, after_khin, khin_of, without_khin, khin_in}
use Rattle.ji.proofs.text.Laws.{begins_length}
use Rattle.ji.proofs.utf8.OneToOne.{begins_bytes, drop_bytes}
use Rattle.ji.proofs.Bools.{false_true, either, or_yes, or_no, text_yes, text_no}

-- ── the two marks
-- the text has one of them
abbrev pub marked : List ℕ → Bool
marked s = begins (bytes "--") s || begins (bytes "·") s

pub marked_fits : (s : List ℕ) → marked s ≡ true → 2 ≤ length s
unfolding encode bytes_of
marked_fits s e = either (begins (bytes "--") s) (λ h. begins_length (bytes "--") s h) (λ h. begins_length (bytes "·") s (sym (or_no _ _ h) ∙ e))

pub after_mark_law : (s : List ℕ) → marked s ≡ true → after_khin s ≡ drop 2 s
unfolding after_khin encode bytes_of
after_mark_law s e = either (begins (bytes "--") s) (λ h. text_yes _ _ _ h) (λ h. text_no _ _ _ h ∙ text_yes _ _ _ (sym (or_no _ _ h) ∙ e))

pub after_none : (s : List ℕ) → marked s ≡ false → after_khin s ≡ s
unfolding after_khin
after_none s e =
    either (begins (bytes "--") s) (λ h. absurd (false_true (sym e ∙ or_yes _ _ h))) (λ h. text_no _ _ _ h ∙ text_no _ _ _ (sym (or_no _ _ h) ∙ e))

-- the part of a slice from the mark's end on
pub part_after : (s : List ℕ) → marked s ≡ true → take (length s - 2) (drop 2 s) ≡ after_khin s
part_after s e = part_is s 2 ∙ sym (after_mark_law s e)

pub after_khin_length : (s : List ℕ) → length (after_khin s) ≤ length s
after_khin_length s =
    either (marked s) (λ e. rw (after_mark_law s e) (simp length-drop (omega arith))) (λ e. rw (after_none s e) (omega arith))

-- ── the bytes of a text, and its code points
after_bytes : (hyphens dot s : List ℕ) → after_mark (encode hyphens) (encode dot) (encode s) ≡ encode (after_mark hyphens dot s)
after_bytes hyphens dot s =
    rw (begins_bytes hyphens s, begins_bytes dot s)
    (either (begins hyphens s)
    (λ e. rw e (drop_bytes hyphens s e))
    (λ e. rw e (either (begins dot s) (λ f. rw f (drop_bytes dot s f)) (λ f. rw f refl))))

pub after_points : (s : List ℕ) → after_khin (encode s) ≡ encode (without_khin s)
unfolding after_khin without_khin
after_points s = after_bytes (points "--") (points "·") s

pub khin_points : (s : List ℕ) → khin_of (encode s) ≡ khin_in s
unfolding khin_of khin_in
khin_points s = rw (begins_bytes (points "--") s, begins_bytes (points "·") s) refl
