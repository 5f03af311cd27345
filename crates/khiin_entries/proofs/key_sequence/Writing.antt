-- Texts that stand in a buffer, each behind the other.
use mathlib.Core.Path.{◌≡◌, refl, sym, ap, ap₂, ◌∙◌}
use mathlib.Core.List.{List, [], ◌∷◌, ◌++◌, append_assoc, append-nil}
use Prim.Native.Nat.{ℕ, zero, suc, ◌+◌, ◌-◌, ◌≤◌}
use native.Mathlib.Nat.{zero-add, suc-add}
use native.Mathlib.Omega.{arith}
use lib.ListN.{length, take, drop, length-append, length-drop, drop_of_length-le}
use lib.Seq.{take_all, take-nil, take-length, take-take, take_at, drop_at, drop-drop, length-take-le, length-paste, paste}

pub cut_front : (n a : ℕ) (l : List ℕ) → take n (drop a l) ≡ drop a (take (a + n) l)
cut_front n zero l = rw (zero-add n)
cut_front n (suc a) [] = rw (suc-add a n) (take-nil n)
cut_front n (suc a) (x ∷ l) = rw (suc-add a n) (cut_front n a l)

-- s stands in the buffer from `at` on
pub record Stands (buffer : List ℕ) (at : ℕ) (s : List ℕ) : Type 0 where
  pub text : take (length s) (drop at buffer) ≡ s
  pub inside : at + length s ≤ length buffer

module _ (d : List ℕ) (at : ℕ) (s : List ℕ) (room : at + length s ≤ length d) where
  abbrev pasted : List ℕ
  pasted = paste d at s (length s)

  front_length : length (take at d) ≡ at
  front_length = length-take-le at d (omega arith)

  pasted_is : pasted ≡ take at d ++ (s ++ drop (at + length s) d)
  pasted_is = ap (λ (l : List ℕ). take at d ++ l ++ drop (at + length s) d) (take-length s) ∙ append_assoc (take at d) s (drop (at + length s) d)

  pub pasted_length : length pasted ≡ length d
  pasted_length = length-paste d at s (length s) room (omega arith)

  -- a text that was put there stands there
  pub put_stands : Stands pasted at s
  put_stands =
      record {
        text = ap (λ (l : List ℕ). take (length s) (drop at l)) pasted_is
            ∙ ap (take (length s)) (drop_at (take at d) (s ++ drop (at + length s) d) at front_length)
            ∙ take_at s (drop (at + length s) d) (length s) refl;
        inside = omega (arith, pasted_length);
      }

  -- what is before it is as it was
  pub put_front : take at pasted ≡ take at d
  put_front = ap (take at) pasted_is ∙ take_at (take at d) (s ++ drop (at + length s) d) at front_length

  -- so what stood there still does
  pub put_keeps : (a : ℕ) (u : List ℕ) → Stands d a u → a + length u ≤ at → Stands pasted a u
  put_keeps a u h k =
      record {
        text = cut_front (length u) a pasted
            ∙ ap (drop a) (sym (take-take (a + length u) at pasted k) ∙ ap (take (a + length u)) put_front ∙ take-take (a + length u) at d k)
            ∙ sym (cut_front (length u) a d)
            ∙ h.text;
        inside = omega (arith, pasted_length);
      }

-- the beginning of a text that stands there
pub stands_front : {buffer : List ℕ} {at : ℕ} (s u : List ℕ) → Stands buffer at (s ++ u) → Stands buffer at s
stands_front {buffer} {at} s u h =
    let n : length (s ++ u) ≡ length s + length u = length-append s u in
    let i : at + length (s ++ u) ≤ length buffer = h.inside in
    record {
      text = sym (take-take (length s) (length (s ++ u)) (drop at buffer) (omega arith)) ∙ ap (take (length s)) h.text ∙ take_at s u (length s) refl;
      inside = omega arith;
    }

pub part_room : (d : List ℕ) (at n : ℕ) → at + n ≤ length d → n ≤ length (take (length d - at) (drop at d))
part_room d at n room =
    let l : length (drop at d) ≡ length d - at = length-drop at d in
    rw (take_all (length d - at) (drop at d) (omega arith)) (omega arith)

-- the part of the buffer from `at` on, which a call gave back with s over its front, put back
pub put_back : (d s part : List ℕ) (at : ℕ) → at + length s ≤ length d → part ≡ s ++ drop (length s) (take (length d - at) (drop at d)) → take at d ++ (part ++ drop (length d - at) (drop at d)) ≡ paste d at s (length s)
put_back d s part at room e =
    let l : length (drop at d) ≡ length d - at = length-drop at d in
    let whole : take (length d - at) (drop at d) ≡ drop at d = take_all (length d - at) (drop at d) (omega arith) in
    let all : length (drop at d) ≤ length d - at = omega arith in
    let none : drop (length d - at) (drop at d) ≡ [] = drop_of_length-le (drop at d) all in
    ap₂ (λ (p q : List ℕ). take at d ++ (p ++ q)) (e ∙ ap (λ (l : List ℕ). s ++ drop (length s) l) whole ∙ ap (λ (l : List ℕ). s ++ l) (drop-drop (length s) at d)) none
    ∙ ap (λ (l : List ℕ). take at d ++ l) (append-nil (s ++ drop (at + length s) d))
    ∙ sym (pasted_is d at s room)
