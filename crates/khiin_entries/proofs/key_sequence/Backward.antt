-- A text that is written from its end: each step writes the piece in front of what is there.
use mathlib.Core.Path.{◌≡◌, sym, ap, ap₂, ◌∙◌}
use mathlib.Core.List.{List, [], ◌++◌, append_assoc, append-nil}
use Prim.Native.Nat.{ℕ, ◌+◌, ◌-◌, ◌≤◌}
use native.Mathlib.Omega.{arith}
use lib.ListN.{length, take, drop, length-append, length-drop, take-append-drop}
use lib.Seq.{take-append-le, take-take, take-length, drop_at, length-take-le, paste}

-- of `whole` all but `rest` stands before `end`, from `at` on, and else the buffer is as it was
pub record Backward (before after whole rest : List ℕ) (at end : ℕ) : Type 0 where
  pub done : List ℕ
  pub all : rest ++ done ≡ whole
  pub sized : at + length done ≡ end
  pub is : after ≡ take at before ++ (done ++ drop end before)

pub backward_start : (before whole : List ℕ) (end : ℕ) → Backward before before whole whole end end
backward_start before whole end = record { done = []; all = append-nil whole; sized = omega arith; is = sym (take-append-drop end before) }

module _ {before after whole rest : List ℕ} {at end : ℕ} (h : Backward before after whole rest at end) (room : end ≤ length before) where
  pub backward_step : (rest' piece : List ℕ) (at' : ℕ) → rest ≡ rest' ++ piece → at' + length piece ≡ at → Backward before (paste after at' piece (length piece)) whole rest' at' end
  backward_step rest' piece at' e n =
      let d = h.done in
      let tail = d ++ drop end before in
      let s : at + length d ≡ end = h.sized in
      let l : length (take at before) ≡ at = length-take-le at before (omega arith) in
      let front : take at' after ≡ take at' before = ap (take at') h.is ∙ take-append-le at' (take at before) tail (omega arith) ∙ take-take at' at before (omega arith) in
      let behind : drop (at' + length piece) after ≡ tail = ap₂ drop n h.is ∙ drop_at (take at before) tail at l in
      record {
        done = piece ++ d;
        all = sym (append_assoc rest' piece d) ∙ ap (λ (l : List ℕ). l ++ d) (sym e) ∙ h.all;
        sized = omega (arith, length-append piece d);
        is = ap₂ (λ (a b : List ℕ). a ++ take (length piece) piece ++ b) front behind
            ∙ ap (λ (l : List ℕ). take at' before ++ l ++ tail) (take-length piece)
            ∙ append_assoc (take at' before) piece tail
            ∙ ap (λ (l : List ℕ). take at' before ++ l) (sym (append_assoc piece d (drop end before)));
      }

  pub backward_length : length after ≡ length before
  backward_length =
      let s : at + length h.done ≡ end = h.sized in
      ap length h.is ∙ simp (length-append, length-drop) (omega (arith, length-take-le at before (omega arith)))

  -- nothing is left
  pub backward_end : rest ≡ [] → (n : ℕ) → length whole ≡ n → after ≡ paste before (end - n) whole n
  backward_end e n size =
      let d = h.done in
      let is : d ≡ whole = ap (λ (l : List ℕ). l ++ d) (sym e) ∙ h.all in
      let s : at + n ≡ end = ap (λ (k : ℕ). at + k) (sym (ap length is ∙ size)) ∙ h.sized in
      let z : at ≡ end - n = omega arith in
      let y : end ≡ end - n + n = omega arith in
      h.is
      ∙ sym (append_assoc (take at before) d (drop end before))
      ∙ ap₂ (λ (k : ℕ) (l : List ℕ). take k before ++ l ++ drop end before) z (is ∙ sym (ap (λ (k : ℕ). take k whole) (sym size) ∙ take-length whole))
      ∙ ap (λ (k : ℕ). take (end - n) before ++ take n whole ++ drop k before) y
