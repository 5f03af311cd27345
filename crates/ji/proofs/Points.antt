-- What `unicode::code_points` gives: the code points, where the buffer has room for as many as there are bytes, or why the text is refused.
use mathlib.Core.Path.{◌≡◌, refl, sym, ap, ◌∙◌}
use mathlib.Core.List.{List, [], ◌∷◌, ◌++◌}
use Prim.Native.Nat.{ℕ, ◌≤◌}
use native.Mathlib.Omega.{arith}
use lib.ListN.{length, drop, get_or}
use Rattle.ucd.specs.Unicode16.{unicode16}
use Rattle.ji.specs.Written.{Written}
use Rattle.ji.specs.Utf8.{decode}
use Rattle.ji.specs.Reply.{Reply, refusal_number, answered, Checked, good, bad, check_points}
use Rattle.ji.specs.Reading.{points_reply, points_of, points_call}
use Rattle.ji.specs.declared.reply.Refusal.{Refusal}
use Rattle.ji.specs.declared.reply.Refusal.TheVariants.{Argument, TooLong, IllFormed, OutsideTable, Parts, Position, NoRoom}
use Rattle.ji.specs.declared.unicode.CharLen.{CharLen}
use Rattle.ji.proofs.Replies.{refusal_some, placed_whole}
use Rattle.ji.proofs.unicode.Bytes.{fewer}
use Rattle.ji.proofs.unicode.Checked.{points_passed}
use Rattle.std.specs.Prelude.{Result, Ok, Err}

-- a refusal's number says which it is
refusal_at : ℕ → Refusal
refusal_at n = get_or (Argument ∷ Argument ∷ TooLong ∷ IllFormed ∷ OutsideTable ∷ Parts ∷ Position ∷ NoRoom ∷ []) n Argument

refusal_back : (why : Refusal) → refusal_at (refusal_number why) ≡ why
unfolding refusal_at
refusal_back Argument = refl
refusal_back TooLong = refl
refusal_back IllFormed = refl
refusal_back OutsideTable = refl
refusal_back Parts = refl
refusal_back Position = refl
refusal_back NoRoom = refl

module _ (s before after : List ℕ) (room : length s ≤ length before) where
  -- where the text is good, there is room
  good_called : (u : List ℕ) → check_points unicode16 (decode s) ≡ good u → points_call unicode16 s before ≡ answered 0 u before
  good_called u e =
      ap (λ (k : Checked). points_of k before) e
      ∙ sym (placed_whole 0 u before (omega (arith, room, fewer u, ap length (points_passed s u e).written)))

  module _ {answer : Result CharLen Refusal} (says : points_reply answer after ≡ points_call unicode16 s before) where
    replied : {x : Result CharLen Refusal} → answer ≡ x → {r : Reply} → points_call unicode16 s before ≡ r → points_reply x after ≡ r
    replied e {r} f = ap (λ (x : Result CharLen Refusal). points_reply x after) (sym e) ∙ says ∙ f

    pub points_done : (n : CharLen) → answer ≡ Ok n → (u : List ℕ) × (check_points unicode16 (decode s) ≡ good u) × Written before after n.0 u
    points_done n e = go (check_points unicode16 (decode s)) refl
      where
        go : (k : Checked) → check_points unicode16 (decode s) ≡ k → (u : List ℕ) × (check_points unicode16 (decode s) ≡ good u) × Written before after n.0 u
        go (good u) f =
            let same : points_reply (Ok n) after ≡ answered 0 u before = replied e (good_called u f) in
            let size : n.0 ≡ length u = ap (λ (r : Reply). r.length) same in (
              u,
              f,
              record {
                is = ap (λ (r : Reply). r.buffer) same ∙ ap (λ (k : ℕ). u ++ drop k before) (sym size);
                size = sym size;
                fits = omega (arith, size, room, fewer u, ap length (points_passed s u f).written);
              },
            )
        go (bad why) f =
            let none : 0 ≡ refusal_number why = ap (λ (r : Reply). r.code) (replied e (ap (λ (k : Checked). points_of k before) f)) in
            absurd (let z : ⊥ = omega (arith, none, refusal_some why) in z)

    pub points_refused : (why : Refusal) → answer ≡ Err why → check_points unicode16 (decode s) ≡ bad why
    points_refused why e = go (check_points unicode16 (decode s)) refl
      where
        go : (k : Checked) → check_points unicode16 (decode s) ≡ k → check_points unicode16 (decode s) ≡ bad why
        go (good u) f =
            let none : refusal_number why ≡ 0 = ap (λ (r : Reply). r.code) (replied e (good_called u f)) in
            absurd (let z : ⊥ = omega (arith, none, refusal_some why) in z)
        go (bad other) f =
            let same : refusal_number why ≡ refusal_number other = ap (λ (r : Reply). r.code) (replied e (ap (λ (k : Checked). points_of k before) f)) in
            f ∙ ap bad (sym (refusal_back other) ∙ ap refusal_at (sym same) ∙ refusal_back why)
