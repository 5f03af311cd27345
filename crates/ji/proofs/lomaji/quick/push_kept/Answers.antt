use mathlib.Core.Path.{◌≡◌, sym, ap, ◌∙◌}
use mathlib.Core.Bool.{Bool, true, false}
use mathlib.Core.List.{List, [], ◌∷◌, ◌++◌}
use mathlib.Core.Logic.{◌⊎◌, inl, inr}
use borrow.Author.Tests.{leb-true}
use Prim.Native.Nat.{ℕ, ◌+◌, ◌≤◌}
use lib.ListN.{length}
use lib.Seq.{paste}
use Rattle.ucd.specs.Table.{combining_class}
use Rattle.ucd.specs.Unicode16.{unicode16}
use Rattle.ji.specs.Written.{Written}
use Rattle.ji.specs.Utf8.{bytes_of, encode}
use Rattle.ji.specs.Lomaji.Strip.{is_tone_mark, without_marks}
use Rattle.ji.specs.Lomaji.Quick.{Stripping, Further}
use Rattle.ji.specs.declared.lomaji.quick.Marks.{Marks}
use Rattle.ji.proofs.Bools.{false_true}
use Rattle.ji.proofs.Writing.{written_length}
use Rattle.ji.proofs.utf8.Encoding.{bytes_most}
use Rattle.ji.proofs.lomaji.quick.Laws.{written_point, stripping_behind}
use native.Mathlib.Omega.{arith}
use Rattle.ji.proofs.lomaji.quick.push_kept.Goals as goal
use Rattle.ji.proofs.lomaji.quick.push_kept.Goals.{then-marks+then-class-eq0, then-marks+else-class-eq0, else-marks}

-- the bytes of the code point are written
module _ (n : ℕ) (p : Marks) (x : ℕ) (small : x ≤ 0xFFFF) (out out' : List ℕ) (r : ℕ) (er : r ≡ n + length (bytes_of x)) (eo : out' ≡ paste out n (bytes_of x) (length (bytes_of x))) (room : n + 3 ≤ length out) where
  few : r ≤ n + 3
  few = omega (arith, bytes_most x small)

  wrote : (before s : List ℕ) → Stripping before out n p s → Written before out' r (encode (without_marks s ++ (x ∷ [])))
  wrote before s h =
      let size : length out ≡ length before = written_length h.written in
      rw (er, eo) (written_point before out n p s h x (omega (arith, bytes_most x small)))

  mark : is_tone_mark x ≡ false → (class : ℕ) → class ≡ combining_class unicode16 x → (sorted : Bool) → (sorted ≡ true → (p.sorted ≡ true) × ((class ≡ 0) ⊎ (p.class ≤ class)))
      → (r ≤ n + 3) × Further n p r (record p { class = class; sorted = sorted }) out out' (x ∷ [])
  mark kept class is sorted k = (few, λ before s h. stripping_behind before out n p s h x kept _ r (wrote before s h) class is sorted k)

pub put_point-requires : goal.put_point-requires
put_point-requires c = let small : c.args.x ≤ 0xFFFF = omega arith in rw c.from.ensures (small, omega (arith, bytes_most c.args.x small))

pub returns : goal.returns
returns c =
    let a = c.args in
    let w = c.put_point in
    let class = c.class_of-class.result in
    let k : c.if-marks.sorted ≡ true → (a.marks.now.sorted ≡ true) × ((class ≡ 0) ⊎ (a.marks.now.class ≤ class)) =
    elim c.if-marks.branch [
      | then-marks+then-class-eq0 w ↦ λ z. (w.if-marks.true, inl w.if-class-eq0.true)
      | then-marks+else-class-eq0 w ↦ λ z. (w.if-marks.true, inr (leb-true _ _ (sym w.sorted-is ∙ z)))
      | else-marks w ↦ λ z. absurd (false_true (sym w.if-marks.false ∙ sym w.sorted-is ∙ z))
    ] in
    mark a.n a.marks.now a.x (omega (arith, c.ranges.x)) a.out.now _ w.result (w.ensures.0 ∙ ap (λ (x : ℕ). a.n + length (bytes_of x)) c.from.ensures) (w.ensures.1 ∙ ap (λ (x : ℕ). paste a.out.now a.n (bytes_of x) (length (bytes_of x))) c.from.ensures) c.requires.1 c.requires.0 class c.class_of-class.ensures c.if-marks.sorted k
