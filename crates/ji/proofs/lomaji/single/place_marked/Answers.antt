use mathlib.Core.Path.{◌≡◌, ap, ◌∙◌}
use mathlib.Core.List.{List, [], ◌∷◌, ◌++◌}
use Prim.Native.Nat.{ℕ, ◌+◌, ◌-◌, ◌≤◌}
use lib.ListN.{length, take, drop, set, length-append, length-drop}
use lib.Seq.{append_snoc, length-take-le}
use Rattle.ji.specs.Written.{Written}
use Rattle.ji.specs.Tone.{tone_number}
use Rattle.ji.proofs.Parts.{part, part_is}
use Rattle.ji.proofs.Writing.{written_one, written_behind}
use Rattle.ji.proofs.Replies.{placed_not, placed_written}
use native.Mathlib.Omega.{arith}
use Rattle.ji.proofs.lomaji.single.place_marked.Goals as goal

-- one byte of the letter's two is left
module _ (text : List ℕ) (at base : ℕ) (inside : at + 2 ≤ length text) where
  abbrev left : List ℕ
  left = take at text ++ (base ∷ drop (at + 2) text)

  front_size : length (take at text) ≡ at
  front_size = length-take-le at text (omega arith)

  left_size : length left ≡ length text - 1
  left_size = omega (arith, length-append (take at text) (base ∷ drop (at + 2) text), front_size, length-drop (at + 2) text)

  -- the front is copied, then the base is stored, then what is behind the letter is copied
  module _ (out front : List ℕ) (room : length text - 1 ≤ length out) (w : Written out front (length (take at text)) (take at text)) where
    based : Written out (set front at base) (at + 1) (take at text ++ (base ∷ []))
    based = written_one (rw front_size at w) base (omega arith)

    whole : (rest : List ℕ) → Written (part (set front at base) (at + 1)) rest (length (part text (at + 2))) (part text (at + 2))
        → Written out (take (at + 1) (set front at base) ++ (rest ++ drop (length (set front at base) - (at + 1)) (drop (at + 1) (set front at base)))) (length text - 1) left
    whole rest v =
        let size : at + 1 + length (part text (at + 2)) ≡ length text - 1 = omega (arith, ap length (part_is text (at + 2)), length-drop (at + 2) text) in
        let is : take at text ++ (base ∷ []) ++ part text (at + 2) ≡ left = append_snoc (take at text) base (part text (at + 2)) ∙ ap (λ (l : List ℕ). take at text ++ (base ∷ l)) (part_is text (at + 2)) in
        rw (← size, ← is) (written_behind based v)

pub returns-then-out-len : goal.returns-then-out-len
returns-then-out-len c =
    let a = c.args in
    placed_not (tone_number a.letter.tone) _ a.out.now (omega (arith, left_size a.text.now a.at a.letter.ascii c.requires.0))

pub returns : goal.returns
returns c =
    let a = c.args in
    placed_written (tone_number a.letter.tone) (left a.text.now a.at a.letter.ascii c.requires.0) a.out.now _ _
    (whole a.text.now a.at a.letter.ascii c.requires.0 a.out.now c.copy.new.out c.if-out-len.false c.copy.ensures c.copy-2.new.out c.copy-2.ensures)
