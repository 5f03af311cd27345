-- `lomaji::keys::respell_nasals` meets its contract. The loop's invariant: what the two passes make of the text so far is written up to n.
use mathlib.Core.Path.{◌≡◌, ap, ◌∙◌}
use mathlib.Core.List.{List, [], ◌∷◌, ◌++◌}
use Prim.Native.Nat.{ℕ, ◌+◌, ◌≤◌, ◌<◌}
use native.Mathlib.Omega.{arith}
use lib.ListN.{length, drop, get_or, set, drop_of_length-le}
use lib.Seq.{paste}
use Rattle.ji.specs.Text.{point, points}
use Rattle.ji.proofs.Writing.{written_length}
use Rattle.ji.proofs.Underway.{Underway, underway_start, underway_room, underway_run, underway_one, underway_end}
use Rattle.ji.proofs.text.Laws.{drop_next, points_first, points_second, points_other}
use Rattle.ji.proofs.lomaji.keys.Laws.{nasals_apart, nasals_end}
use Rattle.ji.proofs.lomaji.keys.respell_nasals.Invariants.{nasals}
use Rattle.ji.proofs.lomaji.keys.respell_nasals.Goals as goal
use Rattle.ji.proofs.lomaji.keys.respell_nasals.Goals.{In-loop-c, in-8319, in-7482, in_default}

-- a turn of the loop, at the code point x
module _ (c : In-loop-c) where
  abbrev src : List ℕ
  src = c.args.src.now

  abbrev out : List ℕ
  out = c.loop-c.out

  abbrev i : ℕ
  i = c.loop-c.c-index

  abbrev j : ℕ
  j = c.loop-c.n

  abbrev x : ℕ
  x = get_or src i 0

  abbrev Goes : List ℕ → ℕ → ℕ → Type 0
  Goes out i j = Underway nasals src c.args.out.now out i j

  h : Goes out i j
  h = c.loop-c.invariant

  out_length : length out ≡ length c.args.out.now
  out_length = written_length h.written

  abbrev Piece : List ℕ → Type 0
  Piece u = nasals (drop i src) ≡ u ++ nasals (drop (i + 1) src)

  -- what x becomes
  piece : (u : List ℕ) → ((s : List ℕ) → nasals (x ∷ s) ≡ u ++ nasals s) → Piece u
  piece u e = ap nasals (drop_next src i c.loop-c-test.true) ∙ e (drop (i + 1) src)

  small_piece : x ≡ point "ⁿ" → Piece (points "nn")
  small_piece e = piece (points "nn") (λ s. points_first (point "ⁿ") (points "nn") (point "ᴺ") (points "NN") nasals_apart x s e)

  capital_piece : (x ≡ point "ⁿ" → ⊥) → x ≡ point "ᴺ" → Piece (points "NN")
  capital_piece ne e = piece (points "NN") (λ s. points_second (point "ⁿ") (points "nn") (point "ᴺ") (points "NN") nasals_apart x s ne e)

  other_piece : (x ≡ point "ⁿ" → ⊥) → (x ≡ point "ᴺ" → ⊥) → Piece (x ∷ [])
  other_piece ne ne' = piece (x ∷ []) (λ s. points_other (point "ⁿ") (points "nn") (point "ᴺ") (points "NN") nasals_apart x s ne ne')

  room : (u : List ℕ) → Piece u → j + length u ≤ length out
  room u e = rw out_length (underway_room h (i + 1) u e c.requires)

  ran : (u : List ℕ) → Piece u → (r : ℕ) (out' : List ℕ) → r ≡ j + length u → out' ≡ paste out j u (length u) → Goes out' (i + 1) r
  ran u e r out' is_r is_out = rw (is_r, is_out) (underway_run h (i + 1) u e (omega arith) (rw out_length at (room u e)))

  one_room : Piece (x ∷ []) → j < length out
  one_room e = omega (arith, room (x ∷ []) e)

  one : Piece (x ∷ []) → Goes (set out j x) (i + 1) (j + 1)
  one e = underway_one h (i + 1) x e (omega arith) (rw out_length at (one_room e))

pub loop-c-init : goal.loop-c-init
loop-c-init c = let a = c.args in underway_start nasals a.src.now a.out.now

pub put-n-requires : goal.put-n-requires
put-n-requires c = room (goal.at.put-n-requires c).In-loop-c (points "nn") (small_piece (goal.at.put-n-requires c).In-loop-c c.in-8319.is)

pub put-n-requires-in-7482 : goal.put-n-requires-in-7482
put-n-requires-in-7482 c =
    room (goal.at.put-n-requires-in-7482 c).In-loop-c (points "NN") (capital_piece (goal.at.put-n-requires-in-7482 c).In-loop-c (λ e. omega arith) c.in-7482.is)

pub bounds-out-n : goal.bounds-out-n
bounds-out-n c = one_room (goal.at.bounds-out-n c).In-loop-c (other_piece (goal.at.bounds-out-n c).In-loop-c (λ e. omega arith) (λ e. omega arith))

pub loop-c-preserved : goal.loop-c-preserved
loop-c-preserved c =
    let l = (goal.at.loop-c-preserved c).In-loop-c in
    elim c.match-c.branch [
      | in-8319 w ↦ let put = w.put-n in rw (w.out-is, w.n-is) (ran l (points "nn") (small_piece l w.in-8319.is) put.result put.new.out put.ensures.0 put.ensures.1)
      | in-7482 w ↦ let put = w.put-n-in-7482 in rw (w.out-is, w.n-is) (ran l (points "NN") (capital_piece l (λ e. omega arith) w.in-7482.is) put.result put.new.out put.ensures.0 put.ensures.1)
      | in_default w ↦ rw (w.out-is, w.n-is) (one l (other_piece l (λ e. omega arith) (λ e. omega arith)))
    ]

pub returns : goal.returns
returns c =
    let l = c.loop-c in
    let a = c.args in
    let read : length a.src.now ≤ l.c-index = omega arith in
    underway_end l.invariant (ap nasals (drop_of_length-le a.src.now read) ∙ nasals_end)
