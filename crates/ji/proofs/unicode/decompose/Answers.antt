use mathlib.Core.Path.{◌≡◌, sym, ap, ◌∙◌}
use mathlib.Core.Bool.{true}
use mathlib.Core.List.{List, [], ◌∷◌, ◌++◌}
use Prim.Native.Nat.{ℕ, ◌+◌, ◌≤◌, ◌<◌}
use lib.ListN.{length, drop, get_or, drop_of_length-le}
use Rattle.ucd.specs.Full.{full}
use Rattle.ucd.specs.Unicode16.{unicode16}
use Rattle.ucd.proofs.Unicode16.{full_length}
use Rattle.ji.specs.Unicode.{spread}
use Rattle.ji.specs.Reading.{spread_text}
use Rattle.ji.specs.declared.unicode.Spread.{Spread}
use Rattle.ji.proofs.Writing.{written_length}
use Rattle.ji.proofs.Underway.{underway_start, underway_run, underway_end}
use Rattle.ji.proofs.Decomposition.{full_nil, full_append}
use Rattle.ji.proofs.text.Laws.{drop_next}
use Rattle.ji.proofs.unicode.Laws.{spread_full}
use native.Mathlib.Omega.{arith}
use Rattle.ji.proofs.unicode.decompose.Goals as goal

ended : (s : List ℕ) (i : ℕ) → length s ≤ i → full unicode16 (drop i s) ≡ []
ended s i h = ap (full unicode16) (drop_of_length-le s h) ∙ full_nil unicode16

-- the next piece
module _ (s : List ℕ) (i : ℕ) (h : i < length s) (x : Spread) (e : spread_text x ≡ spread unicode16 true (get_or s i 0 ∷ [])) where
  text : spread_text x ≡ full unicode16 (get_or s i 0 ∷ [])
  text = e ∙ spread_full unicode16 (get_or s i 0 ∷ [])

  few : length (spread_text x) ≤ 3
  few = rw text (full_length (get_or s i 0))

  piece : full unicode16 (drop i s) ≡ spread_text x ++ full unicode16 (drop (i + 1) s)
  piece = ap (full unicode16) (drop_next s i h) ∙ full_append unicode16 (get_or s i 0 ∷ []) (drop (i + 1) s) ∙ ap (λ (u : List ℕ). u ++ full unicode16 (drop (i + 1) s)) (sym text)

pub loop-c-init : goal.loop-c-init
loop-c-init c = let a = c.args in (underway_start (full unicode16) a.s.now a.out.now, omega arith)

pub put-n-requires : goal.put-n-requires
put-n-requires c =
    let l = c.loop-c in
    let h = few c.args.s.now l.c-index (omega arith) c.spread_point.result c.spread_point.ensures in
    let w = written_length l.invariant.0.written in
    omega arith

pub loop-c-preserved : goal.loop-c-preserved
loop-c-preserved c =
    let l = c.loop-c in
    let a = c.args in
    let x = c.spread_point in
    let more : l.c-index < length a.s.now = omega arith in
    let h = few a.s.now l.c-index more x.result x.ensures in
    let q = c.put-n in (
      rw (q.ensures.0, q.ensures.1) (underway_run l.invariant.0 (l.c-index + 1) (spread_text x.result) (piece a.s.now l.c-index more x.result x.ensures) (omega arith) (omega arith)),
      omega (arith, q.ensures.0),
    )

pub returns : goal.returns
returns c =
    let a = c.args in
    underway_end c.loop-c.invariant.0 (ended a.s.now c.loop-c.c-index (omega arith))
