use mathlib.Core.Path.{◌≡◌, sym, ap, ◌∙◌}
use mathlib.Core.List.{List, [], ◌∷◌}
use Prim.Native.Nat.{ℕ, ◌+◌, ◌<◌}
use lib.ListN.{length, drop, get_or, set}
use Rattle.ji.specs.Text.{replace_all}
use Rattle.ji.proofs.text.Laws.{drop_next, replace_point, replace_other, replace_end}
use Rattle.khiin.proofs.syllable.compose.Laws.{Walk, walk_length, walk_here, walk_one, walk_past, walk_end}
use native.Mathlib.Omega.{arith}
use Rattle.khiin.proofs.syllable.compose.take_out.Goals as goal
use Rattle.khiin.proofs.syllable.compose.take_out.Goals.{then-s-i, else-s-i}

module _ (c : ℕ) {s₀ s : List ℕ} {i n : ℕ} (v : Walk (replace_all (c ∷ []) []) s₀ s i n) (h : i < length s) where
  here : drop i s₀ ≡ get_or s i 0 ∷ drop (i + 1) s₀
  here = drop_next s₀ i (omega (arith, walk_length v)) ∙ ap (λ (x : ℕ). x ∷ drop (i + 1) s₀) (sym (walk_here v))

  out : get_or s i 0 ≡ c → Walk (replace_all (c ∷ []) []) s₀ s (i + 1) n
  out e = walk_past v (i + 1) (ap (replace_all (c ∷ []) []) here ∙ replace_point c [] (get_or s i 0) (drop (i + 1) s₀) e) (omega arith) (omega arith)

  kept : (get_or s i 0 ≡ c → ⊥) → Walk (replace_all (c ∷ []) []) s₀ (set s n (get_or s i 0)) (i + 1) (n + 1)
  kept e =
      walk_one v (i + 1) (get_or s i 0) (ap (replace_all (c ∷ []) []) here ∙ replace_other c [] (get_or s i 0) (drop (i + 1) s₀) e) (omega arith) (omega arith)

pub loop-i-preserved : goal.loop-i-preserved
loop-i-preserved c =
    elim c.if-s-i.branch [
      | then-s-i w ↦ rw (w.s-is, w.n-is) (kept c.args.c c.loop-i.invariant (omega arith) w.if-s-i.true)
      | else-s-i w ↦ rw (w.s-is, w.n-is) (out c.args.c c.loop-i.invariant (omega arith) w.if-s-i.false)
    ]

pub returns : goal.returns
returns c =
    let v = c.loop-i.invariant in
    walk_end v (replace_end (c.args.c ∷ []) [] c.args.s.now c.loop-i.i (omega (arith, walk_length v)))
