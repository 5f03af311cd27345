use mathlib.Core.Path.{◌≡◌, sym, ap, ◌∙◌}
use mathlib.Core.Bool.{Bool, true, false}
use mathlib.Core.List.{List, [], ◌∷◌}
use Prim.Native.Nat.{ℕ, ◌+◌, ◌-◌, ◌≤◌, ◌<◌}
use lib.Dec.{eqb}
use lib.Seq.{take_all}
use Rattle.std.specs.List.{starts_with}
use lib.ListN.{length, take, drop, get_or, set, length-drop}
use Rattle.ji.specs.Text.{begins, replace_all}
use Rattle.ji.proofs.text.Laws.{begins_length, replace_at_hit, replace_at_miss}
use Rattle.khiin.proofs.syllable.compose.Laws.{begins_told, Walk, walk_length, walk_unread, walk_here, walk_one}
use native.Mathlib.Omega.{arith}
use Rattle.khiin.proofs.syllable.compose.shrink_pair.Goals as goal

module _ (a b c : ℕ) {s₀ s : List ℕ} {i n : ℕ} (v : Walk (replace_all (a ∷ b ∷ []) (c ∷ [])) s₀ s i n) where
  two_inside : begins (a ∷ b ∷ []) (drop i s) ≡ true → i + 2 ≤ length s
  two_inside e = omega (arith, begins_length (a ∷ b ∷ []) (drop i s) e, length-drop i s)

  module _ (h : i < length s) where
    hit : begins (a ∷ b ∷ []) (drop i s) ≡ true → Walk (replace_all (a ∷ b ∷ []) (c ∷ [])) s₀ (set s n c) (i + 2) (n + 1)
    hit e =
        walk_one v (i + 2) c
        (replace_at_hit (a ∷ b ∷ []) (c ∷ []) s₀ i (omega arith) (omega (arith, walk_length v)) (ap (begins (a ∷ b ∷ [])) (sym (walk_unread v)) ∙ e))
        (omega arith) (two_inside e)

    miss : begins (a ∷ b ∷ []) (drop i s) ≡ false → Walk (replace_all (a ∷ b ∷ []) (c ∷ [])) s₀ (set s n (get_or s i 0)) (i + 1) (n + 1)
    miss e =
        rw (walk_here v)
        (walk_one v (i + 1) (get_or s₀ i 0)
        (replace_at_miss (a ∷ b ∷ []) (c ∷ []) s₀ i (omega (arith, walk_length v)) (ap (begins (a ∷ b ∷ [])) (sym (walk_unread v)) ∙ e))
        (omega arith) (omega arith))

-- what was said of the part from i on
told : (a b : ℕ) (s : List ℕ) (i : ℕ) {r x : Bool} → r ≡ starts_with eqb (take (length s - i) (drop i s)) (a ∷ b ∷ []) → r ≡ x → begins (a ∷ b ∷ []) (drop i s) ≡ x
told a b s i e is =
    ap (begins (a ∷ b ∷ [])) (sym (take_all (length s - i) (drop i s) (omega (arith, length-drop i s)))) ∙ sym (begins_told (a ∷ b ∷ []) (take (length s - i) (drop i s))) ∙ sym e ∙ is

pub loop-i-preserved-then-starts_with : goal.loop-i-preserved-then-starts_with
loop-i-preserved-then-starts_with c = let a = c.args in hit a.a a.b a.c c.loop-i.invariant c.loop-i-test.true (told c.args.a c.args.b _ c.loop-i.i c.starts_with.ensures.value c.if-starts_with.true)

pub loop-i-preserved : goal.loop-i-preserved
loop-i-preserved c = let a = c.args in miss a.a a.b a.c c.loop-i.invariant c.loop-i-test.true (told c.args.a c.args.b _ c.loop-i.i c.starts_with.ensures.value c.if-starts_with.false)
