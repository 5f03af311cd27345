use mathlib.Core.Path.{◌≡◌, sym, ap, ◌∙◌, subst}
use mathlib.Core.Bool.{true, false}
use mathlib.Core.List.{List, [], ◌∷◌, ◌++◌, append_assoc, append-nil}
use Prim.Native.Nat.{ℕ, ◌+◌, ◌-◌, ◌≤◌, ◌<◌}
use lib.ListN.{length, drop, get_or, set}
use Rattle.ji.specs.Written.{Written}
use Rattle.ji.specs.Tone.{is_tone}
use Rattle.ji.specs.Lomaji.Strip.{mark_tone, is_tone_mark, without_marks, dropped_marks, last_tone}
use Rattle.ji.specs.declared.tone.Tone.{Tone}
use Rattle.ji.specs.declared.tone.Tone.TheVariants.{None}
use Rattle.ji.proofs.Writing.{written_one, written_rest, written_length}
use Rattle.ji.proofs.lomaji.strip.Laws.{mark_is, without_kept, without_dropped, marks_kept, marks_dropped, without_end, marks_end, last_none, last_more}
use native.Mathlib.Omega.{arith}
use Rattle.ji.proofs.lomaji.strip.drop_marks.Goals as goal
use Rattle.ji.proofs.lomaji.strip.drop_marks.Goals.{then-is_tone, else-is_tone}

module _ (s₀ s : List ℕ) (i n : ℕ) (last : Tone) (v : ((n ≤ i) × (w : List ℕ) × Written s₀ s n w × (w ++ without_marks (drop i s₀) ≡ without_marks s₀) × (last_tone last (dropped_marks (drop i s₀)) ≡ last_tone None (dropped_marks s₀)))) (h : i < length s) where
  shorter : i < length s₀
  shorter = omega (arith, written_length v.2)

  -- what stands at i has not been written over
  unread : get_or s i 0 ≡ get_or s₀ i 0
  unread = let k : n + (i - n) ≡ i = omega arith in subst (λ (j : ℕ). get_or s j 0 ≡ get_or s₀ j 0) k (written_rest v.2 (i - n))

  -- a mark is dropped ..
  module _ (t : Tone) (e : t ≡ mark_tone (get_or s i 0)) (m : is_tone t ≡ true) where
    is_mark : is_tone_mark (get_or s₀ i 0) ≡ true
    is_mark = mark_is (get_or s₀ i 0) ∙ ap (λ (c : ℕ). is_tone (mark_tone c)) (sym unread) ∙ ap is_tone (sym e) ∙ m

    drops : ((n ≤ (i + 1)) × (w : List ℕ) × Written s₀ s n w × (w ++ without_marks (drop (i + 1) s₀) ≡ without_marks s₀) × (last_tone t (dropped_marks (drop (i + 1) s₀)) ≡ last_tone None (dropped_marks s₀)))
    drops = (
      omega arith,
      v.1,
      v.2,
      ap (λ (l : List ℕ). v.1 ++ l) (sym (without_dropped s₀ i shorter is_mark)) ∙ v.3,
      rw (e, unread) (sym (last_more last (get_or s₀ i 0) (dropped_marks (drop (i + 1) s₀))) ∙ ap (last_tone last) (sym (marks_dropped s₀ i shorter is_mark))) ∙ v.4,
    )

  -- .. and anything else kept
  module _ (t : Tone) (e : t ≡ mark_tone (get_or s i 0)) (m : is_tone t ≡ false) where
    no_tone : is_tone_mark (get_or s₀ i 0) ≡ false
    no_tone = mark_is (get_or s₀ i 0) ∙ ap (λ (c : ℕ). is_tone (mark_tone c)) (sym unread) ∙ ap is_tone (sym e) ∙ m

    keeps : (((n + 1) ≤ (i + 1)) × (w : List ℕ) × Written s₀ (set s n (get_or s i 0)) (n + 1) w × (w ++ without_marks (drop (i + 1) s₀) ≡ without_marks s₀) × (last_tone last (dropped_marks (drop (i + 1) s₀)) ≡ last_tone None (dropped_marks s₀)))
    keeps = (
      omega arith,
      v.1 ++ (get_or s i 0 ∷ []),
      written_one v.2 (get_or s i 0) (omega (arith, shorter)),
      append_assoc v.1 (get_or s i 0 ∷ []) (without_marks (drop (i + 1) s₀)) ∙ ap (λ (c : ℕ). v.1 ++ (c ∷ without_marks (drop (i + 1) s₀))) unread ∙ ap (λ (l : List ℕ). v.1 ++ l) (sym (without_kept s₀ i shorter no_tone)) ∙ v.3,
      ap (last_tone last) (sym (marks_kept s₀ i shorter no_tone)) ∙ v.4,
    )

pub loop-i-preserved : goal.loop-i-preserved
loop-i-preserved c =
    let v = c.loop-i.invariant in
    let h : c.loop-i.i < length c.loop-i.s = omega (arith, written_length v.2) in
    elim c.if-is_tone.branch [
      | then-is_tone w ↦ rw (w.s-is, w.left-is, w.tone-is) (drops c.args.s.now c.loop-i.s c.loop-i.i c.loop-i.left c.loop-i.tone v h _ c.mark_tone-mark.ensures (sym c.is_tone.ensures ∙ w.if-is_tone.true))
      | else-is_tone w ↦ rw (w.s-is, w.left-is, w.tone-is) (keeps c.args.s.now c.loop-i.s c.loop-i.i c.loop-i.left c.loop-i.tone v h _ c.mark_tone-mark.ensures (sym c.is_tone.ensures ∙ w.if-is_tone.false))
    ]

pub returns : goal.returns
returns c =
    let v = c.loop-i.invariant in
    let s₀ = c.args.s.now in
    let h : length s₀ ≤ c.loop-i.i = omega (arith, written_length v.2) in (
      rw (← v.3, without_end s₀ c.loop-i.i h, append-nil v.1) v.2,
      sym (ap (last_tone c.loop-i.tone) (marks_end s₀ c.loop-i.i h) ∙ last_none c.loop-i.tone) ∙ v.4,
    )
