use mathlib.Core.Path.{◌≡◌, refl, sym, ap, ◌∙◌}
use mathlib.Core.Bool.{false}
use mathlib.Core.List.{[], ◌∷◌}
use Prim.Native.Nat.{ℕ}
use Rattle.ucd.specs.Full.{full}
use Rattle.ucd.specs.Unicode16.{unicode16}
use Rattle.ji.specs.Lomaji.Strip.{is_tone_mark}
use Rattle.ji.proofs.unicode.Laws.{dot_full}
use Rattle.ji.proofs.lomaji.quick.Laws.{further_same}
use native.Mathlib.Omega.{arith}
use Rattle.ji.proofs.lomaji.quick.push_point.Goals as goal

dot_kept : is_tone_mark 0x0358 ≡ false
unfolding is_tone_mark
dot_kept = refl

pub push_kept-requires : goal.push_kept-requires
push_kept-requires c = (ap is_tone_mark c.if-c-eq856.true ∙ dot_kept, let h = c.requires in omega (arith, h))

pub returns-then-c-eq856 : goal.returns-then-c-eq856
returns-then-c-eq856 c =
    let w = c.push_kept in
    let e = c.if-c-eq856.true in
    (omega (arith, w.ensures.0), further_same (ap (λ (x : ℕ). x ∷ []) e ∙ sym (ap (λ (x : ℕ). full unicode16 (x ∷ [])) e ∙ dot_full)) w.ensures.1)
