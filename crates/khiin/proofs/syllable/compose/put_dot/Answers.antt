use mathlib.Core.Path.{◌≡◌, sym, ap, ◌∙◌, subst}
use mathlib.Core.List.{List, ◌∷◌, ◌++◌}
use Prim.Native.Nat.{ℕ, ◌+◌, ◌≤◌, ◌<◌}
use lib.ListN.{length, take, drop, length-append, length-drop}
use lib.Seq.{length-take-le}
use Rattle.std.specs.Prelude.{Option, Some}
use Rattle.ji.specs.Lomaji.Keys.{respell}
use Rattle.khiin.specs.Syllable.{o_rules}
use Rattle.khiin.specs.Compose.{Front, DotAt}
use Rattle.khiin.proofs.syllable.marking.Letters.{marked_part}
use native.Mathlib.Omega.{arith}
use Rattle.khiin.proofs.syllable.compose.put_dot.Goals as goal

dot_some : (s : List ℕ) (n at : ℕ) → n < length s → DotAt (Some at) (take n s) → {buffer : List ℕ} → take (n + 1) buffer ≡ take at (take n s) ++ (0x0358 ∷ drop at (take n s))
    → Front buffer (n + 1) (respell o_rules (take n s)) × (n + 1 ≤ n + 1)
dot_some s n at h b {buffer} e =
    let t : List ℕ = take n s in
    let size : length (take at t ++ (0x0358 ∷ drop at t)) ≡ n + 1 = omega (arith, length-append (take at t) (0x0358 ∷ drop at t), length-take-le at t b.0, length-drop at t, b.0, length-take-le n s (omega arith)) in
    (record { is = e ∙ sym b.1; size = ap length b.1 ∙ size }, omega arith)

pub returns-in-Some : goal.returns-in-Some
returns-in-Some c =
    let s = c.args.s.now in
    let n = c.args.n in
    let b = subst (λ (r : Option ℕ). DotAt r (take n s)) c.in-Some.is (c.dot_place.ensures c.requires.1) in
    dot_some s n c.in-Some.at c.requires.0 b
    (marked_part s n c.in-Some.at 0x0358 c.requires.0 (omega (arith, b.0, length-take-le n s (omega (arith, c.requires.0)))) c.insert_mark.ensures c.insert_mark.auto.s _)
