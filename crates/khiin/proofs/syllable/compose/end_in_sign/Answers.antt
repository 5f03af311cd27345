use mathlib.Core.Path.{◌≡◌, sym, subst}
use mathlib.Core.List.{List, [], ◌∷◌, ◌++◌}
use Prim.Native.Nat.{ℕ, ◌-◌, ◌≤◌}
use lib.ListN.{length, take, set}
use Rattle.ji.specs.Lomaji.Keys.{respell}
use Rattle.khiin.specs.Syllable.{nasal_rules}
use Rattle.khiin.specs.Compose.{Front}
use Rattle.khiin.proofs.syllable.compose.Once.{nasal_three, end_capital, end_small, front_signed}
use Rattle.khiin.proofs.syllable.compose.end_in_sign.Goals as goal
use Rattle.khiin.proofs.syllable.compose.end_in_sign.Goals.{then-s-n-eq-CAPITAL_N+then-s-n-eq-CAPITAL_N-2, else-s-n-eq-CAPITAL_N, else-s-n-eq-CAPITAL_N-via-then-s-n-eq-CAPITAL_N+else-s-n-eq-CAPITAL_N-2, else-s-n-eq-CAPITAL_N-via-else-s-n-eq-CAPITAL_N}

signed : (s : List ℕ) (sign : ℕ) → 3 ≤ length s → respell nasal_rules s ≡ take (length s - 2) s ++ (sign ∷ []) → Front (set s (length s - 2) sign) (length s - 1) (respell nasal_rules s)
signed s sign h e = subst (Front (set s (length s - 2) sign) (length s - 1)) (sym e) (front_signed s sign h)

pub returns : goal.returns
returns c =
    let s = c.args.s.now in
    let three = nasal_three s c.requires.0 in
    elim c.if-s-n-eq-CAPITAL_N.branch [
      | then-s-n-eq-CAPITAL_N+then-s-n-eq-CAPITAL_N-2 w ↦ rw w.sign-is (signed s 0x1D3A three (end_capital s c.requires.0 c.requires.1 w.if-s-n-eq-CAPITAL_N.true w.if-s-n-eq-CAPITAL_N-2.true))
      | else-s-n-eq-CAPITAL_N w ↦
          rw w.sign-is
          (signed s 0x207F three
          (end_small s c.requires.0 c.requires.1 (λ f g. elim w.else-s-n-eq-CAPITAL_N.branch [
            | else-s-n-eq-CAPITAL_N-via-then-s-n-eq-CAPITAL_N+else-s-n-eq-CAPITAL_N-2 v ↦ v.if-s-n-eq-CAPITAL_N-2.false g
            | else-s-n-eq-CAPITAL_N-via-else-s-n-eq-CAPITAL_N v ↦ v.if-s-n-eq-CAPITAL_N.false f
          ])))
    ]
