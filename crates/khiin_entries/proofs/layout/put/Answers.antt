-- `layout::put` meets its contract.
use mathlib.Core.Path.{◌≡◌, refl, sym, ap, ◌∙◌}
use mathlib.Core.List.{List}
use Prim.Native.Nat.{ℕ, ◌+◌}
use native.Mathlib.Numerals.{add-one}
use native.Mathlib.Omega.{arith}
use lib.ListN.{length, get_or, set, length-set}
use lib.Seq.{paste, paste-zero, paste-suc}
use Rattle.khiin_entries.proofs.layout.put.Goals as goal

pub loop-i-init : goal.loop-i-init
loop-i-init c = (refl, paste-zero c.args.out.now c.args.at c.args.src.now)

pub loop-i-preserved : goal.loop-i-preserved
loop-i-preserved c =
    let l = c.loop-i in
    let a = c.args in (
      simp length-set (omega arith),
      ap (λ (t : List ℕ). set t (a.at + l.i) (get_or a.src.now l.i 0)) l.invariant.1
          ∙ paste-suc a.out.now a.at a.src.now l.i 0 (omega arith) (omega arith)
          ∙ ap (paste a.out.now a.at a.src.now) (sym (add-one l.i)),
    )

pub returns : goal.returns
returns c =
    let l = c.loop-i in
    let a = c.args in
    l.invariant.1 ∙ ap (paste a.out.now a.at a.src.now) (let z : l.i ≡ length a.src.now = omega arith in z)
