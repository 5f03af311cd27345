use mathlib.Core.Path.{◌≡◌, ap, ap₂, ◌∙◌}
use mathlib.Core.List.{List}
use Prim.Native.Nat.{ℕ, ◌+◌, ◌<◌}
use native.Mathlib.Omega.{arith}
use lib.ListN.{length, drop, get_or, set, length-drop, length-set}
use Rattle.ji.proofs.Parts.{part_is}
use Rattle.ucd.specs.Table.{combining_class}
use Rattle.ucd.specs.Unicode16.{unicode16}
use Rattle.ji.proofs.OrderLoops.{passed, passed_within, moved_more, moved_end}
use Rattle.ji.proofs.nfd.insert.Goals as goal
use Rattle.ji.proofs.nfd.insert.Goals.{After-passed}

module _ (c : After-passed) where
  abbrev s : List ℕ
  s = c.args.s.now

  abbrev rest : List ℕ
  rest = drop (c.args.i + 1) s

  number : c.passed.result ≡ passed unicode16 (combining_class unicode16 (get_or s c.args.i 0)) rest
  number = c.passed.ensures ∙ ap₂ (passed unicode16) c.class_of.ensures (part_is s (c.args.i + 1))

  inside : c.args.i + c.passed.result < length s
  inside = omega (arith, number, passed_within unicode16 (combining_class unicode16 (get_or s c.args.i 0)) rest, length-drop (c.args.i + 1) s)

pub overflow_add-end : goal.overflow_add-end
overflow_add-end c = omega (arith, inside (goal.at.overflow_add-end c).After-passed)

pub bounds-s-j : goal.bounds-s-j
bounds-s-j c = omega (arith, inside (goal.at.bounds-s-j c).After-passed)

pub loop-j-preserved : goal.loop-j-preserved
loop-j-preserved c =
    let l = c.loop-j in
    let a = c.args in
    let more : l.j + 1 < length a.s.now = omega (arith, inside (goal.at.loop-j-preserved c).After-passed) in (
      simp length-set (omega arith),
      ap (λ (t : List ℕ). set t l.j (get_or t (l.j + 1) 0)) l.invariant.1 ∙ moved_more a.s.now a.i l.j (omega arith) (omega arith) more,
    )

pub returns : goal.returns
returns c =
    let l = c.loop-j in
    let a = c.args in
    let end : a.i + c.passed.result ≡ l.j = omega arith in
    ap₂ (λ (t : List ℕ) (j : ℕ). set t j (get_or a.s.now a.i 0)) l.invariant.1 end
    ∙ moved_end unicode16 a.s.now a.i l.j c.requires (omega (arith, number (goal.at.returns c).After-passed))
