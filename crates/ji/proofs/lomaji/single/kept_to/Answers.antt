use mathlib.Core.Path.{◌≡◌, refl}
use mathlib.Core.Logic.{inl, inr}
use Prim.Native.Nat.{◌+◌, ◌≤◌}
use lib.ListN.{length, get_or}
use Rattle.ji.proofs.Parts.{part}
use Rattle.ji.proofs.lomaji.single.Laws.{dot_at, nasal_at, kept_more, kept_on}
use native.Mathlib.Omega.{arith}
use Rattle.ji.proofs.lomaji.single.kept_to.Goals as goal
use Rattle.ji.proofs.lomaji.single.kept_to.Goals.{then-this-lt3+in-205+in-152-1, else-this-lt3+in-205+in-152-1}

pub loop-i-preserved-in-191-1 : goal.loop-i-preserved-in-191-1
loop-i-preserved-in-191-1 c =
    let s = c.args.s.now in
    let i = c.loop-i.i in
    let r = c.ascii_to-i-in-226 in
    let first : get_or (part s i) 0 0 ≡ 0xE2 = omega arith in
    let second : get_or (part s i) 1 0 ≡ 0x81 = omega arith in
    let third : get_or (part s i) 2 0 ≡ 0xBF = omega arith in
    (r.ensures.1, kept_on s c.args.from (i + 3) r.result (kept_more s c.args.from i (i + 3) 0x207F c.loop-i.invariant.1 (inr (inr refl)) (nasal_at s i c.in-226.len_at_least first second third)) r.ensures.2)

pub loop-i-preserved : goal.loop-i-preserved
loop-i-preserved c =
    let s = c.args.s.now in
    let i = c.loop-i.i in
    let r = c.ascii_to-i-in-205 in
    let some : 2 ≤ length (part s i) = omega arith in
    let first : get_or (part s i) 0 0 ≡ 0xCD = elim c.in-205-1.branch [ then-this-lt3+in-205+in-152-1 w ↦ omega arith | else-this-lt3+in-205+in-152-1 w ↦ omega arith ] in
    let second : get_or (part s i) 1 0 ≡ 0x98 = elim c.in-205-1.branch [ then-this-lt3+in-205+in-152-1 w ↦ omega arith | else-this-lt3+in-205+in-152-1 w ↦ omega arith ] in
    (r.ensures.1, kept_on s c.args.from (i + 2) r.result (kept_more s c.args.from i (i + 2) 0x0358 c.loop-i.invariant.1 (inr (inl refl)) (dot_at s i some first second)) r.ensures.2)
