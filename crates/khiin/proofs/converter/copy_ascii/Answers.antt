use mathlib.Core.Path.{◌≡◌, sym, ap, ◌∙◌}
use mathlib.Core.List.{List}
use Prim.Native.Nat.{ℕ, ◌+◌, ◌≤◌, ◌<◌}
use borrow.Author.Tests.{ltb-true}
use lib.ListN.{length, drop, take, get_or, drop_of_length-le}
use Rattle.ji.specs.Text.{all_ascii}
use Rattle.ji.proofs.Bools.{false_true}
use Rattle.ji.proofs.Writing.{written_length, written_take}
use Rattle.ji.proofs.Underway.{underway_start, underway_one, underway_end}
use Rattle.ji.proofs.unicode.Ascii.{ascii_nil, ascii_more}
use Rattle.ji.proofs.text.Laws.{drop_next}
use native.Mathlib.Omega.{arith}
use Rattle.khiin.proofs.converter.copy_ascii.Goals as goal

pub loop-i-init : goal.loop-i-init
loop-i-init c = let a = c.args in (underway_start (λ (l : List ℕ). l) a.text.now a.bytes.now, λ e. e)

pub returns-then-not-is_ascii : goal.returns-then-not-is_ascii
returns-then-not-is_ascii c = λ e. absurd (false_true e)

pub bounds-bytes-i : goal.bounds-bytes-i
bounds-bytes-i c = omega (arith, written_length c.loop-i.invariant.0.written, c.requires)

pub loop-i-preserved : goal.loop-i-preserved
loop-i-preserved c =
    let a = c.args in
    let i = c.loop-i.i in
    let h : i < length a.text.now = omega arith in
    let low : get_or a.text.now i 0 ≤ 0x7F = omega (arith, ltb-true _ _ (sym c.is_ascii.ensures ∙ c.if-not-is_ascii.false)) in
    let next = drop_next a.text.now i h in (
      underway_one c.loop-i.invariant.0 (i + 1) (get_or a.text.now i 0) next (omega arith) (omega (arith, c.requires)),
      λ e. c.loop-i.invariant.1 (ap all_ascii next ∙ ascii_more (get_or a.text.now i 0) (drop (i + 1) a.text.now) low e),
    )

pub returns : goal.returns
returns c =
    let a = c.args in
    let e : length a.text.now ≡ c.loop-i.i = omega arith in
    let none = drop_of_length-le a.text.now {i = c.loop-i.i} (omega arith) in
    λ _. (c.loop-i.invariant.1 (ap all_ascii none ∙ ascii_nil), ap (λ (k : ℕ). take k c.loop-i.bytes) e ∙ written_take (underway_end c.loop-i.invariant.0 none))
