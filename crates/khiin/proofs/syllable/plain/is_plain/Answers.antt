use mathlib.Core.Path.{◌≡◌, refl, sym, ◌∙◌}
use mathlib.Core.Bool.{Bool, true, false, not}
use Prim.Native.Nat.{ℕ, ◌≤◌}
use borrow.Author.Tests.{ltb-true}
use Rattle.std.specs.Char.{is_ascii}
use Rattle.ji.specs.Text.{points}
use Rattle.ji.proofs.Bools.{false_true}
use Rattle.khiin.proofs.syllable.compose.Pairs.{apart_step, apart_end}
use Rattle.khiin.proofs.syllable.plain.Laws.{ascii_step, ascii_end}
use native.Mathlib.Omega.{arith}
use Rattle.khiin.proofs.syllable.plain.is_plain.Goals as goal

not_true : (b : Bool) → not b ≡ true → b ≡ false
not_true true e = absurd (false_true e)
not_true false e = refl

ascii_byte : (x : ℕ) → is_ascii x ≡ true → x ≤ 0x7F
ascii_byte x e = omega (arith, ltb-true x 128 e)

pub loop-x-preserved : goal.loop-x-preserved
loop-x-preserved c =
    let l = c.loop-x in
    let s = c.args.s.now in (
      l.invariant.0 ∙ ascii_step s l.x-index (omega arith) (ascii_byte _ (sym c.is_ascii.ensures ∙ c.if-not-is_ascii.false)),
      l.invariant.1 ∙ apart_step (points "oOeE") (points "oOuU") l.before s l.x-index (omega arith) (sym c.are_pair.ensures ∙ c.if-are_pair.false),
    )

pub returns : goal.returns
returns c = λ e.
    let l = c.loop-x in
    let s = c.args.s.now in
    record {
      ascii = l.invariant.0 ∙ ascii_end s l.x-index (omega arith);
      apart = l.invariant.1 ∙ apart_end (points "oOeE") (points "oOuU") l.before s l.x-index (omega arith);
      oral = c.ends_in_nn.ensures (not_true _ e);
    }
