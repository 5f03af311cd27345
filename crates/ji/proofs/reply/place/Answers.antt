use mathlib.Core.Path.{◌≡◌, sym, ◌∙◌}
use mathlib.Core.Bool.{true, false}
use Prim.Native.Nat.{ℕ, ◌≤◌, ◌<◌}
use borrow.Author.Tests.{leb-true, leb-false}
use lib.ListN.{length}
use Rattle.ji.specs.Utf8.{encode}
use Rattle.ji.proofs.Replies.{placed_not, placed_written}
use Rattle.ji.proofs.utf8.Encoding.{encode_most}
use native.Mathlib.Omega.{arith}
use Rattle.ji.proofs.reply.place.Goals as goal
use Rattle.ji.proofs.reply.place.Goals.{Joined-s-out, then-s-out, else-s-out}

module _ (c : Joined-s-out) where
  abbrev size : ℕ
  size = length (encode c.args.s.now)

  enough : c.if-s-out.value ≡ true → size ≤ length c.args.out.now
  enough e =
      elim c.if-s-out.branch [
        | then-s-out w ↦ omega (arith, encode_most c.args.s.now (λ i. omega (arith, c.type_inv.s i)))
        | else-s-out w ↦ leb-true _ _ (sym w.fits.ensures ∙ sym w.value-is ∙ e)
      ]

  short : c.if-s-out.value ≡ false → length c.args.out.now < size
  short e =
      elim c.if-s-out.branch [
        | then-s-out w ↦ absurd (omega (arith, leb-false _ _ (sym w.value-is ∙ e)))
        | else-s-out w ↦ leb-false _ _ (sym w.fits.ensures ∙ sym w.value-is ∙ e)
      ]

pub encode-requires : goal.encode-requires
encode-requires c = enough (goal.at.encode-requires c).Joined-s-out c.if-fits.true

pub returns-then-fits : goal.returns-then-fits
returns-then-fits c =
    let a = c.args in
    placed_written 0 (encode a.s.now) a.out.now _ _ c.encode.ensures

pub returns-else-fits : goal.returns-else-fits
returns-else-fits c = let a = c.args in placed_not 0 (encode a.s.now) a.out.now (short (goal.at.returns-else-fits c).Joined-s-out c.if-fits.false)
