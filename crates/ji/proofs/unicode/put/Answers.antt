use mathlib.Core.Path.{◌≡◌, refl}
use mathlib.Core.List.{List, []}
use Prim.Native.Nat.{ℕ, ◌+◌, ◌≤◌}
use lib.ListN.{length, length-set}
use lib.Seq.{paste}
use Rattle.ji.specs.Reading.{spread_text}
use Rattle.ji.specs.declared.unicode.Spread.{Spread}
use Rattle.ji.proofs.Writing.{stores_1, stores_2, stores_3}
use native.Mathlib.Omega.{arith}
use Rattle.ji.proofs.unicode.put.Goals as goal

-- a run of stores writes the text that a Spread stands for
module _ (out : List ℕ) (at : ℕ) (x told : Spread) (is : x ≡ told) (after : List ℕ) where
  fits_told : at + length (spread_text x) ≤ length out → at + length (spread_text told) ≤ length out
  fits_told h = rw is at h

  stored : after ≡ paste out at (spread_text told) (length (spread_text told)) → (at + length (spread_text told) ≡ at + length (spread_text x)) × (after ≡ paste out at (spread_text x) (length (spread_text x)))
  stored p = rw is (refl, p)

pub bounds-out-at : goal.bounds-out-at
bounds-out-at c = let h = fits_told c.args.out.now c.args.at _ _ c.in-One.is [] c.requires in omega arith

pub bounds-out-at-in-Two : goal.bounds-out-at-in-Two
bounds-out-at-in-Two c = let h = fits_told c.args.out.now c.args.at _ _ c.in-Two.is [] c.requires in omega arith

pub bounds-out-at-in-Two-2 : goal.bounds-out-at-in-Two-2
bounds-out-at-in-Two-2 c = let h = fits_told c.args.out.now c.args.at _ _ c.in-Two.is [] c.requires in simp length-set (omega arith)

pub bounds-out-at-in-Three : goal.bounds-out-at-in-Three
bounds-out-at-in-Three c = let h = fits_told c.args.out.now c.args.at _ _ c.in-Three.is [] c.requires in omega arith

pub bounds-out-at-in-Three-2 : goal.bounds-out-at-in-Three-2
bounds-out-at-in-Three-2 c = let h = fits_told c.args.out.now c.args.at _ _ c.in-Three.is [] c.requires in simp length-set (omega arith)

pub bounds-out-at-in-Three-3 : goal.bounds-out-at-in-Three-3
bounds-out-at-in-Three-3 c = let h = fits_told c.args.out.now c.args.at _ _ c.in-Three.is [] c.requires in simp length-set (omega arith)

pub returns-in-One : goal.returns-in-One
returns-in-One c =
    let h = fits_told c.args.out.now c.args.at _ _ c.in-One.is [] c.requires in
    stored c.args.out.now c.args.at _ _ c.in-One.is _ (stores_1 c.args.out.now c.args.at c.in-One.a (omega arith))

pub returns-in-Two : goal.returns-in-Two
returns-in-Two c =
    let h = fits_told c.args.out.now c.args.at _ _ c.in-Two.is [] c.requires in
    stored c.args.out.now c.args.at _ _ c.in-Two.is _ (stores_2 c.args.out.now c.args.at c.in-Two.a c.in-Two.b (omega arith))

pub returns-in-Three : goal.returns-in-Three
returns-in-Three c =
    let h = fits_told c.args.out.now c.args.at _ _ c.in-Three.is [] c.requires in
    stored c.args.out.now c.args.at _ _ c.in-Three.is _ (stores_3 c.args.out.now c.args.at c.in-Three.a c.in-Three.b c.in-Three.c (omega arith))
