use Rattle.std.proofs.Common.{rules}
use mathlib.Core.Path.{◌≡◌, sym, ap, ◌∙◌}
use mathlib.Core.Bool.{true, false}
use mathlib.Core.List.{List, map}
use Prim.Native.Nat.{ℕ, ◌+◌, ◌≤◌, ◌<◌}
use native.Mathlib.Omega.{arith}
use borrow.Author.Tests.{eqb-true, eqb-false}
use lib.Dec.{eqb}
use lib.ListN.{length, drop, get_or}
use Rattle.std.proofs.lemmas.List.{get_or-map}
use Rattle.ji.specs.Text.{point, lower}
use Rattle.ji.specs.Lomaji.ToneLetter.{matches}
use Rattle.ji.specs.declared.lomaji.tone_letter.TheConstants.{FIRST}
use Rattle.ji.proofs.lomaji.tone_letter.Laws.{pattern, all_at, first_letter, begun, not_begun, one_letter, is_g}
use Rattle.ji.proofs.lomaji.tone_letter.stands_at.Goals as goal

-- the letter that was read, x, and its number, n
module _ {X : Type 0} (number : X → ℕ) (xs : List X) (at : ℕ) (inside : at < length xs) (x : X) (is : x ≡ get_or xs at x) (n : ℕ) (read : n ≡ number x) where
  letter : lower n ≡ lower (get_or (map number xs) at 0)
  letter = ap lower (read ∙ ap number is ∙ sym (get_or-map number xs at x 0 inside))

  module _ (k : ℕ) (h : k < 9) (first : ℕ) (f : first ≡ point (get_or (pattern k).0 0 "")) where
    begins : eqb (lower n) first ≡ true → matches (pattern k).0 (drop at (map number xs)) ≡ matches (drop 1 (pattern k).0) (drop (at + 1) (map number xs))
    begins e = begun (map number xs) at k h _ _ letter f (eqb-true _ _ e)

    differs : eqb (lower n) first ≡ false → matches (pattern k).0 (drop at (map number xs)) ≡ false
    differs e = not_begun (map number xs) at k h _ _ letter f (eqb-false _ _ e)

pub is_letter-requires : goal.is_letter-requires
is_letter-requires g c =
    all_at (λ x. (0x61 ≤ x) × (x ≤ 0x7A)) FIRST
    ((omega arith, omega arith), ((omega arith, omega arith), ((omega arith, omega arith), ((omega arith, omega arith), ((omega arith, omega arith), ((omega arith, omega arith), ((omega arith, omega arith), ((omega arith, omega arith), ((omega arith, omega arith), tt)))))))))
    c.args.k c.requires.0

pub returns-in-0 : goal.returns-in-0
returns-in-0 g c =
    let number = g.L.Letter.number in
    let s = c.args.s.now in
    c.follows_o.ensures
    ∙ ap (λ (k : ℕ). matches (drop 1 (pattern k).0) (drop (c.args.at + 1) (map number s))) (sym c.in-0.is)
    ∙ sym (begins number s c.args.at c.requires.1 _ c.index-s-at.is _ c.number.ensures c.args.k c.requires.0 _ (first_letter c.args.k c.requires.0).0 (sym c.is_letter.ensures ∙ c.if-is_letter.true))

pub returns-in-6 : goal.returns-in-6
returns-in-6 g c =
    let number = g.L.Letter.number in
    let s = c.args.s.now in
    sym (is_g (map number s) (c.args.at + 1) _ c.letter_at.ensures)
    ∙ ap (λ (k : ℕ). matches (drop 1 (pattern k).0) (drop (c.args.at + 1) (map number s))) (sym c.in-6.is)
    ∙ sym (begins number s c.args.at c.requires.1 _ c.index-s-at.is _ c.number.ensures c.args.k c.requires.0 _ (first_letter c.args.k c.requires.0).0 (sym c.is_letter.ensures ∙ c.if-is_letter.true))

pub returns-in_default : goal.returns-in_default
returns-in_default g c =
    let number = g.L.Letter.number in
    let s = c.args.s.now in
    sym
    (begins number s c.args.at c.requires.1 _ c.index-s-at.is _ c.number.ensures c.args.k c.requires.0 _ (first_letter c.args.k c.requires.0).0 (sym c.is_letter.ensures ∙ c.if-is_letter.true)
    ∙ one_letter c.args.k (drop (c.args.at + 1) (map number s)) c.requires.0 (search rules) (search rules))

pub returns-else-is_letter : goal.returns-else-is_letter
returns-else-is_letter g c =
    c.if-is_letter.false
    ∙ sym (differs g.L.Letter.number c.args.s.now c.args.at c.requires.1 _ c.index-s-at.is _ c.number.ensures c.args.k c.requires.0 _ (first_letter c.args.k c.requires.0).0 (sym c.is_letter.ensures ∙ c.if-is_letter.false))
