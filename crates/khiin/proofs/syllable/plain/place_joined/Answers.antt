use mathlib.Core.Path.{◌≡◌, ap, ◌∙◌, subst}
use mathlib.Core.List.{List, ◌∷◌, ◌++◌}
use Prim.Native.Nat.{ℕ, ◌+◌, ◌-◌}
use native.Mathlib.Omega.{arith}
use lib.ListN.{length, take, drop, length-drop}
use lib.Seq.{take_all}
use Rattle.ji.specs.Unicode.{unicode16}
use Rattle.ji.specs.Utf8.{encode}
use Rattle.ji.specs.Reply.{Reply, placed}
use Rattle.khiin.specs.Syllable.{encoded}
use Rattle.khiin.specs.Compose.{JoinedAs}
use Rattle.khiin.specs.declared.syllable.marking.Joined.{Joined}
use Rattle.khiin.proofs.syllable.plain.Laws.{joined_bytes, apart_bytes}
use Rattle.khiin.proofs.syllable.plain.place_joined.Goals as goal

-- what is said of the letter
known : (mark : ℕ) {x y : ℕ} {j k : Joined} → x ≡ y → j ≡ k → JoinedAs x mark j → JoinedAs y mark k
known mark {x} {y} {j} {k} e is h = subst (λ (z : ℕ). JoinedAs z mark k) e (subst (JoinedAs x mark) is h)

-- what was written between two parts of s is the text with the mark
told : (s before : List ℕ) (k mark : ℕ) (front middle : List ℕ) {r : Reply} → r ≡ placed 0 (front ++ (middle ++ take (length s - (k + 1)) (drop (k + 1) s))) before
    → front ++ (middle ++ drop (k + 1) s) ≡ encode (encoded unicode16 (take (k + 1) s ++ (mark ∷ drop (k + 1) s)))
    → r ≡ placed 0 (encode (encoded unicode16 (take (k + 1) s ++ (mark ∷ drop (k + 1) s)))) before
told s before k mark front middle e is =
    e
    ∙ ap (λ (l : List ℕ). placed 0 (front ++ (middle ++ l)) before) (take_all (length s - (k + 1)) (drop (k + 1) s) (omega (arith, length-drop (k + 1) s)))
    ∙ ap (λ (u : List ℕ). placed 0 u before) is

pub returns-in-Composite : goal.returns-in-Composite
returns-in-Composite c =
    let s = c.args.s.now in
    told s c.args.out.now c.args.k c.args.mark _ _ c.place_between.ensures (joined_bytes s c.requires.1 c.args.k c.args.mark c.requires.0 _ (known c.args.mark c.from.ensures c.in-Composite.is c.join.ensures))

pub returns-in-Apart : goal.returns-in-Apart
returns-in-Apart c =
    let s = c.args.s.now in
    told s c.args.out.now c.args.k c.args.mark _ _ c.place_between-in-Apart.ensures (apart_bytes s c.requires.1 c.args.k c.args.mark c.requires.0 (known c.args.mark c.from.ensures c.in-Apart.is c.join.ensures))
