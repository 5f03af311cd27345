use mathlib.Core.Path.{◌≡◌, ap, ◌∙◌, subst}
use mathlib.Core.List.{List}
use Prim.Native.Nat.{ℕ, ◌+◌}
use lib.ListN.{take}
use Rattle.ji.specs.Unicode.{unicode16}
use Rattle.ji.specs.Utf8.{encode}
use Rattle.ji.specs.Reply.{placed}
use Rattle.khiin.specs.declared.syllable.marking.Joined.TheVariants.{Apart}
use Rattle.std.proofs.Common.{rules}
use Rattle.khiin.specs.Syllable.{encoded}
use Rattle.khiin.specs.Compose.{JoinedIn}
use Rattle.khiin.proofs.syllable.marking.Letters.{marked_part, joined_text, line_text}
use native.Mathlib.Omega.{arith}
use Rattle.khiin.proofs.syllable.marking.place_marked.Goals as goal

pub returns-in-Composite : goal.returns-in-Composite
returns-in-Composite c =
    let a = c.args in
    let q = subst (JoinedIn (take a.n a.s.now) a.k a.mark) c.in-Composite.is c.joined_at-joined.ensures in
    c.place.ensures ∙ ap (λ (u : List ℕ). placed 0 (encode u) a.out.now) (joined_text a.s.now a.n a.k a.mark c.requires.0 c.requires.1 q.0 c.in-Composite.c q.1)

pub returns-then-eq : goal.returns-then-eq
returns-then-eq c =
    let a = c.args in
    let same : c.joined_at-joined.result ≡ Apart = search rules in
    let q = subst (JoinedIn (take a.n a.s.now) a.k a.mark) same c.joined_at-joined.ensures in
    c.place-then-eq.ensures
    ∙ ap (λ (u : List ℕ). placed 0 (encode u) a.out.now)
    (marked_part a.s.now a.n (a.k + 1) a.mark c.requires.1 (omega (arith, c.requires.0)) c.insert_mark.ensures c.insert_mark.auto.s _
    ∙ line_text a.s.now a.n a.k a.mark c.requires.0 c.requires.1 q.0 q.1 c.if-mark-eq781.true)

pub returns : goal.returns
returns c =
    let a = c.args in
    c.place_encoded.ensures
    ∙ ap (λ (u : List ℕ). placed 0 (encode (encoded unicode16 u)) a.out.now)
    (marked_part a.s.now a.n (a.k + 1) a.mark c.requires.1 (omega (arith, c.requires.0)) c.insert_mark.ensures c.insert_mark.auto.s _)
