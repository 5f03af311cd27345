use mathlib.Core.Path.{◌∙◌, subst}
use Prim.Native.Nat.{ℕ, ◌+◌}
use Rattle.ucd.specs.Unicode16.{unicode16}
use Rattle.ji.specs.Lomaji.Single.{KeptTo}
use Rattle.ji.proofs.Replies.{check_long}
use Rattle.ji.proofs.lomaji.strip.Laws.{strip_refused}
use Rattle.ji.proofs.lomaji.single.Laws.{kept_strip, marked_strip}
use Rattle.ji.proofs.lomaji.strip.strip_tone_diacritic.Goals as goal

pub returns-then-text-gt256 : goal.returns-then-text-gt256
returns-then-text-gt256 c =
    let a = c.args in
    strip_refused unicode16 a.text.now a.out.now _ (check_long unicode16 a.text.now c.if-text-gt256.true)

pub returns-then-at-text : goal.returns-then-at-text
returns-then-at-text c =
    let a = c.args in
    c.place_bytes.ensures
    ∙ kept_strip a.text.now a.out.now (subst (λ (to : ℕ). KeptTo a.text.now 0 to) c.if-at-text.true c.kept_to-at.ensures.1) c.if-text-gt256.false

pub kept_to-requires : goal.kept_to-requires
kept_to-requires c = c.in-Some.ensures.0

pub place_marked-requires : goal.place_marked-requires
place_marked-requires c = let m = c.in-Some.ensures in (m.0, m.3.2)

pub returns : goal.returns
returns c =
    let a = c.args in
    c.place_marked.ensures
    ∙ marked_strip a.text.now c.kept_to-at.result _ c.kept_to-at.ensures.0 c.kept_to-at.ensures.1 c.in-Some.ensures
    (subst (λ (to : ℕ). KeptTo a.text.now (c.kept_to-at.result + 2) to) c.if-kept_to-text.true c.kept_to.ensures.1) a.out.now c.if-text-gt256.false
