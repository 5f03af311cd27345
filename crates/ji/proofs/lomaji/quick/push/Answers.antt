use mathlib.Core.Path.{sym, ap, ◌∙◌}
use Rattle.ji.specs.Tone.{is_tone}
use Rattle.ji.proofs.lomaji.strip.Laws.{mark_is}
use Rattle.ji.proofs.lomaji.quick.Laws.{stripping_mark}
use native.Mathlib.Omega.{arith}
use Rattle.ji.proofs.lomaji.quick.push.Goals as goal

pub returns-then-is_tone : goal.returns-then-is_tone
returns-then-is_tone c =
    let a = c.args in
    (omega arith, λ before s h. stripping_mark before a.out.now a.n a.marks.now s h a.x (mark_is a.x ∙ ap is_tone (sym c.mark_tone-tone.ensures) ∙ sym c.is_tone.ensures ∙ c.if-is_tone.true) c.mark_tone-tone.result c.mark_tone-tone.ensures)

pub push_kept-requires : goal.push_kept-requires
push_kept-requires c =
    (mark_is c.args.x ∙ ap is_tone (sym c.mark_tone-tone.ensures) ∙ sym c.is_tone.ensures ∙ c.if-is_tone.false, c.requires)
