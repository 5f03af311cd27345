use mathlib.Core.Path.{refl, sym, ap, ◌∙◌}
use Rattle.ji.specs.Lomaji.Dot.{dot_in}
use Rattle.ji.proofs.lomaji.dot.Laws.{dot_listed}
use Rattle.khiin_records.proofs.Candidates.{no_vowel, keys_few, quick_answer}
use native.Mathlib.Omega.{arith}
use Rattle.khiin_records.proofs.from_composed.write_candidate.Goals as goal

pub returns-in-None : goal.returns-in-None
returns-in-None c =
    let a = c.args in
    (refl, λ u e. no_vowel a.text.ending.tone a.text.ending.khin u a.out.now (dot_in a.text.rest.now) (sym (ap dot_in e ∙ dot_listed u)) a.position (sym c.vowel_at.ensures ∙ c.in-None.is))

pub returns-in-Some : goal.returns-in-Some
returns-in-Some c =
    let a = c.args in
    let w = c.spell-spelled in
    let p = c.put-len in
    rw (c.record.ensures, c.from.ensures) (
      (let k = keys_few a.text.ending.tone a.text.ending.khin in omega (arith, k, w.ensures.1, p.ensures.0, c.requires)),
      λ u e.
          quick_answer a.text.ending.tone a.text.ending.khin u a.text.rest.now e a.out.now w.new.out p.new.out a.position c.in-Some.vowel w.result.len w.result.count p.result
          (sym c.vowel_at.ensures ∙ c.in-Some.is) w.ensures.0 w.ensures.1 w.ensures.2 p.ensures.0 p.ensures.1 c.requires,
    )
