use mathlib.Core.Path.{ap₂, ◌∙◌}
use Rattle.ji.specs.Unicode.{unicode16}
use Rattle.ji.specs.Lomaji.Strip.{strip}
use Rattle.ji.specs.Lomaji.Khin.{without_khin}
use Rattle.ji.specs.declared.tone.Tone.{Tone}
use Rattle.ji.specs.declared.lomaji.khin.Khin.{Khin}
use Rattle.ji.proofs.unicode.Checked.{text_passed}
use Rattle.khiin_records.specs.Syllable.{candidates_of, candidate_in}
use Rattle.khiin_records.proofs.Candidates.{candidate_good, some_points}
use Rattle.khiin_records.proofs.from_composed.candidate_within.Goals as goal

pub returns : goal.returns
returns g c =
    let a = c.args in
    let h = c.in_ok-stripped.ensures in
    let u = h.points in
    let v = without_khin (strip unicode16 u).rest in
    c.candidate_stripped.ensures v h.rest
    ∙ ap₂ (λ (t : Tone) (k : Khin). candidate_in (candidates_of t k v) a.position a.out.now) h.tone h.khin
    ∙ candidate_good a.text.now a.position a.out.now u h.good (some_points a.text.now u (text_passed a.text.now u h.good).written c.requires.0)
