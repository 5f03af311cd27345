use Rattle.std.proofs.lemmas.List.{length-take-le}
use mathlib.Core.Path.{sym, ap₂, ◌∙◌}
use native.Mathlib.Omega.{arith}
use Rattle.ji.specs.Unicode.{unicode16}
use Rattle.ji.specs.Lomaji.Strip.{strip}
use Rattle.ji.specs.Lomaji.Khin.{without_khin}
use Rattle.ji.specs.declared.tone.Tone.{Tone}
use Rattle.ji.specs.declared.lomaji.khin.Khin.{Khin}
use Rattle.ji.proofs.unicode.Ascii.{ascii_take}
use Rattle.ji.proofs.unicode.Checked.{text_passed}
use Rattle.khiin_records.specs.Syllable.{candidates_of}
use Rattle.khiin_records.specs.Alignment.{nearest_of, aligned_with}
use Rattle.khiin_records.proofs.Candidates.{some_points}
use Rattle.khiin_records.proofs.Prefixes.{aligned_inside, aligned_text, align_target_good}
use Rattle.khiin_records.proofs.alignment.align_within.Goals as goal

pub slice_bounds-place_keys-end : goal.slice_bounds-place_keys-end
slice_bounds-place_keys-end g c =
    let keys = c.args.keys.bytes.now in
    let s = c.in_ok-stripped.stripped in
    let h = c.in_ok-stripped.ensures in
    let u = without_khin (strip unicode16 h.points).rest in
    sym (length-take-le c.align_stripped-count.result keys (omega (arith, c.align_stripped-count.ensures u h.rest, aligned_inside keys s.ending.tone s.ending.khin u s.ending.toned)))

pub returns : goal.returns
returns g c =
    let keys = c.args.keys.bytes.now in
    let target = c.args.target.now in
    let h = c.in_ok-stripped.ensures in
    let v = (strip unicode16 h.points).rest in
    let n = c.align_stripped-count in
    c.place_keys.ensures (ascii_take n.result keys c.args.keys.ascii)
    ∙ align_target_good unicode16 keys target c.args.out.now n.result h.points h.good
    (n.ensures (without_khin v) h.rest
    ∙ ap₂ (λ (t : Tone) (k : Khin). aligned_with keys (nearest_of keys (candidates_of t k (without_khin v)))) h.tone h.khin
    ∙ aligned_text unicode16 keys h.points (some_points target h.points (text_passed target h.points h.good).written c.requires.0))
