use Rattle.std.proofs.lemmas.Result.{err_from_is_err_and}
use Rattle.ji.proofs.lomaji.strip.Answers.{strip_done, strip_not}
use Rattle.khiin_records.proofs.Stripping.{toned, within, rest_short, rest_is, khin_is}
use Rattle.khiin_records.proofs.stripped.Stripped.of.Goals as goal

pub slice_bounds-stripped-end : goal.slice_bounds-stripped-end
slice_bounds-stripped-end c =
    let r = c.in_ok-result.result in
    within c.args.text.now c.args.buffer.now c.strip_tone_diacritic.new.out r (strip_done c.args.text.now c.args.buffer.now c.strip_tone_diacritic.new.out r c.in_ok-result.ensures)

pub invariant_of-ending : goal.invariant_of-ending
invariant_of-ending c =
    let r = c.in_ok-result.result in
    record {
      toned = toned c.args.text.now c.args.buffer.now c.strip_tone_diacritic.new.out r (strip_done c.args.text.now c.args.buffer.now c.strip_tone_diacritic.new.out r c.in_ok-result.ensures);
    }

pub returns-in_err-result : goal.returns-in_err-result
returns-in_err-result c =
    let p = err_from_is_err_and c.from_residual.result c.from_residual.ensures.1 in
    rw (p.1, p.2) (strip_not c.args.text.now c.args.buffer.now c.strip_tone_diacritic.new.out c.in_err-result.field-0.0 c.requires c.in_err-result.ensures)

pub returns : goal.returns
returns c =
    let text = c.args.text.now in
    let before = c.args.buffer.now in
    let after = c.strip_tone_diacritic.new.out in
    let r = c.in_ok-result.result in
    let h = strip_done text before after r c.in_ok-result.ensures in
    record {
      points = h.points;
      good = h.good;
      rest = rest_is text before after r h c.strip_khin.result.now c.strip_khin.ensures;
      short = rest_short text before after r h c.strip_khin.result.now c.strip_khin.ensures;
      tone = h.tone;
      khin = khin_is text before after r h c.khin_of.result c.khin_of.ensures;
    }
