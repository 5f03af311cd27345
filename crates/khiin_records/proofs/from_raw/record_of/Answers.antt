use mathlib.Core.Path.{sym, ap, ◌∙◌}
use Rattle.ji.specs.Tone.{is_tone}
use Rattle.khiin_records.proofs.Records.{toned_some, toned_record, bare_record}
use Rattle.khiin_records.proofs.from_raw.record_of.Goals as goal

pub overflow_sub-body : goal.overflow_sub-body
overflow_sub-body c = toned_some c.args.s.now (ap is_tone (sym c.last_tone-tone.ensures) ∙ sym c.is_tone.ensures ∙ c.if-is_tone.true)

pub returns-then-is_tone : goal.returns-then-is_tone
returns-then-is_tone c = λ h. toned_record c.args.s.now h _ c.last_tone-tone.ensures (sym c.is_tone.ensures ∙ c.if-is_tone.true)

pub returns-else-is_tone : goal.returns-else-is_tone
returns-else-is_tone c = λ h. bare_record c.args.s.now h _ c.last_tone-tone.ensures (sym c.is_tone.ensures ∙ c.if-is_tone.false)
