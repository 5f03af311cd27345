use mathlib.Core.Path.{sym, ◌∙◌}
use Rattle.khiin_records.proofs.Prefixes.{aligned_none, aligned_grown, aligned_kept}
use Rattle.khiin_records.proofs.alignment.aligned_keys.Goals as goal
use Rattle.khiin_records.proofs.alignment.aligned_keys.Goals.{else-prefix-ne0-via-then-prefix-ne0+else-tone_key_follows, else-prefix-ne0-via-else-prefix-ne0}

pub returns-then-tone_key_follows : goal.returns-then-tone_key_follows
returns-then-tone_key_follows c =
    let a = c.args in
    λ s e is. sym (aligned_grown a.keys.now s a.prefix is c.if-prefix-ne0.true a.ending.tone e a.ending.toned (sym c.tone_key_follows.ensures ∙ c.if-tone_key_follows.true))

pub returns-else-prefix-ne0 : goal.returns-else-prefix-ne0
returns-else-prefix-ne0 c =
    let a = c.args in
    λ s e is.
    elim c.else-prefix-ne0.branch [
      | else-prefix-ne0-via-then-prefix-ne0+else-tone_key_follows w ↦
          sym (aligned_kept a.keys.now s a.prefix is w.if-prefix-ne0.true a.ending.tone e a.ending.toned (sym w.tone_key_follows.ensures ∙ w.if-tone_key_follows.false))
      | else-prefix-ne0-via-else-prefix-ne0 w ↦ w.if-prefix-ne0.false ∙ sym (aligned_none a.keys.now s a.prefix is w.if-prefix-ne0.false)
    ]
