-- What the check of raw keys gives, as the definitions have it.
use Rattle.std.specs.Prelude.{Result, Ok, Err}
use Rattle.ji.specs.Reply.{Checked, good, bad}
use Rattle.ji.specs.declared.reply.Refusal.{Refusal}
use Rattle.khiin_records.specs.declared.keys.Keys.{Keys}

abbrev pub keys_checked : Result Keys Refusal → Checked
keys_checked (Ok keys) = good keys.bytes.now
keys_checked (Err why) = bad why
