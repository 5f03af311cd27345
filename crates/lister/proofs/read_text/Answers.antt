-- `read_text` meets its contract: the buffer has 1,026 bytes.
use Rattle.std.proofs.Common.{◌∙◌}
use Rattle.lister.proofs.Laws.{read_front}
use Rattle.lister.proofs.read_text.Goals as goal

pub returns : goal.returns
returns g c = read_front (g.R.Read.remaining c.args.reader.now) c.fill.new.text c.in_ok-n.n 1026 (c.fill.ensures.size ∙ c.told-text) c.in_ok-n.ensures.bytes
