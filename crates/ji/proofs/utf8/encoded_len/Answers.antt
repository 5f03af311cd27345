use mathlib.Core.Path.{◌≡◌, ◌∙◌}
use lib.ListN.{length}
use Rattle.std.proofs.Common.{rules}
use Rattle.std.specs.Prelude.{sum_by}
use Rattle.ji.specs.Utf8.{bytes_of}
use Rattle.ji.proofs.utf8.Encoding.{sizes_added}
use Rattle.ji.proofs.utf8.encoded_len.Goals as goal

pub returns : goal.returns
returns c =
    let added : c.sum.result ≡ sum_by (λ x. length (bytes_of x)) c.args.s.now = search rules in
    added ∙ sizes_added c.args.s.now
