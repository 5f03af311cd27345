use mathlib.Core.Path.{◌≡◌}
use mathlib.Core.Bool.{true, false}
use Prim.Native.Nat.{ℕ, ◌<◌}
use lib.ListN.{length, get_or}
use Rattle.std.proofs.Common.{rules}
use Rattle.std.specs.Prelude.{MatchOption}
use Rattle.ji.specs.Utf8.{is_start}
use Rattle.ji.proofs.utf8.Last.{start_found}
use Rattle.ji.proofs.utf8.last_start.Goals as goal

pub returns : goal.returns
returns c =
    let s = c.args.s.now in
    let found : MatchOption c.rposition.result ((k : ℕ) → k < length s → is_start (get_or s k 0) ≡ false)
    (λ i. (i < length s) × (is_start (get_or s i 0) ≡ true) × ((k : ℕ) → i < k → k < length s → is_start (get_or s k 0) ≡ false)) = search rules in
    rw c.unwrap_or.ensures (start_found s c.rposition.result found)
