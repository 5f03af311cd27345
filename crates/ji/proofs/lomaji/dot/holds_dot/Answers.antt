-- `lomaji::dot::holds_dot` meets its contract: where a window is the two bytes, and where none is.
use Rattle.std.proofs.Common.{rules, ◌≡◌, ℕ, ◌+◌, ◌≤◌, length, true, false, slice_index}
use Rattle.ji.proofs.lomaji.dot.Laws.{dot_told}
use Rattle.ji.proofs.lomaji.dot.holds_dot.Goals as goal

pub returns : goal.returns
returns c =
    let s = c.args.text.now in
    let found : c.any.result ≡ true → (k : ℕ) × ((k + 2 ≤ length s) × (slice_index s k ≡ 0xCD) × (slice_index s (k + 1) ≡ 0x98)) = search rules in
    let missing : c.any.result ≡ false → (k : ℕ) → k + 2 ≤ length s → slice_index s k ≡ 0xCD → slice_index s (k + 1) ≡ 0x98 → ⊥ = search rules in
    dot_told s c.any.result found missing
