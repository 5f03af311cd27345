use Rattle.std.proofs.Common.{◌≡◌, ◌∙◌, ap, ℕ, List, length, get_or, rules}
use Rattle.std.specs.Prelude.{IsTrue, ◌↔◌, EachIndex, slice_index}
use Rattle.replay.proofs.Laws.{all_untouched, untouched_at}
use Rattle.replay.proofs.expected.is_untouched.Goals as goal

pub returns : goal.returns
returns c =
    let s = c.args.bytes.now in
    let h : IsTrue c.all.result ↔ EachIndex s (λ k. slice_index s k ≡ 0xA5) = search rules in
    (λ e. all_untouched s (λ k i. h.0 e k i), λ e. h.1 (λ k i. ap (λ (l : List ℕ). get_or l k 0) e ∙ untouched_at (length s) k i))
