use mathlib.Core.Path.{◌≡◌, sym, ap, ◌∙◌}
use mathlib.Core.List.{List, [], ◌∷◌}
use Prim.Native.Nat.{ℕ, ◌<◌}
use borrow.Author.Tests.{eqb-true}
use lib.ListN.{length}
use Rattle.ji.specs.Unicode.{unicode16}
use Rattle.ji.specs.Reply.{refused, Checked}
use Rattle.ji.specs.declared.reply.Refusal.TheVariants.{TooLong}
use Rattle.ji.proofs.Replies.{check_long}
use Rattle.khiin_records.specs.Syllable.{default, from_composed, candidate_in, candidate_of, candidate_call}
use Rattle.khiin_records.proofs.Candidates.{empty_good}
use Rattle.khiin_records.proofs.from_composed.from_composed.Goals as goal

none_given : (text : List ℕ) (position : ℕ) (buffer : List ℕ) → length text ≡ 0 → candidate_in (default ∷ []) position buffer ≡ candidate_call unicode16 text position buffer
unfolding candidate_call from_composed
none_given text position buffer h = sym (ap (λ (k : Checked). candidate_of unicode16 k position buffer) (empty_good text h))

too_long : (text : List ℕ) (position : ℕ) (buffer : List ℕ) → 256 < length text → refused TooLong buffer ≡ candidate_call unicode16 text position buffer
unfolding candidate_call
too_long text position buffer h = sym (ap (λ (k : Checked). candidate_of unicode16 k position buffer) (check_long unicode16 text h))

pub returns-then-is_empty : goal.returns-then-is_empty
returns-then-is_empty c = let a = c.args in c.default_at.ensures ∙ none_given a.text.now a.position a.out.now (eqb-true _ 0 (sym c.is_empty.ensures ∙ c.if-is_empty.true))

pub returns-else-text-le256 : goal.returns-else-text-le256
returns-else-text-le256 c = let a = c.args in too_long a.text.now a.position a.out.now c.if-text-le256.false
