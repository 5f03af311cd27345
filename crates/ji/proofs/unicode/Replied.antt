-- What counting and reading a text say of the reply to it.
use mathlib.Core.Path.{◌≡◌, sym, ap, ◌∙◌, subst}
use mathlib.Core.Bool.{false}
use mathlib.Core.List.{List}
use Prim.Native.Nat.{ℕ}
use Rattle.ucd.specs.Unicode16.{unicode16}
use Rattle.ji.specs.Written.{Written}
use Rattle.ji.specs.Utf8.{decode}
use Rattle.ji.specs.Reply.{Checked, good, placed, check_points}
use Rattle.ji.specs.Reading.{Reading, Counting, points_reply, points_of, points_call}
use Rattle.ji.proofs.Replies.{placed_written}
use Rattle.ji.proofs.unicode.Checked.{good_same, good_not_bad}
use Rattle.ji.proofs.unicode.Laws.{spread_plain}
use Rattle.std.specs.Prelude.{Result, Ok, Err}
use Rattle.ji.specs.declared.unicode.CharLen.{CharLen}
use Rattle.ji.specs.declared.reply.Refusal.{Refusal}

-- what counting said, of the answer that it gave
pub counted : (s : List ℕ) {answer x : Result CharLen Refusal} → answer ≡ x → Counting unicode16 s answer → Counting unicode16 s x
counted s e h = subst (Counting unicode16 s) e h

-- the reply to a text that was checked
pub reply : (s : List ℕ) {k : Checked} → check_points unicode16 (decode s) ≡ k → (buffer : List ℕ) → points_of k buffer ≡ points_call unicode16 s buffer
reply s e buffer = ap (λ (k : Checked). points_of k buffer) (sym e)

-- reading answers as counting did, and wrote the code points
pub read : (s u before after : List ℕ) → check_points unicode16 (decode s) ≡ good u → (answer : Result CharLen Refusal) → Reading unicode16 false s before after answer
    → points_reply answer after ≡ placed 0 u before
read s u before after e (Ok n) r =
    placed_written 0 u before n.0 after (subst (λ (l : List ℕ). Written before after n.0 l) (spread_plain unicode16 r.0 ∙ good_same (sym r.1 ∙ e)) r.2)
read s u before after e (Err why) r = absurd (good_not_bad (sym e ∙ r.0))
