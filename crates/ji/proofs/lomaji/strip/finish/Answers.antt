use mathlib.Core.Path.{ap, ◌∙◌}
use mathlib.Core.List.{List}
use Prim.Native.Nat.{ℕ}
use Rattle.ji.specs.Utf8.{encode}
use Rattle.ji.specs.Tone.{tone_number}
use Rattle.ji.specs.Reply.{placed}
use Rattle.ji.specs.Lomaji.Strip.{without_marks, tone_or, unmarked_tone, stripped_reply}
use Rattle.ji.specs.declared.tone.Tone.{Tone}
use Rattle.ji.proofs.Writing.{written_take}
use Rattle.ji.proofs.lomaji.strip.Laws.{stripped_reply_law}
use Rattle.ji.proofs.lomaji.strip.finish.Goals as goal

pub returns : goal.returns
returns c =
    let out = c.args.out.now in
    let d = c.drop_marks-tone in
    c.place.ensures
    ∙ ap (λ (l : List ℕ). placed (tone_number (tone_or d.result.tone (unmarked_tone (encode l)))) (encode l) out) (written_take d.ensures.0)
    ∙ ap (λ (x : Tone). placed (tone_number (tone_or x (unmarked_tone (encode (without_marks c.order.new.s))))) (encode (without_marks c.order.new.s)) out) d.ensures.1
    ∙ stripped_reply_law c.order.new.s out
    ∙ ap (λ (l : List ℕ). stripped_reply l out) c.order.ensures
