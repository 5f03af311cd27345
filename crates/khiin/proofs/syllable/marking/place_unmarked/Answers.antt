use Prim.Native.Nat.{ℕ}
use mathlib.Core.Path.{sym, ap, ◌∙◌}
use mathlib.Core.List.{List}
use Rattle.ji.specs.Utf8.{encode}
use Rattle.ji.specs.Reply.{placed}
use Rattle.khiin.proofs.syllable.marking.Settled.{encoded_settled}
use Rattle.khiin.proofs.syllable.marking.place_unmarked.Goals as goal

pub returns-then-is_settled : goal.returns-then-is_settled
returns-then-is_settled c =
    let a = c.args in
    c.place.ensures ∙ ap (λ (u : List ℕ). placed 0 (encode u) a.out.now) (sym (encoded_settled a.s.now (c.is_settled.ensures c.if-is_settled.true)))

pub returns-else-is_settled : goal.returns-else-is_settled
returns-else-is_settled c = c.place_encoded.ensures
