use mathlib.Core.Path.{◌≡◌, sym, ap}
use mathlib.Core.List.{List, [], ◌∷◌, ◌++◌}
use Prim.Native.Nat.{ℕ}
use Rattle.ucd.specs.Table.{decomposition}
use Rattle.ucd.specs.Unicode16.{unicode16}
use Rattle.ucd.specs.Answer.{text_of}
use Rattle.ucd.specs.declared.Mapping.{Mapping}
use Rattle.ji.proofs.unicode.Laws.{told}
use Rattle.ji.proofs.unicode.spread_pair.Goals as goal

-- what the lookup told, with the second code point behind it
joined : (a b : ℕ) {answer x : Mapping} → text_of a answer ≡ decomposition unicode16 a → answer ≡ x → text_of a x ++ (b ∷ []) ≡ decomposition unicode16 a ++ (b ∷ [])
joined a b says is = ap (λ (s : List ℕ). s ++ (b ∷ [])) (sym (told a says is))

pub returns-in-Itself : goal.returns-in-Itself
returns-in-Itself c = let x = c.args in joined x.a x.b c.decomposition.ensures.text c.in-Itself.is

pub returns-in-One : goal.returns-in-One
returns-in-One c = let x = c.args in joined x.a x.b c.decomposition.ensures.text c.in-One.is

pub returns-in-Two : goal.returns-in-Two
returns-in-Two c = let x = c.args in joined x.a x.b c.decomposition.ensures.text c.in-Two.is
