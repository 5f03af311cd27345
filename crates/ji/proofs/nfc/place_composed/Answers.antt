use mathlib.Core.Path.{ap, ◌∙◌}
use mathlib.Core.List.{List}
use Prim.Native.Nat.{ℕ}
use Rattle.ucd.specs.Unicode16.{unicode16}
use Rattle.ji.specs.Written.{Written}
use Rattle.ji.specs.Utf8.{encode}
use Rattle.ji.specs.Nfc.{compose}
use Rattle.ji.specs.Reply.{placed}
use Rattle.ji.proofs.Writing.{written_from, written_take}
use Rattle.ji.proofs.nfc.place_composed.Goals as goal
use Rattle.ji.proofs.nfc.place_composed.Goals.{After-compose-n}

-- what composing leaves in the buffer
composed : (c : After-compose-n) → Written c.args.s.now c.compose-n.new.s c.compose-n.result (compose unicode16 c.args.s.now)
composed c = written_from _ _ _ _ c.compose-n.ensures.0 c.compose-n.ensures.1 c.compose-n.auto.s

pub returns : goal.returns
returns c =
    c.place.ensures ∙ ap (λ (s : List ℕ). placed 0 (encode s) c.args.out.now) (written_take (composed (goal.at.returns c).After-compose-n))
