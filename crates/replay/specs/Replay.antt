-- When a record is replayed without a difference.
use Rattle.std.specs.Prelude.{◌≡◌, List, ℕ, ◌+◌, take, drop}
use Rattle.replay.specs.declared.record.Header.{Header}
use Rattle.replay.specs.declared.program.Outcome.{Outcome}
use Rattle.replay.specs.declared.program.Outcome.TheVariants.{Same, Different, Malformed, End}
use Rattle.replay.specs.Expected.{untouched, AsSaid}
use Rattle.replay.specs.Calls.{answer_of}

-- the call of the header replies to the texts as the record says. The body is what stands behind the header: the two texts, and the output
abbrev pub Agrees : Header → List ℕ → Type 0
Agrees h body =
    AsSaid h (take h.wanted (drop (h.input + h.other) body))
    (answer_of h (take h.input body) (take h.other (drop h.input body)) (untouched 3136))

-- what the record of a header and a body comes to, where the input has all of the body
abbrev pub Judges : Header → List ℕ → Outcome → Type 0
Judges h body (Same call) = (call ≡ h.call) × Agrees h body
Judges h body (Different call) = (call ≡ h.call) × (Agrees h body → ⊥)
Judges h body Malformed = Unit {0}
Judges h body End = ⊥
