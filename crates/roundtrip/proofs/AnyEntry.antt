-- The entry call of any bytes. It is not refused just where the kind is one of the three, the bytes are an entry's, the list has the position and the
-- buffer holds the keying; then it replies with the list's length and the keying.
use mathlib.Core.Path.{◌≡◌, refl, sym, ap, ap₂, ◌∙◌}
use mathlib.Core.Bool.{Bool, true, false}
use mathlib.Core.List.{List, []}
use Prim.Native.Nat.{ℕ, ◌≤◌, ◌<◌}
use native.Mathlib.Omega.{arith}
use borrow.Author.Tests.{le-leb, lt-ltb, leb-true, ltb-true}
use lib.Dec.{leb, ltb}
use lib.ListN.{length, get_or, length-map}
use Rattle.ji.specs.Unicode.{unicode16}
use Rattle.ji.specs.Utf8.{encode}
use Rattle.ji.specs.Reply.{Reply, refused, pick_reply, Checked, good, bad}
use Rattle.ji.specs.declared.reply.Refusal.{Refusal}
use Rattle.ji.specs.declared.reply.Refusal.TheVariants.{Argument, Position, NoRoom}
use Rattle.ji.proofs.Replies.{refusal_some}
use Rattle.khiin_entries.specs.KeySequence.{keyings, check_entry, keyed, placed_keying, keying_of, keying_call}
use Rattle.khiin_entries.proofs.key_sequence.Splitting.{map_at}
use Rattle.robinflint.specs.Arguments.{kind_of, keying_numbered}
use Rattle.grammar.specs.WellFormed.{Texts}
use Rattle.roundtrip.specs.Demand3.{list_for, keying_for, given, Answered}

-- of a reply and a refusal the one that is not refused
taken : (b : Bool) (r : Reply) (why : Refusal) (buffer : List ℕ) → (pick_reply b r (refused why buffer)).code ≡ 0 → (b ≡ true) × (r.code ≡ 0)
taken true r why buffer h = (refl, h)
taken false r why buffer h = absurd (omega (arith, refusal_some why))

-- ── a good entry
module _ (bytes text : List ℕ) (kind position : ℕ) (buffer : List ℕ) where
  abbrev texts : Texts
  texts = keyings unicode16 (kind_of kind) text

  abbrev output : List ℕ
  output = encode (get_or texts position [])

  pub output_is : keying_for kind text position ≡ output
  unfolding list_for
  output_is = map_at texts position

  pub count_same : length (list_for kind text) ≡ length texts
  unfolding list_for
  count_same = length-map texts encode

  -- a call that nothing refuses
  pub good_answers : check_entry unicode16 bytes ≡ good text → kind ≤ 2 → position < length (list_for kind text) → length (keying_for kind text position) ≤ length buffer
      → keying_numbered bytes kind position buffer ≡ given kind text position buffer
  unfolding keying_call
  good_answers e known inside fits =
      let n : position < length texts = rw (← count_same) inside in
      let k : length output ≤ length buffer = rw (← output_is) fits in
      ap (λ (b : Bool). pick_reply b (keying_call unicode16 bytes (kind_of kind) position buffer) (refused Argument buffer)) (le-leb kind 2 known)
      ∙ ap (λ (c : Checked). keying_of unicode16 (kind_of kind) c position buffer) e
      ∙ ap (λ (b : Bool). pick_reply b (placed_keying unicode16 (length texts) output buffer) (refused Position buffer)) (lt-ltb position (length texts) n)
      ∙ ap (λ (b : Bool). pick_reply b (keyed unicode16 (length texts) output buffer) (refused NoRoom buffer)) (le-leb (length output) (length buffer) k)
      ∙ ap₂ (λ (c : ℕ) (u : List ℕ). keyed unicode16 c u buffer) (sym count_same) (sym output_is)

  -- a call that is not refused
  good_answered : check_entry unicode16 bytes ≡ good text → kind ≤ 2 → (keying_of unicode16 (kind_of kind) (good text) position buffer).code ≡ 0
      → Answered bytes kind position buffer
  good_answered e known h =
      let (there, placed) = taken (ltb position (length texts)) (placed_keying unicode16 (length texts) output buffer) Position buffer h in
      let (room, done) = taken (leb (length output) (length buffer)) (keyed unicode16 (length texts) output buffer) NoRoom buffer placed in
      let inside : position < length (list_for kind text) = rw count_same (ltb-true position (length texts) there) in
      let fits : length (keying_for kind text position) ≤ length buffer = rw output_is (leb-true (length output) (length buffer) room) in
      record { text = text; known = known; checked = e; inside = inside; fits = fits; gives = good_answers e known inside fits }

-- ── any entry
module _ (bytes : List ℕ) (kind position : ℕ) (buffer : List ℕ) where
  checked_answered : (c : Checked) → check_entry unicode16 bytes ≡ c → kind ≤ 2 → (keying_of unicode16 (kind_of kind) c position buffer).code ≡ 0
      → Answered bytes kind position buffer
  checked_answered (good text) e known h = good_answered bytes text kind position buffer e known h
  checked_answered (bad why) e known h = absurd (omega (arith, refusal_some why))

  pub call_answered : (keying_numbered bytes kind position buffer).code ≡ 0 → Answered bytes kind position buffer
  unfolding keying_call
  call_answered h =
      let (known, called) = taken (leb kind 2) (keying_call unicode16 bytes (kind_of kind) position buffer) Argument buffer h in
      checked_answered (check_entry unicode16 bytes) refl (leb-true kind 2 known) called
