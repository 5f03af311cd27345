use mathlib.Core.Path.{◌≡◌, refl, sym, ap, ◌∙◌}
use mathlib.Core.List.{List, [], ◌∷◌, ◌++◌}
use Prim.Native.Nat.{ℕ}
use lib.ListN.{length, take, drop}
use lib.Seq.{take-append_seam}
use native.Mathlib.Omega.{arith}
use Rattle.ucd.specs.Table.{Table}
use Rattle.ucd.specs.Unicode16.{unicode16}
use Rattle.ji.specs.Nfd.{nfd}
use Rattle.ji.specs.Nfc.{nfc}
use Rattle.ji.specs.Reply.{over, placed}
use Rattle.ji.specs.Utf8.{encode}
use Rattle.ji.specs.Normalising.{exchanged}
use Rattle.ji.proofs.text.Laws.{replace_same_length}
use Rattle.ji.proofs.nfc.place_in.Goals as goal

abbrev t : Table
t = unicode16

-- the front of the buffer, once the pair is exchanged in it
module _ (s before : List ℕ) (a b r : ℕ) (buffer part : List ℕ) (is_r : r ≡ length (nfc t s)) (is_buffer : buffer ≡ over (nfc t s) (over (nfd t s) before)) (is : part ≡ exchanged a b (take r buffer)) where
  exchanged_front : take r (part ++ drop r buffer) ≡ exchanged a b (nfc t s)
  exchanged_front =
      let front_is : take r buffer ≡ nfc t s =
      rw (is_buffer, is_r) (take-append_seam (nfc t s) (drop (length (nfc t s)) (over (nfd t s) before))) in
      let part_is : part ≡ exchanged a b (nfc t s) = is ∙ ap (exchanged a b) front_is in
      let long : length part ≡ r =
      ap length part_is ∙ replace_same_length (a ∷ b ∷ []) (b ∷ a ∷ []) (omega arith) refl (nfc t s) ∙ sym is_r in
      rw (← long) (take-append_seam part (drop (length part) buffer)) ∙ part_is

pub returns : goal.returns
returns g c =
    let a = c.args in
    let made = c.make-n in
    c.place.ensures
    ∙ ap (λ (u : List ℕ). placed 0 (encode u) a.out.now)
    (exchanged_front a.s.now _ a.a a.b made.result _ c.replace_pair.new.s made.ensures.0 made.ensures.1 c.replace_pair.ensures)
