-- `key_sequence::lay_out` meets its contract.
use Rattle.std.proofs.Common.{◌≡◌, ℕ, ◌<◌, [], length, get_or, refl, sym, ◌∙◌, arith, rules, tests}
use Rattle.std.proofs.lemmas.Iterator.Consumers.{YieldsList-turn, YieldsList-end, YieldsList-from_enumerate}
use Rattle.std.proofs.lemmas.Iterator.Splits.{YieldsList-from_slice_split}
use Rattle.std.proofs.lemmas.List.{length_push}
use Rattle.khiin_entries.specs.KeySequence.{split}
use Rattle.khiin_entries.proofs.key_sequence.Splitting.{is_space, numbered_part, numbered_all}
use Rattle.khiin_entries.proofs.key_sequence.Filling.{entry_parts, entry_part, filling_start, filling_room, filling_next, filling_all, filling_laid}
use Rattle.khiin_entries.proofs.key_sequence.lay_out.Goals as goal
use Rattle.khiin_entries.proofs.key_sequence.lay_out.Goals.{In-Some, In-None}

-- the part of this turn
module _ (t : In-Some) where
  abbrev k : ℕ
  k = length t.loop-i.yielded

  turn : (k < length (split t.args.parted.now.entry.now)) × (t.in-Some.i ≡ k) × (t.in-Some.part.now ≡ get_or (split t.args.parted.now.entry.now) k [])
  turn =
      numbered_part t.args.parted.now.entry.now k t.in-Some.i t.in-Some.part.now
      (YieldsList-turn (YieldsList-from_enumerate (YieldsList-from_slice_split _ is_space t.args.parted.now.entry.now (cc) (cc) (cc) (λ x b q k. search (rules, tests))) cc) t.loop-i.yielded _ t.loop-i.yielded_by _ _ _ t.in-Some.is t.next.ensures.steps)

  few : t.in-Some.i < 16
  few = omega (arith, turn, entry_parts t.args.parted.now.good)

pub loop-i-init : goal.loop-i-init
loop-i-init c = record { size = refl; inside = omega arith; filling = filling_start _ _ _ _ _ _ c.requires.2 c.requires.3 c.requires.4 }

pub lay_row-row-requires : goal.lay_row-row-requires
lay_row-row-requires c =
    let e = c.args.parted.now.good in
    let p = c.requires in
    let was = c.loop-i.invariant in
    let t = turn (goal.at.lay_row-row-requires c).In-Some in
    rw t.2 (entry_part e _ (omega (arith, t.0, entry_parts e)), omega (arith, filling_room e was.filling t.0, was.size, p.0), omega (arith, was.size, p.1))

pub bounds-choices-i : goal.bounds-choices-i
bounds-choices-i c = few (goal.at.bounds-choices-i c).In-Some

pub bounds-choices-i-in-loop-i : goal.bounds-choices-i-in-loop-i
bounds-choices-i-in-loop-i c = few (goal.at.bounds-choices-i-in-loop-i c).In-Some

pub bounds-choices-i-in-loop-i-2 : goal.bounds-choices-i-in-loop-i-2
bounds-choices-i-in-loop-i-2 c = few (goal.at.bounds-choices-i-in-loop-i-2 c).In-Some

pub loop-i-preserved : goal.loop-i-preserved
loop-i-preserved c =
    let e = c.args.parted.now.good in
    let p = c.requires in
    let was = c.loop-i.invariant in
    let t = turn (goal.at.loop-i-preserved c).In-Some in
    let row = rw t.2 at c.lay_row-row.ensures in
    let size = c.lay_row-row.auto.forms in
    record {
      size = size ∙ was.size;
      inside = omega (arith, row.short, filling_room e was.filling t.0, size, was.size, p.0);
      filling = rw (t.1, length_push) (filling_next e was.filling t.0 _ _ row);
    }

-- every part had its turn
all : (t : In-None) → length t.loop-i.yielded ≡ t.args.parted.now.parts
all t =
    numbered_all t.args.parted.now.entry.now _
    (YieldsList-end (YieldsList-from_enumerate (YieldsList-from_slice_split _ is_space t.args.parted.now.entry.now (cc) (cc) (cc) (λ x b q k. search (rules, tests))) cc) t.loop-i.yielded _ t.loop-i.yielded_by _ _ t.in-None.is t.next.ensures.steps).1
    ∙ sym (entry_parts t.args.parted.now.good).0

pub invariant_of-result : goal.invariant_of-result
invariant_of-result c =
    let was = c.loop-i.invariant in
    record { few = (entry_parts c.args.parted.now.good).1; laid = filling_laid was.filling (all (goal.at.invariant_of-result c).In-None) was.inside }

pub returns : goal.returns
returns c =
    (refl, filling_all c.args.parted.now.good c.loop-i.invariant.filling (all (goal.at.returns c).In-None))
