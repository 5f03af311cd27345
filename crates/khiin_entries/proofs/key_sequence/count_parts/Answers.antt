-- `key_sequence::count_parts` meets its contract.
use Rattle.std.proofs.Common.{◌≡◌, ℕ, suc, ◌+◌, ◌≤◌, ◌<◌, Bool, true, false, ◌&&◌, cond, leb, Some, None, List, length, drop, get_or, sym, ap, ◌∙◌, add-one, arith, rules, tests, inl, inr}
use Rattle.std.proofs.lemmas.Iterator.Consumers.{YieldsList-turn, YieldsList-end}
use Rattle.std.proofs.lemmas.Iterator.Splits.{YieldsList-from_slice_split}
use Rattle.std.proofs.Math.Seq.{drop-cons}
use Rattle.std.proofs.lemmas.List.{length_push, drop_all}
use borrow.Author.Tests.{le-leb, lt-leb}
use Rattle.ji.proofs.Bools.{and_yes, and_no, and_false}
use Rattle.khiin_entries.specs.KeySequence.{split}
use Rattle.khiin_entries.specs.Choices.{all_short, part_count}
use Rattle.khiin_entries.proofs.key_sequence.Splitting.{split_cut, is_space}
use Rattle.khiin_entries.proofs.key_sequence.count_parts.Goals as goal
use Rattle.khiin_entries.proofs.key_sequence.count_parts.Goals.{In-Some, In-None, then-parts-eq16-via-then-parts-eq16, then-parts-eq16-via-else-parts-eq16+then-part-gt256}

module _ (s : List ℕ) where
  count_as : (b : Bool) → (leb (length (split s)) 16 && all_short (split s)) ≡ b → cond b (Some (length (split s))) None ≡ part_count s
  unfolding part_count
  count_as b e = sym (ap (λ (x : Bool). cond x (Some (length (split s))) None) e)

  module _ (n : ℕ) (short : all_short (split s) ≡ all_short (drop n (split s))) where
    counted_all : n ≤ 16 → n ≡ length (split s) → Some n ≡ part_count s
    counted_all few all =
        let none : all_short (drop n (split s)) ≡ true = ap all_short (drop_all n (split s) (omega arith)) in
        let most : length (split s) ≤ 16 = omega arith in
        ap Some all ∙ count_as true (and_yes _ _ (le-leb _ _ most) ∙ short ∙ none)

    module _ (more : n < length (split s)) where
      counted_many : n ≡ 16 → None ≡ part_count s
      counted_many e = let many : 16 < length (split s) = omega arith in count_as false (and_no _ _ (lt-leb _ _ many))

      module _ (part : List ℕ) (is : part ≡ get_or (split s) n part) where
        next_short : all_short (split s) ≡ (leb (length part) 256 && all_short (drop (suc n) (split s)))
        next_short =
            short ∙ ap all_short (drop-cons (split s) n part more) ∙ ap (λ (w : List ℕ). leb (length w) 256 && all_short (drop (suc n) (split s))) (sym is)

        counted_long : 256 < length part → None ≡ part_count s
        counted_long l =
            count_as false (ap (λ (x : Bool). leb (length (split s)) 16 && x) (next_short ∙ and_no _ _ (lt-leb _ _ l)) ∙ and_false (leb (length (split s)) 16))

        counted_next : length part ≤ 256 → all_short (split s) ≡ all_short (drop (n + 1) (split s))
        counted_next l = next_short ∙ and_yes _ _ (le-leb _ _ l) ∙ ap (λ (m : ℕ). all_short (drop m (split s))) (sym (add-one n))

-- the part of this turn
turn : (t : In-Some) → (t.loop-part.parts < length (split t.args.entry.now)) × (t.in-Some.part.now ≡ get_or (split t.args.entry.now) t.loop-part.parts t.in-Some.part.now)
turn t =
    rw (t.loop-part.invariant.passed, ← split_cut t.args.entry.now)
    (YieldsList-turn (YieldsList-from_slice_split _ is_space t.args.entry.now (cc) (cc) (cc) (λ x b q k. search (rules, tests))) t.loop-part.yielded _ t.loop-part.yielded_by _ _ t.in-Some.part t.in-Some.is t.next.ensures.steps)

pub returns-then-parts-eq16 : goal.returns-then-parts-eq16
returns-then-parts-eq16 c =
    let t = turn (goal.at.returns-then-parts-eq16 c).In-Some in
    let short = c.loop-part.invariant.short in
    elim c.then-parts-eq16.either [ inl many ↦ counted_many _ _ short t.0 many | inr long ↦ counted_long _ _ short t.0 _ t.1 long.1 ]

pub loop-part-preserved : goal.loop-part-preserved
loop-part-preserved c =
    let t = turn (goal.at.loop-part-preserved c).In-Some in
    let was = c.loop-part.invariant in
    record {
      passed = ap (λ (n : ℕ). n + 1) was.passed ∙ sym (length_push _ _);
      few = omega arith;
      short = counted_next _ _ was.short t.0 _ t.1 c.if-part-gt256.false;
    }

-- every part had its turn
all : (t : In-None) → t.loop-part.parts ≡ length (split t.args.entry.now)
all t =
    t.loop-part.invariant.passed
    ∙ (YieldsList-end (YieldsList-from_slice_split _ is_space t.args.entry.now (cc) (cc) (cc) (λ x b q k. search (rules, tests))) t.loop-part.yielded _ t.loop-part.yielded_by _ _ t.in-None.is t.next.ensures.steps).1
    ∙ ap length (split_cut t.args.entry.now)

pub returns : goal.returns
returns c = let was = c.loop-part.invariant in counted_all c.args.entry.now _ was.short was.few (all (goal.at.returns c).In-None)
