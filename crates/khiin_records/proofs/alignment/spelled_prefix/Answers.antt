use mathlib.Core.Path.{sym, ◌∙◌}
use mathlib.Core.Bool.{true, false}
use Rattle.khiin_records.proofs.Prefixes.{prefix_fits, nearest_alone, nearest_of_two}
use Rattle.khiin_records.proofs.alignment.spelled_prefix.Goals as goal

pub returns-then-takes_later : goal.returns-then-takes_later
returns-then-takes_later c =
    let earlier = c.candidate_prefix-earlier in
    let later = c.candidate_prefix-later in
    record {
      inside = rw later.ensures (prefix_fits _ _);
      shared = λ u e.
          nearest_of_two c.args.keys.bytes.now c.args.text.ending.tone c.args.text.ending.khin u c.args.text.rest.now e c.args.keys.ascii earlier.result later.result earlier.ensures later.ensures
          (sym c.holds_dot.ensures ∙ c.if-holds_dot.true) true (sym c.takes_later.ensures ∙ c.if-takes_later.true);
    }

pub returns-else-takes_later : goal.returns-else-takes_later
returns-else-takes_later c =
    let earlier = c.candidate_prefix-earlier in
    let later = c.candidate_prefix-later in
    record {
      inside = rw earlier.ensures (prefix_fits _ _);
      shared = λ u e.
          nearest_of_two c.args.keys.bytes.now c.args.text.ending.tone c.args.text.ending.khin u c.args.text.rest.now e c.args.keys.ascii earlier.result later.result earlier.ensures later.ensures
          (sym c.holds_dot.ensures ∙ c.if-holds_dot.true) false (sym c.takes_later.ensures ∙ c.if-takes_later.false);
    }

pub returns-else-holds_dot : goal.returns-else-holds_dot
returns-else-holds_dot c =
    let earlier = c.candidate_prefix-earlier in
    record {
      inside = rw earlier.ensures (prefix_fits _ _);
      shared = λ u e.
          nearest_alone c.args.keys.bytes.now c.args.text.ending.tone c.args.text.ending.khin u c.args.text.rest.now e c.args.keys.ascii earlier.result earlier.ensures (sym c.holds_dot.ensures ∙ c.if-holds_dot.false);
    }
