use Rattle.std.proofs.Common.{◌≡◌, true, false, rules, tests}
use Rattle.std.proofs.lemmas.Iterator.{first_from_Range, serves_from_Range}
use lib.ListN.{drop}
use Rattle.khiin.specs.Compose.{is_pair}
use Rattle.khiin.proofs.syllable.compose.next_pair.Goals as goal

pub find-requires : goal.find-requires
find-requires c = record { can = tt; finite = tt; callable = serves_from_Range (λ x q k. search (rules, tests)) (λ x low high. search rules) }

pub returns : goal.returns
returns c =
    let s = c.args.s.now in
    first_from_Range _ _ _ _ (λ i. is_pair (drop i s) ≡ true) (λ i. is_pair (drop i s) ≡ false) c.find.ensures.ran
    (λ x q k. search (rules, tests))
    (λ x q k. (search rules, search (rules, tests)))
