-- `listing::count_dotted` meets its contract.
use Rattle.std.proofs.Common.{◌≡◌, ℕ, ◌+◌, Bool, true, false, cond, List, [], ◌∷◌, length, refl, ap, ◌∙◌, arith, rules, tests}
use Rattle.std.specs.List.{filter}
use Rattle.std.proofs.lemmas.Iterator.Consumers.{YieldsList-from_filter, count_from_yields_List}
use Rattle.std.proofs.lemmas.Iterator.Splits.{YieldsList-from_slice_split}
use Rattle.ji.specs.Lomaji.Dot.{dot_in}
use Rattle.ji.specs.Unicode.{pick_number}
use Rattle.khiin_entries.specs.KeySequence.{split}
use Rattle.khiin_entries.specs.Lines.{dotted_in}
use Rattle.khiin_entries.proofs.key_sequence.Splitting.{is_space, split_cut}
use Rattle.khiin_entries.proofs.listing.count_dotted.Goals as goal

dotted_more : (b : Bool) (w : List ℕ) (ws : List (List ℕ)) (n : ℕ) → length ws ≡ n → length (cond b (w ∷ ws) ws) ≡ pick_number b 1 0 + n
dotted_more true w ws n e = omega arith
dotted_more false w ws n e = omega arith

dotted_filter : (ws : List (List ℕ)) → length (filter dot_in ws) ≡ dotted_in ws
unfolding dotted_in
dotted_filter [] = refl
dotted_filter (w ∷ ws) = dotted_more (dot_in w) w (filter dot_in ws) (dotted_in ws) (dotted_filter ws)

pub returns : goal.returns
returns c =
    count_from_yields_List c.filter.result _ c.count.ensures.ran
    (YieldsList-from_filter _ dot_in (YieldsList-from_slice_split _ is_space c.args.entry.now (cc) (cc) (cc) (λ x b q k. search (rules, tests))) c.filter.ensures.closure (λ x b q k. search (rules, tests)))
    ∙ ap (λ (ws : List (List ℕ)). length (filter dot_in ws)) (split_cut c.args.entry.now)
    ∙ dotted_filter (split c.args.entry.now)
