-- `Layout::count` meets its contract.
use Rattle.std.proofs.Common.{◌≡◌, ℕ, suc, ◌*◌, ◌≤◌, ◌<◌, List, sym, ap, ap₂, ◌∙◌, add-one, arith}
use Rattle.std.proofs.lemmas.List.{get_or-take, length-take}
use Rattle.khiin_entries.specs.Choices.{count_in}
use Rattle.khiin_entries.proofs.key_sequence.Laying.{count_fits}
use Rattle.khiin_entries.proofs.layout.Layout.count.Goals as goal
use Rattle.khiin_entries.proofs.layout.Layout.count.Goals.{After-from-count}

-- one factor more
module _ (t : After-from-count) where
  abbrev radices : List ℕ
  radices = t.args.self.now.choices.now.radices

  abbrev i : ℕ
  i = t.loop-radix.radix-index

  inside : i < t.args.self.now.parts
  inside = omega (arith, length-take t.args.self.now.parts radices)

  next : t.loop-radix.count * t.from-count.result ≡ count_in radices (suc i)
  next = ap₂ ◌*◌ t.loop-radix.invariant (t.from-count.ensures ∙ get_or-take t.args.self.now.parts radices i 0 inside)

  fits : count_in radices (suc i) ≤ 4294967296
  fits = count_fits radices (suc i) (omega (arith, inside, t.args.self.now.few)) (λ j k. (t.args.self.now.laid j (omega (arith, inside))).few)

pub overflow_mul-count : goal.overflow_mul-count
overflow_mul-count c = record { fits = omega (arith, next c, fits c) }

pub loop-radix-preserved : goal.loop-radix-preserved
loop-radix-preserved c = next c ∙ ap (count_in c.args.self.now.choices.now.radices) (sym (add-one c.loop-radix.radix-index))

pub returns : goal.returns
returns c =
    let layout = c.args.self.now in
    let z : c.loop-radix.radix-index ≡ layout.parts = omega (arith, layout.few, length-take layout.parts layout.choices.now.radices) in
    let is = c.loop-radix.invariant ∙ ap (count_in layout.choices.now.radices) z in
    (is, omega (arith, is, count_fits layout.choices.now.radices layout.parts layout.few (λ i k. (layout.laid i k).few)))
