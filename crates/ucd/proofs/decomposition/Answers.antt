-- `ucd::decomposition` meets its contract: nothing below 00C0 has a mapping, and the number of the rows is taken apart. The mapping determines the
-- decomposition. Assumes nothing.
use mathlib.Core.Path.{sym, ◌∙◌}
use Prim.Native.Nat.{◌/◌, ◌%◌}
use Rattle.ucd.specs.Unicode16.{unicode16}
use Rattle.ucd.specs.declared.Mapping.TheVariants.{Itself, One, Two}
use Rattle.ucd.proofs.Unicode16.{low_unmapped}
use Rattle.ucd.proofs.Answer.{text_told, mapping_none, mapping_one, mapping_two}
use Rattle.ucd.proofs.decomposition.Goals as goal

pub returns-then-c-lt192 : goal.returns-then-c-lt192
returns-then-c-lt192 c =
    let says = sym (low_unmapped c.args.c c.if-c-lt192.true) in
    record { text = text_told unicode16 c.args.c Itself says; mapping = says }

pub returns-then-number-eq0 : goal.returns-then-number-eq0
returns-then-number-eq0 c =
    let says = mapping_none c.mapping_number-number.result c.if-number-eq0.true ∙ c.mapping_number-number.ensures in
    record { text = text_told unicode16 c.args.c Itself says; mapping = says }

pub returns-then-second-eq0 : goal.returns-then-second-eq0
returns-then-second-eq0 c =
    let n = c.mapping_number-number.result in
    let says = mapping_one n c.if-number-eq0.false c.if-second-eq0.true ∙ c.mapping_number-number.ensures in
    record { text = text_told unicode16 c.args.c (One (n / 65536)) says; mapping = says }

pub returns-else-second-eq0 : goal.returns-else-second-eq0
returns-else-second-eq0 c =
    let n = c.mapping_number-number.result in
    let says = mapping_two n c.if-number-eq0.false c.if-second-eq0.false ∙ c.mapping_number-number.ensures in
    record { text = text_told unicode16 c.args.c (Two (n / 65536) (n % 65536)) says; mapping = says }
