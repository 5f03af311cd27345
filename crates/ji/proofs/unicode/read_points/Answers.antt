-- `unicode::read_points` meets its contract.
use mathlib.Core.Bool.{false}
use mathlib.Core.Path.{sym, ◌∙◌}
use Rattle.ucd.specs.Unicode16.{unicode16}
use Rattle.ji.proofs.unicode.Ascii.{ascii_good}
use Rattle.ji.proofs.unicode.Laws.{spread_plain}
use Rattle.ji.proofs.unicode.Reader.{accepted_room}
use native.Mathlib.Omega.{arith}
use Rattle.ji.proofs.unicode.read_points.Goals as goal

pub returns-then-is_ascii : goal.returns-then-is_ascii
returns-then-is_ascii c =
    let s = c.args.text.now in
    (s, ascii_good s (sym c.is_ascii.ensures ∙ c.if-is_ascii.true), rw (spread_plain unicode16 s) c.widen.ensures)

pub decode-requires : goal.decode-requires
decode-requires c = omega (arith, accepted_room false c.args.text.now)
