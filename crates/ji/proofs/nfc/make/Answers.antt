-- `nfc::make` meets its contract: the buffer has three places for each code point.
use Rattle.ucd.specs.Unicode16.{unicode16}
use Rattle.ji.proofs.nfc.Laws.{normalised}
use Rattle.ji.proofs.nfc.make.Goals as goal

pub returns : goal.returns
returns c =
    let a = c.args in
    let d = c.decompose-n in
    let o = c.order in
    let k = c.compose in
    normalised unicode16 a.s.now a.work.now d.new.out d.result d.ensures o.new.s o.ensures k.result k.new.s k.ensures.0 k.ensures.1 k.auto.s
