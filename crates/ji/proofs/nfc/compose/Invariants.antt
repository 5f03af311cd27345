-- `ji::nfc::compose` meets its contract. The loop's invariant: composing on from what is done and what is left gives the whole.
use Rattle.ucd.specs.Unicode16.{unicode16}
use Rattle.ji.proofs.ComposeLoops.{Composing}
use Rattle.ji.proofs.nfc.compose.Given as goal

abbrev pub invariant-loop-i : goal.invariant-loop-i
invariant-loop-i l = Composing unicode16 l.initial.s l.s l.n l.i
