use mathlib.Core.Path.{◌≡◌, sym}
use Prim.Native.Nat.{◌≤◌}
use lib.ListN.{length}
use Rattle.std.specs.Prelude.{Some}
use Rattle.std.proofs.iter.Serving.{serving}
use Rattle.ji.specs.declared.unicode.CharLen.{CharLen}
use Rattle.ji.proofs.lomaji.tone_letter.Laws.{tone_letter_below, letter_found}
use native.Mathlib.Omega.{arith}
use Rattle.ji.proofs.lomaji.tone_letter.letter_in.Goals as goal

pub map-requires : goal.map-requires
map-requires c =
    let s = c.args.s.now in
    let inside : (x : CharLen) → c.tone_position.result ≡ Some x → x.0 ≤ length s = λ x e. let below = tone_letter_below s _ (sym (letter_found s e c.tone_position.ensures)) in omega arith in
    grind (serving, inside)
