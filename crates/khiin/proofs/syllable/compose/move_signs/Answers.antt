use mathlib.Core.Path.{sym, subst}
use lib.ListN.{length}
use Rattle.khiin.specs.Compose.{Front, NoSignBefore}
use Rattle.khiin.proofs.syllable.compose.Laws.{front_whole}
use Rattle.khiin.proofs.syllable.compose.Once.{moved_none_lone}
use Rattle.khiin.proofs.syllable.compose.move_signs.Goals as goal

pub returns-else-has_sign : goal.returns-else-has_sign
returns-else-has_sign c =
    let s = c.args.s.now in
    let n = c.has_sign.ensures c.if-has_sign.false in
    record {
      front = subst (Front s (length s)) (sym (moved_none_lone s n)) (front_whole s);
      lone = λ e. subst NoSignBefore (sym (moved_none_lone s n)) n;
    }
