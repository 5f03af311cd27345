use mathlib.Core.Path.{◌≡◌, sym, subst}
use Prim.Native.Nat.{ℕ}
use Rattle.khiin.specs.Compose.{JoinedAs}
use Rattle.khiin.specs.declared.syllable.marking.Joined.{Joined}
use Rattle.khiin.proofs.syllable.marking.join.Goals as goal

known : (x : ℕ) (r : Joined) {mark k : ℕ} → mark ≡ k → JoinedAs x k r → JoinedAs x mark r
known x r e h = subst (λ (m : ℕ). JoinedAs x m r) (sym e) h

pub returns-in-768 : goal.returns-in-768
returns-in-768 c = known c.args.x c.grave.result c.in-768.is c.grave.ensures

pub returns-in-769 : goal.returns-in-769
returns-in-769 c = known c.args.x c.acute.result c.in-769.is c.acute.ensures

pub returns-in-770 : goal.returns-in-770
returns-in-770 c = known c.args.x c.circumflex.result c.in-770.is c.circumflex.ensures

pub returns-in-771 : goal.returns-in-771
returns-in-771 c = known c.args.x c.tilde.result c.in-771.is c.tilde.ensures

pub returns-in-772 : goal.returns-in-772
returns-in-772 c = known c.args.x c.macron.result c.in-772.is c.macron.ensures

pub returns-in-774 : goal.returns-in-774
returns-in-774 c = known c.args.x c.breve.result c.in-774.is c.breve.ensures

pub returns-in-781 : goal.returns-in-781
returns-in-781 c = known c.args.x c.line.result c.in-781.is c.line.ensures
