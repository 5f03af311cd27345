use mathlib.Core.Path.{sym}
use borrow.Author.Tests.{le-leb, lt-leb}
use lib.ListN.{length}
use Rattle.ji.specs.Utf8.{encode}
use Rattle.ji.proofs.utf8.Encoding.{length_at, length_end}
use native.Mathlib.Omega.{arith}
use Rattle.ji.proofs.utf8.fits.Goals as goal

pub returns-in_default : goal.returns-in_default
returns-in_default c =
    let l = c.loop-c in
    let a = c.args in
    sym (lt-leb (length (encode a.s.now)) a.room (omega (arith, length_at a.s.now l.c-index (omega arith))))

pub loop-c-preserved : goal.loop-c-preserved
loop-c-preserved c =
    let l = c.loop-c in
    let a = c.args in
    omega (arith, length_at a.s.now l.c-index (omega arith))

pub returns : goal.returns
returns c =
    let l = c.loop-c in
    let a = c.args in
    sym (le-leb (length (encode a.s.now)) a.room (omega (arith, length_end a.s.now l.c-index (omega arith))))
