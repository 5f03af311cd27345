use mathlib.Core.Path.{◌≡◌}
use Prim.Native.Nat.{◌+◌}
use lib.ListN.{length, drop}
use Rattle.ji.specs.Utf8.{encode}
use Rattle.ji.proofs.utf8.fits.Given as goal

abbrev pub invariant-loop-c : goal.invariant-loop-c
invariant-loop-c l = (length (encode l.s) + l.left ≡ l.room + length (encode (drop l.c-index l.s)))
