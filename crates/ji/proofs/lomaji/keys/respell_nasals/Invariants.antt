-- `lomaji::keys::respell_nasals` meets its contract. The loop's invariant: what the two passes make of the text so far is written up to n.
use mathlib.Core.List.{List}
use Prim.Native.Nat.{ℕ}
use lib.ListN.{take, drop}
use Rattle.ji.specs.Lomaji.Keys.{plain_rules, respell}
use Rattle.ji.proofs.Underway.{Underway}
use Rattle.ji.proofs.lomaji.keys.respell_nasals.Given as goal

abbrev pub nasals : List ℕ → List ℕ
nasals s = respell (take 2 (drop 2 plain_rules)) s

abbrev pub invariant-loop-c : goal.invariant-loop-c
invariant-loop-c l = Underway nasals l.src l.initial.out l.out l.c-index l.n
