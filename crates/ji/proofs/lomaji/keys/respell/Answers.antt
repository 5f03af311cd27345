-- `lomaji::keys::respell` meets its contract: the three parts of the rules, one after the other.
use mathlib.Core.Path.{◌≡◌, ◌∙◌}
use mathlib.Core.List.{List, ◌++◌}
use Prim.Native.Nat.{ℕ}
use lib.ListN.{take, drop}
use Rattle.ji.specs.Written.{Written}
use Rattle.ji.specs.Lomaji.Keys.{plain_rules, rules_of, respell}
use Rattle.ji.specs.declared.lomaji.keys.Form.{Form}
use Rattle.ji.proofs.Writing.{written_take, written_over}
use Rattle.ji.proofs.lomaji.keys.Laws.{respell_parts, respell_as_long, last_length}
use Rattle.ji.proofs.lomaji.keys.respell.Goals as goal

abbrev nasals : List ℕ → List ℕ
nasals s = respell (take 2 (drop 2 plain_rules)) s

-- s₁ is the text after the first part, which the second writes and the third changes in place to `last`
finished : (f : Form) (s s₁ before after last : List ℕ) (n : ℕ) → s₁ ≡ respell (take 2 (rules_of f)) s → Written before after n (nasals s₁) → last ≡ respell (drop 4 plain_rules) (take n after) → Written before (last ++ drop n after) n (respell (rules_of f) s)
finished f s s₁ before after last n e w b =
    rw (respell_parts f s, ← e, b, written_take w) (written_over w (respell (drop 4 plain_rules) (nasals s₁)) (last_length (nasals s₁) ∙ w.size))

pub respell_nasals-n-requires : goal.respell_nasals-n-requires
respell_nasals-n-requires c =
    rw (c.respell_o.ensures, ← respell_as_long c.args.form c.args.s.now) c.requires

pub returns : goal.returns
returns c =
    let below = c.respell_below in
    let nasal = c.respell_nasals-n in
    let a = c.args in
    (c.respell_o.ensures, finished a.form a.s.now c.respell_o.new.s a.out.now nasal.new.out below.new.s nasal.result c.respell_o.ensures nasal.ensures below.ensures)
