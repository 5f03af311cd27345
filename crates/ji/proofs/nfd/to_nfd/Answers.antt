use Rattle.std.proofs.lemmas.Result.{err_from_is_err_and}
use mathlib.Core.Path.{ap, ◌∙◌}
use mathlib.Core.List.{List}
use Prim.Native.Nat.{ℕ}
use Rattle.ucd.specs.Unicode16.{unicode16}
use Rattle.ji.specs.Utf8.{encode}
use Rattle.ji.specs.Nfd.{nfd}
use Rattle.ji.specs.Reply.{placed}
use Rattle.ji.proofs.Writing.{written_take}
use Rattle.ji.proofs.Replies.{text_refused, text_good}
use Rattle.ji.proofs.Readings.{nfd_told}
use Rattle.ji.proofs.nfd.to_nfd.Goals as goal

pub returns-in_err-len : goal.returns-in_err-len
returns-in_err-len c =
    let p = err_from_is_err_and c.from_residual.result c.from_residual.ensures.1 in
    rw (p.1, p.2) (let a = c.args in
    text_refused unicode16 (nfd unicode16) a.text.now a.out.now _ (nfd_told unicode16 _ _ _ c.in_err-len.was c.read_nfd.ensures).0)

pub returns : goal.returns
returns c =
    let a = c.args in
    let h = nfd_told unicode16 _ _ _ c.in_ok-len.was c.read_nfd.ensures in
    c.place.ensures ∙ ap (λ (s : List ℕ). placed 0 (encode s) a.out.now) (written_take h.2) ∙ text_good unicode16 (nfd unicode16) a.text.now a.out.now h.0 h.1
