use Rattle.std.proofs.lemmas.Result.{err_from_is_err_and}
use Rattle.ji.proofs.unicode.Reader.{accepted_room}
use mathlib.Core.Path.{◌≡◌, ap, ◌∙◌, subst}
use mathlib.Core.Bool.{true}
use mathlib.Core.List.{List}
use Prim.Native.Nat.{ℕ}
use Rattle.ucd.specs.Unicode16.{unicode16}
use Rattle.ji.specs.Nfd.{order}
use Rattle.ji.specs.Lomaji.Strip.{stripped_reply}
use Rattle.ji.specs.Reading.{Reading}
use Rattle.ji.proofs.Writing.{written_take}
use Rattle.ji.proofs.Replies.{check_within_law}
use Rattle.ji.proofs.lomaji.strip.Laws.{strip_refused, strip_good}
use native.Mathlib.Omega.{arith}
use Rattle.ji.proofs.lomaji.strip.strip_slowly_with.Goals as goal
use Rattle.std.specs.Prelude.{Result}
use Rattle.ji.specs.declared.unicode.CharLen.{CharLen}
use Rattle.ji.specs.declared.reply.Refusal.{Refusal}

-- what the reader says of the answer that it gave
told : (s before after : List ℕ) (answer x : Result CharLen Refusal) → answer ≡ x → Reading unicode16 true s before after answer → Reading unicode16 true s before after x
told s before after answer x e h = subst (Reading unicode16 true s before after) e h

pub returns-in_err-len : goal.returns-in_err-len
returns-in_err-len g c =
    let p = err_from_is_err_and c.from_residual.result c.from_residual.ensures.1 in
    rw (p.1, p.2) (strip_refused unicode16 c.args.text.now c.args.out.now _ (check_within_law unicode16 c.args.text.now c.requires.0 ∙ (told _ _ _ _ _ c.in_err-len.was c.decode.ensures).0))

pub returns : goal.returns
returns g c =
    let h = told _ _ _ _ _ c.in_ok-len.was c.decode.ensures in
    c.finish.ensures
    ∙ ap (λ (s : List ℕ). stripped_reply (order unicode16 s) c.args.out.now) (written_take h.2)
    ∙ strip_good unicode16 c.args.text.now c.args.out.now h.0 (check_within_law unicode16 c.args.text.now c.requires.0 ∙ h.1)

pub decode-requires : goal.decode-requires
decode-requires g c = omega (arith, accepted_room true c.args.text.now, c.requires)
