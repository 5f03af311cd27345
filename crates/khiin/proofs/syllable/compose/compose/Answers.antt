use Rattle.std.proofs.lemmas.Result.{err_from_is_err_and}
use mathlib.Core.Path.{◌≡◌, sym, ap, ◌∙◌, refl}
use mathlib.Core.List.{List}
use Prim.Native.Nat.{ℕ}
use Rattle.ji.specs.Unicode.{unicode16}
use Rattle.ji.specs.Utf8.{encode}
use Rattle.ji.specs.Reply.{Reply, Checked, good, bad, check_within, check_text, verdict_of}
use Rattle.ji.specs.declared.reply.Refusal.{Refusal}
use Rattle.ji.specs.declared.tone.Tone.{Tone}
use Rattle.ji.specs.declared.lomaji.khin.Khin.{Khin}
use Rattle.ji.proofs.Replies.{check_long}
use Rattle.ji.proofs.unicode.Bytes.{encode_one_to_one}
use Rattle.ji.proofs.unicode.Checked.{check_passed}
use Rattle.khiin.specs.Syllable.{compose_of, compose_call}
use borrow.Author.Rules.{rules}
use native.Mathlib.Omega.{arith}
use Rattle.khiin.proofs.syllable.compose.compose.Goals as goal
use Rattle.std.specs.Prelude.{Ok, Err}

-- what a verdict says
found_good : (k : Checked) → Ok tt ≡ verdict_of k → (s : List ℕ) × (k ≡ good s)
found_good (good s) e = (s, refl)
found_good (bad why) e = absurd (let z : ◌≡◌ {A = ℕ} 0 1 = cc in omega arith)

found_bad : (k : Checked) {why : Refusal} → Err why ≡ verdict_of k → k ≡ bad why
found_bad (good s) e = absurd (let z : ◌≡◌ {A = ℕ} 0 1 = cc in omega arith)
found_bad (bad w) e = cc

-- the raw input is good, and is s
module _ (raw : List ℕ) (s : List ℕ) (is_good : check_within unicode16 256 raw ≡ good s) where
  written : raw ≡ encode s
  written = sym (check_passed unicode16 256 raw s is_good).written

  -- the reply to it
  called : (body : List ℕ) (tone : Tone) (khin : Khin) (buffer points : List ℕ) {r : Reply} → raw ≡ encode points → r ≡ compose_of unicode16 tone khin (good points) (check_text unicode16 body) buffer → r ≡ compose_call unicode16 raw body tone khin buffer
  unfolding compose_call check_text
  called body tone khin buffer points is h =
      h
      ∙ ap (λ (p : List ℕ). compose_of unicode16 tone khin (good p) (check_text unicode16 body) buffer) (encode_one_to_one points s (sym is ∙ written))
      ∙ sym (ap (λ (k : Checked). compose_of unicode16 tone khin k (check_text unicode16 body) buffer) is_good)

pub returns-then-body-gt256 : goal.returns-then-body-gt256
returns-then-body-gt256 c =
    let a = c.args in
    let g = found_good (check_within unicode16 256 a.raw.now) (sym c.in_ok-check.was ∙ c.check.ensures) in
    called a.raw.now g.0 g.1 a.body.now a.tone a.khin a.out.now _ (written a.raw.now g.0 g.1)
    (sym (ap (λ (x : Checked). compose_of unicode16 a.tone a.khin (good g.0) x a.out.now) (check_long unicode16 a.body.now c.if-body-gt256.true)))

pub returns-in_err-check : goal.returns-in_err-check
unfolding compose_call check_text
returns-in_err-check c =
    let p = err_from_is_err_and c.from_residual.result c.from_residual.ensures.1 in
    rw (p.1, p.2) (let a = c.args in
    let g = found_bad (check_within unicode16 256 a.raw.now) (sym c.in_err-check.was ∙ c.check.ensures) in
    sym (ap (λ (x : Checked). compose_of unicode16 a.tone a.khin x (check_text unicode16 a.body.now) a.out.now) g))

pub invariant_of-compose_any : goal.invariant_of-compose_any
invariant_of-compose_any c =
    let g = found_good (check_within unicode16 256 c.args.raw.now) (sym c.in_ok-check.was ∙ c.check.ensures) in
    record { input = record { points = g.0; is = written c.args.raw.now g.0 g.1 } }

pub returns : goal.returns
returns c =
    let a = c.args in
    let g = found_good (check_within unicode16 256 a.raw.now) (sym c.in_ok-check.was ∙ c.check.ensures) in
    called a.raw.now g.0 g.1 a.body.now a.tone a.khin a.out.now _ (search rules) c.compose_any.ensures
