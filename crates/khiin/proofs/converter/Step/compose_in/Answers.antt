use Rattle.std.proofs.lemmas.Result.{err_from_is_err_and}
use mathlib.Core.Path.{◌≡◌, sym, ap, ◌∙◌, subst}
use mathlib.Core.List.{List, [], ◌∷◌, ◌++◌}
use Prim.Native.Nat.{ℕ, ◌+◌, ◌≤◌}
use lib.ListN.{length, take, set, length-set}
use lib.Seq.{length-take-le}
use Rattle.ji.specs.Unicode.{unicode16}
use Rattle.ji.specs.Utf8.{decode, encode}
use Rattle.ji.specs.Written.{Written}
use Rattle.ji.specs.Reply.{placed, good, check_points}
use Rattle.ji.specs.declared.unicode.CharLen.{CharLen}
use Rattle.ji.proofs.Writing.{written_length, written_take}
use Rattle.ji.proofs.Points.{points_done, points_refused}
use Rattle.ji.proofs.unicode.Checked.{bytes_good, good_same, good_not_bad}
use Rattle.khiin.specs.Telex.{composed_of, RestIn}
use Rattle.khiin.proofs.syllable.compose.Reading.{fewer}
use Rattle.khiin.proofs.converter.Laws.{key_behind, key_stored}
use native.Mathlib.Omega.{arith}
use Rattle.khiin.proofs.converter.Step.compose_in.Goals as goal
use Rattle.khiin.proofs.converter.Step.compose_in.Goals.{After-code_points}
use Rattle.std.specs.Prelude.{Ok}

-- the stripped text was read
module _ (c : After-code_points) where
  abbrev n : ℕ
  n = c.args.n

  abbrev part : List ℕ
  part = take n c.args.bytes.now

  abbrev after : List ℕ
  after = c.code_points.new.out

  size : length (take n c.args.bytes.now) ≡ n
  size = let p = c.requires.0 in length-take-le n c.args.bytes.now (omega (arith, p))

  room : length part ≤ length c.args.points.now
  room = let p = c.requires.1 in omega (arith, size, p)

  module _ (h : RestIn c.args.bytes.now n) where
    good_rest : check_points unicode16 (decode part) ≡ good h.rest
    good_rest = bytes_good part h.rest h.inside h.written

    fewest : length h.rest ≤ n
    fewest = omega (arith, fewer h.rest, ap length h.written, size)

    module _ (len : CharLen) (is : c.code_points.result ≡ Ok len) where
      read : Written c.args.points.now after len.0 h.rest
      read =
          let g = points_done part c.args.points.now after room c.code_points.ensures len is in
          subst (λ (l : List ℕ). Written c.args.points.now after len.0 l) (good_same (sym g.1 ∙ good_rest)) g.2

      raw_is : take (n + 1) (set c.args.bytes.now n c.args.self.key) ≡ encode (take len.0 after ++ (c.args.self.key ∷ []))
      raw_is =
          let key = c.args.self.key in
          key_stored c.args.bytes.now n key c.requires.0
          ∙ ap (λ (l : List ℕ). l ++ (key ∷ [])) h.written
          ∙ key_behind h.rest key c.args.self.ascii
          ∙ ap (λ (l : List ℕ). encode (l ++ (key ∷ []))) (sym (written_take read))

pub bounds-bytes-n : goal.bounds-bytes-n
bounds-bytes-n c = c.requires.0

pub slice_bounds-compose_step-end : goal.slice_bounds-compose_step-end
slice_bounds-compose_step-end c = omega (arith, c.requires.0, length-set c.args.bytes.now c.args.n c.args.self.key)

pub compose_step-requires : goal.compose_step-requires
compose_step-requires c =
    let w = read (goal.at.compose_step-requires c).After-code_points c.requires.3 c.in_ok-count.count c.in_ok-count.was in
    (omega (arith, w.size, c.requires.3.few), omega (arith, w.size, fewest (goal.at.compose_step-requires c).After-code_points c.requires.3, written_length w, c.requires.2), raw_is (goal.at.compose_step-requires c).After-code_points c.requires.3 c.in_ok-count.count c.in_ok-count.was)

pub returns-in_err-count : goal.returns-in_err-count
returns-in_err-count c =
    let p = err_from_is_err_and c.from_residual.result c.from_residual.ensures.1 in
    rw (p.1, p.2) (λ h.
    let at_points = (goal.at.returns-in_err-count c).After-code_points in
    absurd (good_not_bad (sym (good_rest at_points h) ∙ points_refused (part at_points) c.args.points.now c.code_points.new.out (room at_points) c.code_points.ensures c.in_err-count.field-0.0 c.in_err-count.was)))

pub returns : goal.returns
returns c =
    λ h.
    c.compose_step.ensures
    ∙ ap (λ (l : List ℕ). placed 0 (encode (composed_of unicode16 c.args.self.keys c.args.self.key c.args.self.tone l)) c.args.out.now) (written_take (read (goal.at.returns c).After-code_points h c.in_ok-count.count c.in_ok-count.was))
