use mathlib.Core.Path.{◌≡◌, sym, ap, ◌∙◌, subst}
use mathlib.Core.Bool.{true, false}
use mathlib.Core.List.{List}
use Prim.Native.Nat.{ℕ, ◌+◌, ◌*◌, ◌≤◌, ◌<◌}
use lib.ListN.{length, take}
use Rattle.ucd.specs.Unicode16.{unicode16}
use Rattle.ji.specs.Utf8.{decode, encode}
use Rattle.ji.specs.Written.{Written}
use Rattle.ji.specs.Reading.{Reading}
use Rattle.ji.specs.Reply.{good, check_points, placed}
use Rattle.ji.specs.Lomaji.Keys.{rules_of, respell, key_text}
use Rattle.ji.specs.declared.unicode.CharLen.{CharLen}
use Rattle.ji.specs.declared.lomaji.keys.Form.{Form}
use Rattle.ji.proofs.Writing.{written_length, written_run, written_take}
use Rattle.ji.proofs.Readings.{told}
use Rattle.ji.proofs.utf8.OneToOne.{fewer}
use Rattle.ji.proofs.unicode.Laws.{spread_plain}
use Rattle.ji.proofs.unicode.Checked.{bytes_good, points_passed, good_same, good_not_bad}
use Rattle.ji.proofs.lomaji.keys.Laws.{respell_length, key_length}
use native.Mathlib.Omega.{arith}
use Rattle.ji.proofs.lomaji.keys.place_respelled.Goals as goal
use Rattle.std.specs.Prelude.{Result, Option, Ok}
use Rattle.ji.specs.declared.reply.Refusal.{Refusal}
use Rattle.ji.specs.Unicode.{members}

-- the code points were read
module _ (bytes before after : List ℕ) (len : CharLen) {answer : Result CharLen Refusal} (was : answer ≡ Ok len) (reading : Reading unicode16 false bytes before after answer) where
  abbrev u : List ℕ
  u = (told unicode16 bytes before after false was reading).0

  passes : check_points unicode16 (decode bytes) ≡ good u
  passes = (told unicode16 bytes before after false was reading).1

  read : Written before after len.0 u
  read = subst (λ (l : List ℕ). Written before after len.0 l) (spread_plain unicode16 u) (told unicode16 bytes before after false was reading).2

  same : (rest : List ℕ) → members unicode16 rest ≡ true → bytes ≡ encode rest → take len.0 after ≡ rest
  same rest inside is = written_take read ∙ good_same (sym passes ∙ bytes_good bytes rest inside is)

  -- there is room for the letters, and for the key behind them
  module _ (form : Form) (room : ℕ) (enough : 2 * length bytes < room) where
    letters_few : length (respell (rules_of form) (take len.0 after)) < room
    letters_few =
        rw (written_take read) (omega (arith, respell_length form u, fewer u, ap length (points_passed bytes u passes).written))

    key_room : (key : Option ℕ) {letters letters' : List ℕ} {m : ℕ} → Written letters letters' m (respell (rules_of form) (take len.0 after)) → m + length (key_text key) ≤ room
    key_room key w = omega (arith, w.size, letters_few, key_length key)

pub respell-n-requires : goal.respell-n-requires
respell-n-requires g c =
    let few = letters_few c.args.stripped.now _ _ _ c.in_ok-len.was c.read_points.ensures c.args.form g.row.LETTERS c.requires.letters.0 in
    omega arith

pub put_key-end-requires : goal.put_key-end-requires
put_key-end-requires g c =
    let w = c.respell-n.ensures.1 in
    let room = key_room c.args.stripped.now _ _ _ c.in_ok-len.was c.read_points.ensures c.args.form g.row.LETTERS c.requires.letters.0 c.args.key w in
    omega (arith, written_length w)

pub returns-in_err-len : goal.returns-in_err-len
returns-in_err-len g c =
    λ rest inside is.
    absurd (good_not_bad (sym (bytes_good _ rest inside is) ∙ (told unicode16 _ _ _ false c.in_err-len.was c.read_points.ensures).0))

pub returns : goal.returns
returns g c =
    λ rest inside is.
    let a = c.args in
    let put = c.put_key-end.ensures in
    let room = key_room a.stripped.now _ _ _ c.in_ok-len.was c.read_points.ensures a.form g.row.LETTERS c.requires.letters.0 a.key c.respell-n.ensures.1 in
    let w = rw (same a.stripped.now _ _ _ c.in_ok-len.was c.read_points.ensures rest inside is) at c.respell-n.ensures.1 in
    c.place.ensures
    ∙ ap (λ (l : List ℕ). placed 0 (encode l) a.out.now) (rw (put.0, put.1) (written_take (written_run w (key_text a.key) (omega arith))))
