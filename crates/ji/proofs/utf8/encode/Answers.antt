use mathlib.Core.Path.{◌≡◌, refl, sym, ap, ◌∙◌}
use mathlib.Core.List.{List, [], ◌++◌, append_assoc, append-nil}
use Prim.Native.Nat.{ℕ, ◌+◌, ◌≤◌, ◌<◌}
use lib.ListN.{length, drop, get_or, length-append}
use lib.Seq.{paste}
use Rattle.ji.specs.Written.{Written}
use Rattle.ji.specs.Utf8.{bytes_of, encode}
use Rattle.ji.proofs.Writing.{written_none, written_run, written_length}
use Rattle.ji.proofs.utf8.Encoding.{encode_at, encode_end}
use native.Mathlib.Omega.{arith}
use Rattle.ji.proofs.utf8.encode.Goals as goal

module _ (s d : List ℕ) (room : length (encode s) ≤ length d) (out : List ℕ) (i n : ℕ) (h : ((w : List ℕ) × Written d out n w × (w ++ encode (drop i s) ≡ encode s))) (left : i < length s) where
  turn : h.0 ++ bytes_of (get_or s i 0) ++ encode (drop (i + 1) s) ≡ encode s
  turn = append_assoc h.0 (bytes_of (get_or s i 0)) (encode (drop (i + 1) s)) ∙ ap (λ (t : List ℕ). h.0 ++ t) (sym (encode_at s i left)) ∙ h.2

  room_left : n + length (bytes_of (get_or s i 0)) ≤ length d
  room_left = omega (arith, h.1.size, simp length-append at (ap length turn))

  again : (r : ℕ) (out' : List ℕ) → r ≡ n + length (bytes_of (get_or s i 0)) → out' ≡ paste out n (bytes_of (get_or s i 0)) (length (bytes_of (get_or s i 0))) → ((w : List ℕ) × Written d out' r w × (w ++ encode (drop (i + 1) s) ≡ encode s))
  again r out' er eo = (h.0 ++ bytes_of (get_or s i 0), rw (er, eo) (written_run h.1 (bytes_of (get_or s i 0)) room_left), turn)

pub loop-c-init : goal.loop-c-init
loop-c-init c = ([], written_none c.args.out.now, refl)

pub put_point-n-requires : goal.put_point-n-requires
put_point-n-requires c =
    let l = c.loop-c in
    rw c.from.ensures (omega (arith, c.type_inv.s l.c-index), rw (written_length l.invariant.1) (room_left c.args.s.now c.args.out.now c.requires l.out l.c-index l.n l.invariant (omega arith)))

pub loop-c-preserved : goal.loop-c-preserved
loop-c-preserved c =
    let l = c.loop-c in
    let r = c.put_point-n in
    again c.args.s.now c.args.out.now c.requires l.out l.c-index l.n l.invariant (omega arith) r.result r.new.out (rw (← c.from.ensures) r.ensures.0) (rw (← c.from.ensures) r.ensures.1)

pub returns : goal.returns
returns c =
    let l = c.loop-c in
    let a = c.args in
    rw (← l.invariant.2, encode_end a.s.now l.c-index (omega arith), append-nil l.invariant.0) l.invariant.1
