-- NFC made in a buffer: the text is decomposed into it, put in order and composed there.
use mathlib.Core.Path.{◌≡◌, refl, sym, ap, ◌∙◌, subst}
use mathlib.Core.List.{List, ◌++◌, append_assoc}
use Prim.Native.Nat.{ℕ}
use lib.ListN.{length, take, drop}
use lib.Seq.{drop-append-le}
use Rattle.ucd.specs.Table.{Table}
use Rattle.ucd.specs.Full.{full}
use Rattle.ji.specs.Written.{Written}
use Rattle.ji.specs.Nfd.{order, nfd}
use Rattle.ji.specs.Nfc.{compose, nfc}
use Rattle.ji.specs.Reply.{over}
use Rattle.ji.proofs.Order.{order_length}
use Rattle.ji.proofs.Writing.{written_from, written_take, written_drop, written_over}

module _ (t : Table) where
  -- d is the buffer with the decomposed text, o the text in order, e what composing leaves of it
  module _ (s before d : List ℕ) (n : ℕ) (w : Written before d n (full t s)) (o : List ℕ) (is_o : o ≡ order t (take n d)) where
    ordered : o ≡ nfd t s
    unfolding nfd
    ordered = is_o ∙ ap (order t) (written_take w)

    size : length (nfd t s) ≡ n
    unfolding nfd
    size = order_length t (full t s) ∙ w.size

    whole : Written before (nfd t s ++ drop n d) n (nfd t s)
    whole = written_over w (nfd t s) size

    abbrev buffer : List ℕ
    buffer = o ++ drop n d

    buffer_is : buffer ≡ nfd t s ++ drop n d
    buffer_is = rw ordered refl

    part : take n buffer ≡ nfd t s
    part = ap (take n) buffer_is ∙ written_take whole

    rest : drop n buffer ≡ drop (length (nfd t s)) before
    rest = rw (buffer_is, size) (written_drop whole)

    module _ (r : ℕ) (e : List ℕ) (is_r : r ≡ length (compose t (take n buffer))) (is_e : e ≡ compose t (take n buffer) ++ drop r (take n buffer)) (kept : length e ≡ length (take n buffer)) where
      left : Written (nfd t s) e r (nfc t s)
      unfolding nfc
      left = subst (λ (u : List ℕ). Written u e r (compose t u)) part (written_from _ _ _ _ is_r is_e kept)

      pub normalised : (r ≡ length (nfc t s)) × (e ++ drop n buffer ≡ over (nfc t s) (over (nfd t s) before))
      normalised = (
        sym left.size,
        rw (rest, left.is, ← left.size) (append_assoc (nfc t s) (drop (length (nfc t s)) (nfd t s)) (drop (length (nfd t s)) before)
            ∙ ap (λ (u : List ℕ). nfc t s ++ u) (sym (drop-append-le (length (nfc t s)) (nfd t s) (drop (length (nfd t s)) before) (rw left.size left.fits)))),
      )
