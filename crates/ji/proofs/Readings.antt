-- What the readers of a text say of the answer that they gave.
use mathlib.Core.Path.{◌≡◌, sym, ap, ◌∙◌, subst}
use mathlib.Core.Bool.{Bool, true}
use mathlib.Core.List.{List, ◌++◌}
use Prim.Native.Nat.{ℕ, ◌-◌, ◌≤◌, ◌<◌}
use native.Mathlib.Nat.{sub-zero}
use borrow.Author.Tests.{le-leb, lt-leb}
use lib.ListN.{length, take, drop}
use Rattle.ucd.specs.Table.{Table}
use Rattle.ji.specs.Written.{Written}
use Rattle.ji.specs.Unicode.{spread}
use Rattle.ji.specs.Nfd.{order, nfd}
use Rattle.ji.specs.Reading.{Reading, NfdReading}
use Rattle.ji.specs.declared.reply.Refusal.{Refusal}
use Rattle.ji.specs.declared.reply.Refusal.TheVariants.{TooLong}
use Rattle.ji.proofs.Bools.{text_yes, text_no}
use Rattle.ji.proofs.Writing.{written_take, written_over}
use Rattle.ji.proofs.Replies.{check_long, check_within_law}
use Rattle.ji.proofs.Order.{order_length}
use Rattle.std.specs.Prelude.{Result, Ok, Err}
use Rattle.ji.specs.declared.unicode.CharLen.{CharLen}

-- the front of a buffer that was written to, as a part `[0..n]` has it
pub front : {before after : List ℕ} {n : ℕ} {s : List ℕ} → Written before after n s → take (n - 0) after ≡ s
front {before} {after} {n} {s} w = ap (λ (k : ℕ). take k after) (sub-zero n) ∙ written_take w

module _ (t : Table) (s before after : List ℕ) where
  pub told : (d : Bool) {answer x : Result CharLen Refusal} → answer ≡ x → Reading t d s before after answer → Reading t d s before after x
  told d e h = subst (Reading t d s before after) e h

  pub nfd_told : {answer x : Result CharLen Refusal} → answer ≡ x → NfdReading t s before after answer → NfdReading t s before after x
  nfd_told e h = subst (NfdReading t s before after) e h

  -- a text that is too long, one that is refused as it is read, and one that was put in order
  pub nfd_long : 256 < length s → NfdReading t s before before (Err TooLong)
  nfd_long h = (check_long t s h, sym (text_no _ _ _ (lt-leb _ _ h)))

  module _ (h : length s ≤ 256) where
    pub nfd_refused : (why : Refusal) → Reading t true s before after (Err why) → NfdReading t s before after (Err why)
    nfd_refused why r = (check_within_law t s h ∙ r.0, r.1.is ∙ sym (text_yes _ _ _ (le-leb _ _ h)))

    pub nfd_ordered : (n : ℕ) (front' : List ℕ) → Reading t true s before after (Ok (record { 0 = n })) → front' ≡ order t (take n after) → NfdReading t s before (front' ++ drop n after) (Ok (record { 0 = n }))
    unfolding nfd spread
    nfd_ordered n front' r e =
        let w = r.2 in
        (r.0, check_within_law t s h ∙ r.1, rw (e, written_take w) (written_over w (order t (spread t true r.0)) (order_length t (spread t true r.0) ∙ w.size)))
