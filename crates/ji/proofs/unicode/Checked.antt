-- What a check of a text says of it, and that the bytes of any text of the table pass.
use mathlib.Core.Path.{◌≡◌, refl, sym, ap, ◌∙◌}
use mathlib.Core.Bool.{Bool, true, false}
use mathlib.Core.List.{List}
use mathlib.Core.Option.{Option, none, some}
use Prim.Native.Nat.{ℕ, ◌≤◌, ◌<◌}
use native.Mathlib.Omega.{arith}
use borrow.Author.Tests.{leb-true}
use lib.Dec.{leb}
use lib.ListN.{length}
use Rattle.ucd.specs.Table.{Table}
use Rattle.ucd.specs.Unicode16.{unicode16}
use Rattle.ucd.proofs.Tests.{true_passes}
use Rattle.ucd.proofs.Unicode16.{member_below}
use Rattle.ji.specs.Text.{last}
use Rattle.ji.specs.Utf8.{decode, encode, last_point}
use Rattle.ji.specs.Unicode.{members}
use Rattle.ji.specs.Reply.{good, bad, pick_checked, check_points, check_within, check_text}
use Rattle.ji.specs.declared.reply.Refusal.{Refusal}
use Rattle.ji.specs.declared.reply.Refusal.TheVariants.{TooLong, OutsideTable}
use Rattle.ji.proofs.Replies.{within_points}
use Rattle.ji.proofs.unicode.Laws.{members_all}
use Rattle.ji.proofs.utf8.Last.{point_bytes}
use Rattle.ji.proofs.utf8.RoundTrip.{decode_encode, encode_decode}

-- the bytes of a text of the table are read back
pub read_back : (s : List ℕ) → members unicode16 s ≡ true → decode (encode s) ≡ some s
read_back s h = decode_encode s (members_all unicode16 (λ x. x < 0xD800) (λ c m. member_below c (true_passes _ m)) s h)

-- the last code point is read back from the end of the bytes
pub last_back : (s : List ℕ) → members unicode16 s ≡ true → last_point (encode s) ≡ last s
last_back s h = point_bytes s (members_all unicode16 (λ x. x < 0xD800) (λ c m. member_below c (true_passes _ m)) s h)

-- and are that text
pub points_good : (s : List ℕ) → members unicode16 s ≡ true → check_points unicode16 (decode (encode s)) ≡ good s
points_good s h = ap (check_points unicode16) (read_back s h) ∙ ap (λ (b : Bool). pick_checked b (good s) (bad OutsideTable)) h

pub bytes_good : (bytes s : List ℕ) → members unicode16 s ≡ true → bytes ≡ encode s → check_points unicode16 (decode bytes) ≡ good s
bytes_good bytes s h is = ap (λ (l : List ℕ). check_points unicode16 (decode l)) is ∙ points_good s h

-- so that they pass the check
pub check_passes : (limit : ℕ) (s : List ℕ) → members unicode16 s ≡ true → length (encode s) ≤ limit → check_within unicode16 limit (encode s) ≡ good s
check_passes limit s h short =
    within_points unicode16 (encode s) limit short ∙ points_good s h

-- a text is good in one way only, and not bad
pub good_same : {s u : List ℕ} → good s ≡ good u → s ≡ u
good_same e = cc

pub good_not_bad : {s : List ℕ} {why : Refusal} → good s ≡ bad why → ⊥
good_not_bad e = let z : ◌≡◌ {A = ℕ} 0 1 = cc in omega arith

-- what was found good is short enough, and the bytes of a text of the table
pub record Passed (t : Table) (limit : ℕ) (bytes s : List ℕ) : Type 0 where
  pub short : length bytes ≤ limit
  pub inside : members t s ≡ true
  pub written : encode s ≡ bytes

module _ (t : Table) (limit : ℕ) (bytes s : List ℕ) where
  by_members : (u : List ℕ) (b : Bool) → members t u ≡ b → pick_checked b (good u) (bad OutsideTable) ≡ good s → (u ≡ s) × (members t s ≡ true)
  by_members u true m e = let f : u ≡ s = cc in (f, ap (members t) (sym f) ∙ m)
  by_members u false m e = absurd (let z : ◌≡◌ {A = ℕ} 0 1 = cc in omega arith)

  by_points : (o : Option (List ℕ)) → decode bytes ≡ o → check_points t o ≡ good s → (members t s ≡ true) × (encode s ≡ bytes)
  by_points none d e = absurd (let z : ◌≡◌ {A = ℕ} 0 1 = cc in omega arith)
  by_points (some u) d e =
      let f = by_members u (members t u) refl e in
      (f.1, encode_decode bytes s (d ∙ ap some f.0))

  by_length : (b : Bool) → leb (length bytes) limit ≡ b → pick_checked b (check_points t (decode bytes)) (bad TooLong) ≡ good s → Passed t limit bytes s
  by_length true l e =
      let f = by_points (decode bytes) refl e in
      record { short = leb-true (length bytes) limit l; inside = f.0; written = f.1 }
  by_length false l e = absurd (let z : ◌≡◌ {A = ℕ} 0 1 = cc in omega arith)

  pub check_passed : check_within t limit bytes ≡ good s → Passed t limit bytes s
  unfolding check_within
  check_passed e = by_length (leb (length bytes) limit) refl e

-- the same of a text of at most 256 bytes, and of one of any length
pub text_passed : (bytes s : List ℕ) → check_text unicode16 bytes ≡ good s → Passed unicode16 256 bytes s
unfolding check_text
text_passed bytes s e = check_passed unicode16 256 bytes s e

pub points_passed : (bytes s : List ℕ) → check_points unicode16 (decode bytes) ≡ good s → Passed unicode16 (length bytes) bytes s
points_passed bytes s e = check_passed unicode16 (length bytes) bytes s (within_points unicode16 bytes (length bytes) (omega arith) ∙ e)
