-- The reader's loop: what holds of the bytes that are read and of the buffer, and what each way out gives.
use mathlib.Core.Path.{◌≡◌, refl, sym, ap, ◌∙◌, subst}
use mathlib.Core.Bool.{Bool, true, false}
use mathlib.Core.List.{List, [], ◌∷◌, ◌++◌, append_assoc, append-nil}
use mathlib.Core.Option.{Option, none, some}
use Prim.Native.Nat.{ℕ, zero, suc, ◌+◌, ◌-◌, ◌*◌, ◌≤◌, ◌<◌}
use native.Mathlib.Omega.{arith}
use native.Mathlib.Decide.{dec_le}
use lib.Dec.{eqb}
use lib.ListN.{length, take, drop, get_or, length-drop, length-append}
use borrow.Author.Tests.{eqb-false}
use lib.Seq.{drop-cons, paste}
use Rattle.ucd.specs.Table.{Table, member, pick_text}
use Rattle.ucd.specs.Unicode16.{unicode16}
use Rattle.ji.specs.Written.{Written}
use Rattle.ji.specs.Utf8.{width_at, point_at, more, decode, is_decoded, bytes_of}
use Rattle.ji.specs.Unicode.{members, accepted_from, accepted, spread}
use Rattle.ji.specs.Reply.{good, bad, pick_checked, check_points}
use Rattle.ji.specs.Reading.{fault_in, Reading}
use Rattle.ji.specs.declared.reply.Refusal.TheVariants.{IllFormed, OutsideTable}
use Rattle.ji.proofs.Bools.{false_true}
use Rattle.ji.proofs.Writing.{written_none, written_run}
use Rattle.ji.proofs.utf8.Encoding.{bytes_one, bytes_two, bytes_three, bytes_four}
use Rattle.ji.proofs.utf8.Decoding.{width_length, decode_at_ill, decode_at, decode_end}
use Rattle.ji.proofs.utf8.RoundTrip.{bytes_back}
use Rattle.ji.proofs.unicode.Laws.{spread_nil, spread_append, spread_length, spread_low, members_append, members_not, members_one, accepted_ill, accepted_outside, accepted_at}
use Rattle.std.specs.Prelude.{Ok, Err}

-- ── room: a text of n bytes spreads to at most three code points for two bytes
bytes_many : (c : ℕ) → 0x7F < c → 2 ≤ length (bytes_of c)
bytes_many c h = by_size (dec_le c 0x7FF) (dec_le c 0xFFFF)
  where
    by_size : Dec (c ≤ 0x7FF) → Dec (c ≤ 0xFFFF) → 2 ≤ length (bytes_of c)
    by_size (yes k) q = omega (arith, ap length (bytes_two c h k))
    by_size (no k) (yes l) = omega (arith, ap length (bytes_three c (omega arith) l))
    by_size (no k) (no l) = omega (arith, ap length (bytes_four c (omega arith)))

pub spread_bytes : (d : Bool) (c : ℕ) → 2 * length (spread unicode16 d (c ∷ [])) ≤ 3 * length (bytes_of c)
spread_bytes d c = by_size (dec_le c 0x7F)
  where
    by_size : Dec (c ≤ 0x7F) → 2 * length (spread unicode16 d (c ∷ [])) ≤ 3 * length (bytes_of c)
    by_size (yes h) = omega (arith, spread_low d c (omega arith), ap length (bytes_one c h))
    by_size (no h) = omega (arith, spread_length d c, bytes_many c (omega arith))

take_most : (n : ℕ) (s : List ℕ) → length (take n s) ≤ n
take_most zero s = omega arith
take_most (suc n) [] = omega arith
take_most (suc n) (x ∷ s) = omega (arith, take_most n s)

spread_first : (d : Bool) (b : ℕ) (s : List ℕ) → 0 < width_at (b ∷ s) → 2 * length (spread unicode16 d (point_at (b ∷ s) ∷ [])) ≤ 3 * width_at (b ∷ s)
spread_first d b s k =
    omega (arith, spread_bytes d (point_at (b ∷ s)), ap length (bytes_back b s k), take_most (width_at (b ∷ s)) (b ∷ s))

pub spread_room : (d : Bool) (s : List ℕ) (i : ℕ) → i < length s → 0 < width_at (drop i s) → 2 * length (spread unicode16 d (point_at (drop i s) ∷ [])) ≤ 3 * width_at (drop i s)
spread_room d s i h k =
    let e = drop-cons s i 0 h in
    let first = spread_first d (get_or s i 0) (drop (suc i) s) (subst (λ (l : List ℕ). 0 < width_at l) e k) in
    subst (λ (l : List ℕ). 2 * length (spread unicode16 d (point_at l ∷ [])) ≤ 3 * width_at l) (sym e) first

-- a text or no text has few code points where each of the two has
few_picked : (d b : Bool) (u v : List ℕ) (n : ℕ) → (b ≡ true → 2 * length (spread unicode16 d u) ≤ n) → (b ≡ false → 2 * length (spread unicode16 d v) ≤ n)
    → 2 * length (spread unicode16 d (pick_text b u v)) ≤ n
few_picked d true u v n f g = f refl
few_picked d false u v n f g = g refl

few_none : (d : Bool) (n : ℕ) → 2 * length (spread unicode16 d []) ≤ n
few_none d n = omega (arith, ap length (spread_nil unicode16 d))

accepted_few : (d : Bool) (skip : ℕ) (s : List ℕ) → 2 * length (spread unicode16 d (accepted_from unicode16 skip s)) ≤ 3 * length (drop skip s)
unfolding accepted_from
accepted_few d skip [] = few_none d _
accepted_few d zero (b ∷ s) =
    few_picked d (eqb (width_at (b ∷ s)) 0) [] _ _ (λ e. few_none d _)
    (λ e.
    let k : 0 < width_at (b ∷ s) = let ne = eqb-false (width_at (b ∷ s)) 0 e in omega arith in
    few_picked d (member unicode16 (point_at (b ∷ s))) _ [] _
    (λ m.
    omega (
      arith,
      ap length (spread_append unicode16 d (point_at (b ∷ s) ∷ []) (accepted_from unicode16 (width_at (b ∷ s) - 1) s)),
      length-append (spread unicode16 d (point_at (b ∷ s) ∷ [])) (spread unicode16 d (accepted_from unicode16 (width_at (b ∷ s) - 1) s)),
      spread_first d b s k,
      accepted_few d (width_at (b ∷ s) - 1) s,
      width_length (b ∷ s),
      length-drop (width_at (b ∷ s) - 1) s,
    ))
    (λ m. few_none d _))
accepted_few d (suc skip) (b ∷ s) = accepted_few d skip s

pub accepted_room : (d : Bool) (s : List ℕ) → 2 * length (spread unicode16 d (accepted unicode16 s)) ≤ 3 * length s
unfolding accepted
accepted_room d s = accepted_few d 0 s

-- no sequence reaches past the end
pub width_within : (s : List ℕ) (i : ℕ) → i < length s → i + width_at (drop i s) ≤ length s
width_within s i h = omega (arith, width_length (drop i s), length-drop i s)

-- ── the loop
-- code points in front of what is still to be decoded
abbrev onto : List ℕ → Option (List ℕ) → Option (List ℕ)
onto w none = none
onto w (some s) = some (w ++ s)

onto_nil : (o : Option (List ℕ)) → o ≡ onto [] o
onto_nil none = refl
onto_nil (some s) = refl

onto_more : (w : List ℕ) (x : ℕ) (o : Option (List ℕ)) → onto w (more x o) ≡ onto (w ++ (x ∷ [])) o
onto_more w x none = refl
onto_more w x (some s) = ap some (sym (append_assoc w (x ∷ []) s))

-- the first i bytes of s are read: their code points are the text u, all of it in the table
pub record Taken (t : Table) (s u : List ℕ) (i : ℕ) : Type 0 where
  pub inside : members t u ≡ true
  pub decoded : decode s ≡ onto u (decode (drop i s))
  pub stops : accepted t s ≡ u ++ accepted t (drop i s)

module _ (t : Table) (s : List ℕ) where
  pub taken_start : Taken t s [] 0
  unfolding members
  taken_start = record { inside = refl; decoded = onto_nil (decode s); stops = refl }

  module _ (u : List ℕ) (i : ℕ) (r : Taken t s u i) where
    -- the whole text is good
    pub taken_end : length s ≤ i → check_points t (decode s) ≡ good u
    taken_end h =
        ap (check_points t) (r.decoded ∙ ap (onto u) (decode_end s i h) ∙ ap some (append-nil u))
        ∙ ap (λ (b : Bool). pick_checked b (good u) (bad OutsideTable)) r.inside

    -- nothing more is accepted: what is accepted of the text is what was taken
    pub taken_all : accepted t (drop i s) ≡ [] → accepted t s ≡ u
    taken_all e = r.stops ∙ ap (λ (l : List ℕ). u ++ l) e ∙ append-nil u

    -- what is left is ill formed
    taken_none : decode (drop i s) ≡ none → check_points t (decode s) ≡ bad IllFormed
    taken_none o = ap (check_points t) (r.decoded ∙ ap (onto u) o)

    pub taken_ill : i < length s → width_at (drop i s) ≡ 0 → check_points t (decode s) ≡ bad IllFormed
    taken_ill h e = taken_none (decode_at_ill s i h e)

    -- a code point outside the table: the rest decides between the two refusals
    module _ (h : i < length s) (k : 0 < width_at (drop i s)) (m : member t (point_at (drop i s)) ≡ false) where
      found : (o : Option (List ℕ)) → decode (drop (i + width_at (drop i s)) s) ≡ o → is_decoded (more (point_at (drop i s)) o) ≡ true → check_points t (decode s) ≡ bad OutsideTable
      found none e f = absurd (false_true f)
      found (some v) e f =
          ap (check_points t) (r.decoded ∙ ap (onto u) (decode_at s i h k ∙ ap (more (point_at (drop i s))) e))
          ∙ ap (λ (b : Bool). pick_checked b (good (u ++ (point_at (drop i s) ∷ v))) (bad OutsideTable)) (members_not t u (point_at (drop i s)) v r.inside m)

      pub taken_outside : is_decoded (decode (drop i s)) ≡ true → check_points t (decode s) ≡ bad OutsideTable
      taken_outside f = found (decode (drop (i + width_at (drop i s)) s)) refl (sym (ap is_decoded (decode_at s i h k)) ∙ f)

      undecoded : (o : Option (List ℕ)) → is_decoded o ≡ false → o ≡ none
      undecoded none f = refl
      undecoded (some v) f = absurd (false_true (sym f))

      pub taken_outside_ill : is_decoded (decode (drop i s)) ≡ false → check_points t (decode s) ≡ bad IllFormed
      taken_outside_ill f = taken_none (undecoded (decode (drop i s)) f)

      -- the two in one
      pub taken_fault : check_points t (decode s) ≡ bad (fault_in (decode (drop i s)))
      taken_fault = go (decode (drop i s)) refl
        where
          go : (o : Option (List ℕ)) → decode (drop i s) ≡ o → check_points t (decode s) ≡ bad (fault_in o)
          go none e = taken_outside_ill (ap is_decoded e)
          go (some v) e = taken_outside (ap is_decoded e)

    -- one more code point
    pub taken_more : i < length s → 0 < width_at (drop i s) → member t (point_at (drop i s)) ≡ true → Taken t s (u ++ (point_at (drop i s) ∷ [])) (i + width_at (drop i s))
    taken_more h k m =
        record {
          inside = members_append t u (point_at (drop i s) ∷ []) r.inside ∙ members_one t (point_at (drop i s)) m;
          decoded = r.decoded ∙ ap (onto u) (decode_at s i h k) ∙ onto_more u (point_at (drop i s)) (decode (drop (i + width_at (drop i s)) s));
          stops = r.stops ∙ ap (λ (l : List ℕ). u ++ l) (accepted_at t s i h k m) ∙ sym (append_assoc u (point_at (drop i s) ∷ []) (accepted t (drop (i + width_at (drop i s)) s)));
        }

-- the first i bytes of s are read, and n code points stand in the buffer
pub record Read (t : Table) (d : Bool) (s before after : List ℕ) (i n : ℕ) : Type 0 where
  pub taken : List ℕ
  pub text : Taken t s taken i
  pub short : 2 * n ≤ 3 * i
  pub written : Written before after n (spread t d taken)

module _ (t : Table) (d : Bool) (s before : List ℕ) where
  pub read_start : Read t d s before before 0 0
  read_start = record { taken = []; text = taken_start t s; short = omega arith; written = rw (spread_nil t d) (written_none before) }

  module _ (after : List ℕ) (i n : ℕ) (r : Read t d s before after i n) where
    -- the buffer of a text that is refused here
    left : accepted t (drop i s) ≡ [] → Written before after (length (spread t d (accepted t s))) (spread t d (accepted t s))
    left e = rw (taken_all t s r.taken i r.text e, r.written.size) r.written

    pub read_end : length s ≤ i → Reading t d s before after (Ok (record { 0 = n }))
    read_end h = (r.taken, taken_end t s r.taken i r.text h, r.written)

    module _ (h : i < length s) where
      pub read_ill : width_at (drop i s) ≡ 0 → Reading t d s before after (Err IllFormed)
      read_ill e = (taken_ill t s r.taken i r.text h e, left (accepted_ill t s i h e))

      module _ (k : 0 < width_at (drop i s)) where
        module _ (m : member t (point_at (drop i s)) ≡ false) where
          pub read_outside : is_decoded (decode (drop i s)) ≡ true → Reading t d s before after (Err OutsideTable)
          read_outside f = (taken_outside t s r.taken i r.text h k m f, left (accepted_outside t s i h k m))

          pub read_outside_ill : is_decoded (decode (drop i s)) ≡ false → Reading t d s before after (Err IllFormed)
          read_outside_ill f = (taken_outside_ill t s r.taken i r.text h k m f, left (accepted_outside t s i h k m))

          pub read_fault : Reading t d s before after (Err (fault_in (decode (drop i s))))
          read_fault = (taken_fault t s r.taken i r.text h k m, left (accepted_outside t s i h k m))

        -- a code point of the table is taken
        module _ (m : member t (point_at (drop i s)) ≡ true) where
          abbrev p : ℕ
          p = point_at (drop i s)

          -- what is accepted of the whole text has it behind what was taken
          pub read_room : length (spread t d (accepted t s)) ≤ length before → n + length (spread t d (p ∷ [])) ≤ length before
          read_room room =
              let rest = accepted t (drop (i + width_at (drop i s)) s) in
              let all : spread t d (accepted t s) ≡ spread t d r.taken ++ (spread t d (p ∷ []) ++ spread t d rest) =
              ap (spread t d) (r.text.stops ∙ ap (λ (l : List ℕ). r.taken ++ l) (accepted_at t s i h k m))
              ∙ spread_append t d r.taken (p ∷ rest)
              ∙ ap (λ (l : List ℕ). spread t d r.taken ++ l) (spread_append t d (p ∷ []) rest) in
              omega (arith, room, ap length all, length-append (spread t d r.taken) (spread t d (p ∷ []) ++ spread t d rest), length-append (spread t d (p ∷ [])) (spread t d rest), r.written.size)

          pub read_more : 2 * length (spread t d (p ∷ [])) ≤ 3 * width_at (drop i s) → n + length (spread t d (p ∷ [])) ≤ length before
              → Read t d s before (paste after n (spread t d (p ∷ [])) (length (spread t d (p ∷ [])))) (i + width_at (drop i s)) (n + length (spread t d (p ∷ [])))
          read_more few room =
              let q = r.short in
              record {
                taken = r.taken ++ (p ∷ []);
                text = taken_more t s r.taken i r.text h k m;
                short = omega arith;
                written = rw (spread_append t d r.taken (p ∷ [])) (written_run r.written (spread t d (p ∷ [])) room);
              }
