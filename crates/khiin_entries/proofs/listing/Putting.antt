-- Lines that are written one behind the other.
use mathlib.Core.Path.{◌≡◌, refl, sym, ap, ap₂, ◌∙◌}
use mathlib.Core.List.{List, [], ◌∷◌, ◌++◌, append_assoc, append-nil}
use Prim.Native.Nat.{ℕ, zero, suc, ◌+◌, ◌-◌, ◌≤◌, ◌<◌}
use native.Mathlib.Decide.{dec_le}
use native.Mathlib.Numerals.{add-one}
use native.Mathlib.Omega.{arith}
use lib.ListN.{length, take, drop, get_or, set, length-append, length-drop, take-append-drop, drop_of_length-le}
use lib.Seq.{length-take-le, drop-cons, drop-drop, paste}
use Rattle.ji.specs.Written.{Written}
use Rattle.ji.proofs.Writing.{written_length, written_take, written_drop, written_one, written_run}
use Rattle.khiin_entries.specs.Listing.{together, fitting, going_in}
use Rattle.khiin_entries.specs.Lines.{Put, shown_text, Shown, Following}
use Rattle.khiin_entries.proofs.listing.Fitting.{together_append, fit_one, fit_none, fit_most, fit_all, fit_part, going_none, going_one, going_whole, going_all, going_part}

-- ── texts
pub put_start : (before : List ℕ) (at : ℕ) → at ≤ length before → Put before before at [] at
put_start before at h = record { is = sym (take-append-drop at before); ends = omega arith; fits = h }

pub put_as : {before after : List ℕ} {at : ℕ} {text text' : List ℕ} {end : ℕ} → text ≡ text' → Put before after at text end → Put before after at text' end
put_as e h = rw (← e) h

pub put_to : {before after : List ℕ} {at : ℕ} {text : List ℕ} {end end' : ℕ} → end ≡ end' → Put before after at text end → Put before after at text end'
put_to e h = rw (← e) h

module _ {before after : List ℕ} {at : ℕ} {text : List ℕ} {end : ℕ} (h : Put before after at text end) where
  front : length (take at before) ≡ at
  front = length-take-le at before (omega (arith, h.ends, h.fits))

  -- the text with what stands before it
  whole : Written before after end (take at before ++ text)
  whole =
      record {
        is = h.is ∙ sym (append_assoc (take at before) text (drop end before));
        size = length-append (take at before) text ∙ ap (λ (n : ℕ). n + length text) front ∙ sym h.ends;
        fits = h.fits;
      }

  pub put_length : length after ≡ length before
  put_length = written_length whole

  cut : {after' text' : List ℕ} {end' : ℕ} → Written before after' end' (take at before ++ text') → Put before after' at text' end'
  cut {after'} {text'} {end'} w =
      record {
        is = w.is ∙ append_assoc (take at before) text' (drop end' before);
        ends = sym w.size ∙ length-append (take at before) text' ∙ ap (λ (n : ℕ). n + length text') front;
        fits = w.fits;
      }

  -- one more byte, stored, or a text more
  pub put_byte : (x : ℕ) → end < length before → Put before (set after end x) at (text ++ (x ∷ [])) (end + 1)
  put_byte x room = cut (rw (← append_assoc (take at before) text (x ∷ [])) (written_one whole x room))

  pub put_run : (r : List ℕ) → end + length r ≤ length before → Put before (paste after end r (length r)) at (text ++ r) (end + length r)
  put_run r room = cut (rw (← append_assoc (take at before) text r) (written_run whole r room))

  -- what was put behind it
  pub put_then : {later more : List ℕ} {last : ℕ} → Put after later end more last → Put before later at (text ++ more) last
  put_then {later} {more} {last} g =
      let z : end + (last - end) ≡ last = omega (arith, g.ends) in
      let rest : drop last after ≡ drop last before = ap (λ (n : ℕ). drop n after) (sym z) ∙ sym (drop-drop (last - end) end after) ∙ ap (drop (last - end)) (written_drop whole) ∙ drop-drop (last - end) end before ∙ ap (λ (n : ℕ). drop n before) z in
      record {
        is = g.is
            ∙ ap₂ (λ (x y : List ℕ). x ++ (more ++ y)) (written_take whole) rest
            ∙ append_assoc (take at before) text (more ++ drop last before)
            ∙ ap (λ (l : List ℕ). take at before ++ l) (sym (append_assoc text more (drop last before)));
        ends = omega (arith, g.ends, h.ends, length-append text more);
        fits = omega (arith, g.fits, put_length);
      }

-- ── lines of one list
-- from `from` up to p they are written
pub record Showing (ls : List (List ℕ)) (from at : ℕ) (before after : List ℕ) (p end : ℕ) : Type 0 where
  pub done : List ℕ
  pub put : Put before after at done end
  pub whole : done ++ shown_text ls p (length before - end) ≡ shown_text ls from (length before - at)
  pub count : p + fitting (drop p ls) (length before - end) ≡ from + fitting (drop from ls) (length before - at)

pub showing_start : (ls : List (List ℕ)) (from at : ℕ) (before : List ℕ) → at ≤ length before → Showing ls from at before before from at
showing_start ls from at before h = record { done = []; put = put_start before at h; whole = refl; count = refl }

module _ {ls : List (List ℕ)} {from at : ℕ} {before after : List ℕ} {p end : ℕ} (h : Showing ls from at before after p end) where
  -- one line more
  module _ (more : p < length ls) (line : List ℕ) (is : get_or ls p [] ≡ line) where
    here : drop p ls ≡ line ∷ drop (suc p) ls
    here = drop-cons ls p [] more ∙ ap (λ (l : List ℕ). l ∷ drop (suc p) ls) is

    pub showing_next : (after' : List ℕ) (end' : ℕ) → Put after after' end line end' → Showing ls from at before after' (p + 1) end'
    unfolding shown_text
    showing_next after' end' g =
        let put = h.put in
        let n : length after ≡ length before = put_length put in
        let e : end' ≡ end + length line = g.ends in
        let fits : length line ≤ length before - end = omega (arith, g.fits) in
        let room : length before - end - length line ≡ length before - end' = omega arith in
        let text : together (going_in (drop p ls) (length before - end)) ≡ line ++ together (going_in (drop (suc p) ls) (length before - end')) =
        ap (λ (l : List (List ℕ)). together (going_in l (length before - end))) here
        ∙ ap together (going_one line (drop (suc p) ls) (length before - end) fits)
        ∙ ap (λ (m : ℕ). line ++ together (going_in (drop (suc p) ls) m)) room in
        let size : fitting (drop p ls) (length before - end) ≡ suc (fitting (drop (suc p) ls) (length before - end')) =
        ap (λ (l : List (List ℕ)). fitting l (length before - end)) here
        ∙ fit_one line (drop (suc p) ls) (length before - end) fits
        ∙ ap (λ (m : ℕ). suc (fitting (drop (suc p) ls) m)) room in
        rw (add-one p)
        (record {
          done = h.done ++ line;
          put = put_then put g;
          whole = append_assoc h.done line _ ∙ ap (λ (l : List ℕ). h.done ++ l) (sym text) ∙ h.whole;
          count = omega (arith, size, h.count);
        })

  -- no line more
  pub showing_end : fitting (drop p ls) (length before - end) ≡ 0 → Shown ls from at before after p end
  unfolding shown_text
  showing_end none =
      let text = ap together (going_none (drop p ls) (length before - end) none) in
      record {
        count = omega (arith, h.count);
        text = put_as (sym (append-nil h.done) ∙ ap (λ (l : List ℕ). h.done ++ l) (sym text) ∙ h.whole) h.put;
      }

  pub showing_over : (more : p < length ls) (line : List ℕ) → get_or ls p [] ≡ line → length before - end < length line → Shown ls from at before after p end
  showing_over more line is k =
      showing_end (ap (λ (l : List (List ℕ)). fitting l (length before - end)) (here more line is) ∙ fit_none line (drop (suc p) ls) (length before - end) k)

  pub showing_all : length ls ≤ p → Shown ls from at before after p end
  showing_all k = showing_end (ap (λ (l : List (List ℕ)). fitting l (length before - end)) (drop_of_length-le ls k))

-- nothing of the list is left
pub shown_none : (ls : List (List ℕ)) (from at : ℕ) (before : List ℕ) → at ≤ length before → length ls ≤ from → Shown ls from at before before from at
shown_none ls from at before h k = showing_all (showing_start ls from at before h) k

-- ── a list behind another
drop_both : (from : ℕ) (p q : List (List ℕ)) → drop from (p ++ q) ≡ drop from p ++ drop (from - length p) q
drop_both zero p q = let z : 0 - length p ≡ 0 = omega arith in rw z
drop_both (suc from) [] q = let z : suc from - 0 ≡ suc from = omega arith in rw z
drop_both (suc from) (l ∷ p) q = let z : suc from - suc (length p) ≡ from - length p = omega arith in rw z (drop_both from p q)

module _ (p q : List (List ℕ)) (from at : ℕ) (before mid after : List ℕ) (next end next' end' : ℕ)
    (h : Shown p from at before mid next end) (g : Following q (length p) next end mid after next' end') where
  abbrev room : ℕ
  room = length before - at

  -- the lines of each that are left
  abbrev d : List (List ℕ)
  d = drop from p

  abbrev e : List (List ℕ)
  e = drop (from - length p) q

  d_length : length d ≡ length p - from
  d_length = length-drop from p

  -- all of p are written: then come those of q
  late : length p ≤ next → Shown (p ++ q) from at before after next' end'
  unfolding shown_text
  late k =
      let most : fitting d room ≤ length d = fit_most d room in
      let all : fitting d room ≡ length d = omega (arith, h.count, d_length) in
      let first : Put before mid at (together d) end = put_as (ap together (going_whole d room all)) h.text in
      let n : length mid ≡ length before = put_length first in
      let at_end : end ≡ at + length (together d) = first.ends in
      let left : length mid - end ≡ room - length (together d) = omega arith in
      let skip : next - length p ≡ from - length p = omega (arith, h.count, d_length) in
      let s = g.late k in
      let then : Put mid after end (together (going_in e (room - length (together d)))) end' = put_as (ap₂ (λ (m r : ℕ). together (going_in (drop m q) r)) skip left) s.1.text in
      let behind : end' ≡ end + length (together (going_in e (room - length (together d)))) = then.ends in
      let size : fitting (drop from (p ++ q)) room ≡ length d + fitting e (room - length (together d)) = ap (λ (l : List (List ℕ)). fitting l room) (drop_both from p q) ∙ fit_all d e room all in
      let size_q : fitting (drop (next - length p) q) (length mid - end) ≡ fitting e (room - length (together d)) = ap₂ (λ (m r : ℕ). fitting (drop m q) r) skip left in
      let text : together (going_in (drop from (p ++ q)) room) ≡ together d ++ together (going_in e (room - length (together d))) =
      ap (λ (l : List (List ℕ)). together (going_in l room)) (drop_both from p q) ∙ ap together (going_all d e room all) ∙ together_append d (going_in e (room - length (together d))) in
      record {
        count = omega (arith, s.0, s.1.count, h.count, d_length);
        text = put_as (sym text) (put_then first then);
      }

  -- a line of p did not go in
  early : next < length p → Shown (p ++ q) from at before after next' end'
  unfolding shown_text
  early k =
      let most : fitting d room ≤ length d = fit_most d room in
      let part : fitting d room < length d = omega (arith, h.count, d_length) in
      let size : fitting (drop from (p ++ q)) room ≡ fitting d room = ap (λ (l : List (List ℕ)). fitting l room) (drop_both from p q) ∙ fit_part d e room part in
      let text : together (going_in (drop from (p ++ q)) room) ≡ together (going_in d room) = ap (λ (l : List (List ℕ)). together (going_in l room)) (drop_both from p q) ∙ ap together (going_part d e room part) in
      let same = g.early k in
      rw (same.0, same.1, same.2) (record { count = omega (arith, h.count); text = put_as (sym text) h.text })

  pub following : Shown (p ++ q) from at before after next' end'
  following = go (dec_le (length p) next)
    where
      go : Dec (length p ≤ next) → Shown (p ++ q) from at before after next' end'
      go (yes k) = late k
      go (no k) = early (omega arith)
