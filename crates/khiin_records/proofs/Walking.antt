-- Laws of the walk over the bytes of a stripped text (`Walking`): what stands at a place, and how each turn takes the walk further.
use mathlib.Core.Path.{◌≡◌, refl, sym, ap, ◌∙◌, subst}
use mathlib.Core.Bool.{Bool, true, false, ◌&&◌}
use mathlib.Core.List.{List, [], ◌∷◌, ◌++◌, append_assoc}
use Prim.Native.Nat.{ℕ, zero, suc, ◌+◌, ◌-◌, ◌≤◌, ◌<◌}
use native.Mathlib.Numerals.{add-one}
use native.Mathlib.Omega.{arith}
use borrow.Author.Tests.{ne_eqb}
use lib.Dec.{eqb}
use lib.ListN.{length, take, drop, get_or, set, drop_of_length-le, length-append, length-drop, take-append-drop}
use lib.Seq.{drop-cons, set_at, append_snoc, drop-drop, length-take-le}
use Rattle.ji.specs.Text.{points, begins}
use Rattle.ji.specs.Unicode.{listed}
use Rattle.ji.specs.Written.{Written}
use Rattle.ji.proofs.Bools.{false_true, and_left, and_no, and_false}
use Rattle.ji.proofs.Writing.{written_none, written_one, written_run, written_drop, written_length, stores_2}
use Rattle.ji.proofs.text.Laws.{drop_next, begins_length, begins_short}
use Rattle.khiin_records.specs.RawBytes.{takes_below, first_of, second_of, dot, nasal, below, Body, body_from, body_of, count_of, byte_before, Walking}
use Rattle.khiin_records.proofs.RawBytes.{from_dot, from_nasal, from_below, from_copy}

-- ── what stands at a place
pub begins_first : (a : ℕ) (p s : List ℕ) (i : ℕ) → i < length s → begins (a ∷ p) (drop i s) ≡ (eqb (get_or s i 0) a && begins p (drop (i + 1) s))
unfolding begins
begins_first a p s i h = ap (begins (a ∷ p)) (drop_next s i h)

pub begins_nothing : (s : List ℕ) → begins [] s ≡ true
unfolding begins
begins_nothing s = refl

-- what a text begins with fits into it
pub begins_fits : (p s : List ℕ) (i : ℕ) → i ≤ length s → begins p (drop i s) ≡ true → i + length p ≤ length s
begins_fits p s i h e = omega (arith, begins_length p (drop i s) e, length-drop i s)

pub before_next : (s : List ℕ) (i : ℕ) → byte_before s (i + 1) ≡ get_or s i 0
before_next s i = ap (byte_before s) (add-one i)

pub before_some : (s : List ℕ) (i : ℕ) → 0 < i → byte_before s i ≡ get_or s (i - 1) 0
before_some s zero h = absurd (omega arith)
before_some s (suc i) h = ap (λ (k : ℕ). get_or s k 0) (omega arith)

-- ── one turn of the walk
-- the rest of a sequence is passed over
skipped : (vowel : ℕ) (d : List ℕ) (t : Bool) (s : List ℕ) (k i : ℕ) → i + k ≤ length s
    → body_from vowel k d t (byte_before s i) (drop i s) ≡ body_from vowel 0 d t (byte_before s (i + k)) (drop (i + k) s)
unfolding body_from
skipped vowel d t s zero i h = let e : i ≡ i + 0 = omega arith in ap (λ (j : ℕ). body_from vowel 0 d t (byte_before s j) (drop j s)) e
skipped vowel d t s (suc k) i h =
    let e : i + 1 + k ≡ i + suc k = omega arith in
    ap (body_from vowel (suc k) d t (byte_before s i)) (drop_next s i (omega arith))
    ∙ ap (λ (b : ℕ). body_from vowel k d t b (drop (i + 1) s)) (sym (before_next s i))
    ∙ skipped vowel d t s k (i + 1) (omega arith)
    ∙ ap (λ (j : ℕ). body_from vowel 0 d t (byte_before s j) (drop j s)) e

module _ (vowel : ℕ) (d : List ℕ) (t : Bool) (s : List ℕ) (i : ℕ) (more : i < length s) where
  abbrev here : Body
  here = body_from vowel 0 d t (byte_before s i) (drop i s)

  at_place : drop i s ≡ get_or s i 0 ∷ drop (i + 1) s
  at_place = drop_next s i more

  -- what is left once a sequence that begins here is passed over
  onward : (p : List ℕ) (u : Bool) (k : ℕ) → i + 1 + k ≤ length s
      → body_from vowel k p u (get_or s i 0) (drop (i + 1) s) ≡ body_from vowel 0 p u (byte_before s (i + 1 + k)) (drop (i + 1 + k) s)
  onward p u k h = ap (λ (b : ℕ). body_from vowel k p u b (drop (i + 1) s)) (sym (before_next s i)) ∙ skipped vowel p u s k (i + 1) h

  at_dot : begins dot (drop i s) ≡ true → here ≡ body_from vowel 0 (d ++ (vowel ∷ [])) true (byte_before s (i + 2)) (drop (i + 2) s)
  at_dot e =
      let f : i + 1 + 1 ≡ i + 2 = omega arith in
      ap (body_from vowel 0 d t (byte_before s i)) at_place
      ∙ from_dot vowel d t (byte_before s i) (get_or s i 0) (drop (i + 1) s) (ap (begins dot) (sym at_place) ∙ e)
      ∙ onward (d ++ (vowel ∷ [])) true 1 (omega (arith, begins_fits dot s i (omega arith) e))
      ∙ ap (λ (j : ℕ). body_from vowel 0 (d ++ (vowel ∷ [])) true (byte_before s j) (drop j s)) f

  module _ (no_dot : begins dot (drop i s) ≡ false) where
    at_nasal : begins nasal (drop i s) ≡ true → here ≡ body_from vowel 0 (d ++ points "nn") t (byte_before s (i + 3)) (drop (i + 3) s)
    at_nasal e =
        let f : i + 1 + 2 ≡ i + 3 = omega arith in
        ap (body_from vowel 0 d t (byte_before s i)) at_place
        ∙ from_nasal vowel d t (byte_before s i) (get_or s i 0) (drop (i + 1) s) (ap (begins dot) (sym at_place) ∙ no_dot) (ap (begins nasal) (sym at_place) ∙ e)
        ∙ onward (d ++ points "nn") t 2 (omega (arith, begins_fits nasal s i (omega arith) e))
        ∙ ap (λ (j : ℕ). body_from vowel 0 (d ++ points "nn") t (byte_before s j) (drop j s)) f

    module _ (no_nasal : begins nasal (drop i s) ≡ false) where
      abbrev letters : List ℕ
      letters = take (length d - 1) d ++ (first_of (byte_before s i) ∷ second_of (byte_before s i) ∷ [])

      at_below : (begins below (drop i s) && takes_below (byte_before s i)) ≡ true → here ≡ body_from vowel 0 letters t (byte_before s (i + 2)) (drop (i + 2) s)
      at_below e =
          let f : i + 1 + 1 ≡ i + 2 = omega arith in
          ap (body_from vowel 0 d t (byte_before s i)) at_place
          ∙ from_below vowel d t (byte_before s i) (get_or s i 0) (drop (i + 1) s) (ap (begins dot) (sym at_place) ∙ no_dot) (ap (begins nasal) (sym at_place) ∙ no_nasal)
          (ap (λ (l : List ℕ). begins below l && takes_below (byte_before s i)) (sym at_place) ∙ e)
          ∙ onward letters t 1 (omega (arith, begins_fits below s i (omega arith) (and_left (begins below (drop i s)) (takes_below (byte_before s i)) e)))
          ∙ ap (λ (j : ℕ). body_from vowel 0 letters t (byte_before s j) (drop j s)) f

      at_copy : (begins below (drop i s) && takes_below (byte_before s i)) ≡ false → here ≡ body_from vowel 0 (d ++ (get_or s i 0 ∷ [])) t (byte_before s (i + 1)) (drop (i + 1) s)
      at_copy e =
          ap (body_from vowel 0 d t (byte_before s i)) at_place
          ∙ from_copy vowel d t (byte_before s i) (get_or s i 0) (drop (i + 1) s) (ap (begins dot) (sym at_place) ∙ no_dot) (ap (begins nasal) (sym at_place) ∙ no_nasal)
          (ap (λ (l : List ℕ). begins below l && takes_below (byte_before s i)) (sym at_place) ∙ e)
          ∙ ap (λ (b : ℕ). body_from vowel 0 (d ++ (get_or s i 0 ∷ [])) t b (drop (i + 1) s)) (sym (before_next s i))

-- the last element that was written is taken back, and two are written
module _ {before after : List ℕ} {n : ℕ} {d : List ℕ} (w : Written before after n d) (some : 0 < n) where
  abbrev kept : List ℕ
  kept = take (n - 1) d

  kept_length : length kept ≡ n - 1
  kept_length = length-take-le (n - 1) d (omega (arith, w.size))

  parted : kept ++ (get_or d (n - 1) 0 ∷ []) ≡ d
  parted =
      ap (λ (l : List ℕ). kept ++ l)
      (sym (drop-cons d (n - 1) 0 (omega (arith, w.size)) ∙ ap (λ (l : List ℕ). get_or d (n - 1) 0 ∷ l) (drop_of_length-le d {i = suc (n - 1)} (omega (arith, w.size)))))
      ∙ take-append-drop (n - 1) d

  taken_back : (x : ℕ) → Written before (set after (n - 1) x) n (kept ++ (x ∷ []))
  taken_back x =
      record {
        is = ap (λ (l : List ℕ). set l (n - 1) x) (w.is ∙ ap (λ (l : List ℕ). l ++ drop n before) (sym parted) ∙ append_snoc kept (get_or d (n - 1) 0) (drop n before))
            ∙ set_at kept (get_or d (n - 1) 0) (drop n before) x (n - 1) kept_length
            ∙ sym (append_snoc kept x (drop n before));
        size = length-append kept (x ∷ []) ∙ ap (λ (k : ℕ). k + 1) kept_length ∙ omega arith;
        fits = w.fits;
      }

  written_back : (x y : ℕ) → n < length before → Written before (set (set after (n - 1) x) n y) (n + 1) (take (length d - 1) d ++ (x ∷ y ∷ []))
  written_back x y more =
      subst (λ (l : List ℕ). Written before (set (set after (n - 1) x) n y) (n + 1) l)
      (append_assoc kept (x ∷ []) (y ∷ []) ∙ ap (λ (k : ℕ). take (k - 1) d ++ (x ∷ y ∷ [])) (sym w.size))
      (written_one (taken_back x) y more)

module _ {vowel : ℕ} {s before after : List ℕ} {i n count : ℕ} (h : Walking vowel s before after i n count) (more : i < length s) where
  pub walk_dot : begins dot (drop i s) ≡ true → n < length before → Walking vowel s before (set after n vowel) (i + 2) (n + 1) 2
  walk_dot e room =
      record {
        inside = begins_fits dot s i (omega arith) e;
        shorter = omega (arith, h.shorter);
        longer = omega (arith, h.longer);
        done = h.done ++ (vowel ∷ []);
        dotted = true;
        counted = refl;
        written = written_one h.written vowel room;
        rest = sym (at_dot vowel h.done h.dotted s i more e) ∙ h.rest;
      }

  module _ (no_dot : begins dot (drop i s) ≡ false) where
    pub walk_nasal : begins nasal (drop i s) ≡ true → n + 2 ≤ length before → Walking vowel s before (set (set after n 110) (n + 1) 110) (i + 3) (n + 2) count
    walk_nasal e room =
        record {
          inside = begins_fits nasal s i (omega arith) e;
          shorter = omega (arith, h.shorter);
          longer = omega (arith, h.longer);
          done = h.done ++ points "nn";
          dotted = h.dotted;
          counted = h.counted;
          written = rw (stores_2 after n 110 110 (omega (arith, written_length h.written))) (written_run h.written (points "nn") room);
          rest = sym (at_nasal vowel h.done h.dotted s i more no_dot e) ∙ h.rest;
        }

    module _ (no_nasal : begins nasal (drop i s) ≡ false) where
      pub walk_below : (begins below (drop i s) && takes_below (byte_before s i)) ≡ true → 0 < n → n < length before
          → Walking vowel s before (set (set after (n - 1) (first_of (byte_before s i))) n (second_of (byte_before s i))) (i + 2) (n + 1) count
      walk_below e some room =
          record {
            inside = begins_fits below s i (omega arith) (and_left (begins below (drop i s)) (takes_below (byte_before s i)) e);
            shorter = omega (arith, h.shorter);
            longer = omega (arith, h.longer);
            done = take (length h.done - 1) h.done ++ (first_of (byte_before s i) ∷ second_of (byte_before s i) ∷ []);
            dotted = h.dotted;
            counted = h.counted;
            written = written_back h.written some (first_of (byte_before s i)) (second_of (byte_before s i)) room;
            rest = sym (at_below vowel h.done h.dotted s i more no_dot no_nasal e) ∙ h.rest;
          }

      pub walk_copy : (begins below (drop i s) && takes_below (byte_before s i)) ≡ false → n < length before → Walking vowel s before (set after n (get_or s i 0)) (i + 1) (n + 1) count
      walk_copy e room =
          record {
            inside = omega arith;
            shorter = omega (arith, h.shorter);
            longer = omega (arith, h.longer);
            done = h.done ++ (get_or s i 0 ∷ []);
            dotted = h.dotted;
            counted = h.counted;
            written = written_one h.written (get_or s i 0) room;
            rest = sym (at_copy vowel h.done h.dotted s i more no_dot no_nasal e) ∙ h.rest;
          }

  -- an ASCII byte is copied
  pub walk_ascii : get_or s i 0 < 0x80 → n < length before → Walking vowel s before (set after n (get_or s i 0)) (i + 1) (n + 1) count
  walk_ascii low room =
      walk_copy (begins_first 0xCD (0x98 ∷ []) s i more ∙ and_no _ _ (ne_eqb (get_or s i 0) 0xCD (λ e. omega (arith, e))))
      (begins_first 0xE2 (0x81 ∷ 0xBF ∷ []) s i more ∙ and_no _ _ (ne_eqb (get_or s i 0) 0xE2 (λ e. omega (arith, e))))
      (and_no _ _ (begins_first 0xCC (0xA4 ∷ []) s i more ∙ and_no _ _ (ne_eqb (get_or s i 0) 0xCC (λ e. omega (arith, e))))) room

pub walk_start : (vowel : ℕ) (s before : List ℕ) → Walking vowel s before before 0 0 1
unfolding body_of
walk_start vowel s before =
    record { inside = omega arith; shorter = omega arith; longer = omega arith; done = []; dotted = false; counted = refl; written = written_none before; rest = refl }

-- the text is read
module _ {vowel : ℕ} {s before after : List ℕ} {i n count : ℕ} (h : Walking vowel s before after i n count) where
  ended : length s ≤ i → record { text = h.done; dotted = h.dotted } ≡ body_of vowel s
  unfolding body_from
  ended end = sym (ap (body_from vowel 0 h.done h.dotted (byte_before s i)) (drop_of_length-le s end)) ∙ h.rest

  pub walk_end : length s ≤ i → Written before after n (body_of vowel s).text × (count ≡ count_of (body_of vowel s).dotted)
  walk_end end =
      (subst (Written before after n) (ap (λ (b : Body). b.text) (ended end)) h.written, h.counted ∙ ap (λ (b : Body). count_of b.dotted) (ended end))

  -- the same walk, from the buffer as it is by now
  pub walk_anew : Walking vowel s after after i n count
  walk_anew =
      record {
        inside = h.inside;
        shorter = h.shorter;
        longer = h.longer;
        done = h.done;
        dotted = h.dotted;
        counted = h.counted;
        written = record {
          is = h.written.is ∙ ap (λ (l : List ℕ). h.done ++ l) (sym (written_drop h.written));
          size = h.written.size;
          fits = omega (arith, h.written.fits, written_length h.written);
        };
        rest = h.rest;
      }

-- what was written last, over what was written before and no shorter
pub written_longer : {before mid after : List ℕ} {k n : ℕ} {d e : List ℕ} → Written before mid k d → Written mid after n e → k ≤ n → Written before after n e
written_longer {before} {mid} {after} {k} {n} {d} {e} v w h =
    record {
      is = w.is ∙ ap (λ (l : List ℕ). e ++ l) (behind mid ∙ ap (drop (n - k)) (written_drop v) ∙ sym (behind before));
      size = w.size;
      fits = omega (arith, w.fits, written_length v);
    }
  where
    behind : (l : List ℕ) → drop n l ≡ drop (n - k) (drop k l)
    behind l = let f : k + (n - k) ≡ n = omega arith in sym (drop-drop (n - k) k l ∙ ap (λ (j : ℕ). drop j l) f)

-- ── what the tests of the code come to
pub nasal_short : (s : List ℕ) (i : ℕ) → i < length s → length s ≤ i + 2 → begins nasal (drop i s) ≡ false
nasal_short s i more h = begins_short nasal (drop i s) (omega (arith, length-drop i s))

pub below_first : (s : List ℕ) (i : ℕ) → i ≤ 0 → false ≡ (begins below (drop i s) && takes_below (byte_before s i))
unfolding takes_below listed
below_first s zero h = sym (and_false (begins below s))
below_first s (suc i) h = absurd (omega arith)

pub below_some : (s : List ℕ) (i : ℕ) → (begins below (drop i s) && takes_below (byte_before s i)) ≡ true → 0 < i
below_some s zero e = absurd (false_true (below_first s 0 (omega arith) ∙ e))
below_some s (suc i) e = omega arith
