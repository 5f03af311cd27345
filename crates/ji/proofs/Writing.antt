-- Laws of a buffer that is written from its front (`Written`): how each kind of store takes it one step further, and what it says of the buffer.
use mathlib.Core.Path.{◌≡◌, refl, sym, ap, ap₂, subst, ◌∙◌}
use mathlib.Core.List.{List, [], ◌∷◌, ◌++◌, append_assoc, append-nil}
use Prim.Native.Nat.{ℕ, suc, ◌+◌, ◌-◌, ◌≤◌, ◌<◌}
use native.Mathlib.Numerals.{add-one, add-two}
use native.Mathlib.Omega.{arith}
use native.Mathlib.Decide.{ℕ_discrete, dec_lt}
use lib.ListN.{length, take, drop, get_or, set, length-set, length-append, length-drop, drop_of_length-le, get_or-append}
use lib.Seq.{drop-cons, set_at, append_snoc, take_at, drop_at, drop-drop, get_or-append-add, get_or-drop, get_or-set_same, get_or-set_other, ext_get_or, paste, take-length, take_all, sets-eq}
use Rattle.ji.specs.Written.{Written, Covers}

-- before the first store
pub written_none : (before : List ℕ) → Written before before 0 []
written_none before = record { is = refl; size = refl; fits = omega arith }

-- a buffer that kept its length and has a text in front
pub written_from : (before after : List ℕ) (n : ℕ) (s : List ℕ) → n ≡ length s → after ≡ s ++ drop n before → length after ≡ length before → Written before after n s
written_from before after n s size is kept =
    record { is = is; size = sym size; fits = omega (arith, length-append s (drop n before), length-drop n before, ap length is) }

module _ {before after : List ℕ} {n : ℕ} {s : List ℕ} (h : Written before after n s) where
  sized : length s ≡ n
  sized = h.size

  pub written_length : length after ≡ length before
  written_length =
      let e : length s ≡ n = sized in
      let f : n ≤ length before = h.fits in
      ap length h.is ∙ simp (length-append, length-drop) (omega arith)

  -- the front of the buffer is what was written
  pub written_take : take n after ≡ s
  written_take = ap (take n) h.is ∙ take_at s (drop n before) n sized

  -- and behind it the buffer is as it was
  pub written_drop : drop n after ≡ drop n before
  written_drop = ap (drop n) h.is ∙ drop_at s (drop n before) n sized

  pub written_rest : (k : ℕ) → get_or after (n + k) 0 ≡ get_or before (n + k) 0
  written_rest k =
      ap (λ (t : List ℕ). get_or t (n + k) 0) h.is
      ∙ ap (λ (m : ℕ). get_or (s ++ drop n before) (m + k) 0) (sym sized)
      ∙ get_or-append-add s (drop n before) k 0
      ∙ get_or-drop n before k 0

  -- nothing is behind it: the buffer is what was written
  pub written_whole : length before ≤ n → after ≡ s
  written_whole full = h.is ∙ ap (λ (t : List ℕ). s ++ t) (drop_of_length-le before full) ∙ append-nil s

  -- what was written, replaced by a text as long
  pub written_over : (t : List ℕ) → length t ≡ n → Written before (t ++ drop n after) n t
  written_over t same = record { is = ap (λ (u : List ℕ). t ++ u) written_drop; size = same; fits = h.fits }

  -- one more element, stored ..
  pub written_one : (x : ℕ) → n < length before → Written before (set after n x) (n + 1) (s ++ (x ∷ []))
  written_one x more =
      record {
        is = ap (λ (t : List ℕ). set t n x) h.is
            ∙ ap (λ (t : List ℕ). set (s ++ t) n x) (drop-cons before n 0 more)
            ∙ set_at s (get_or before n 0) (drop (suc n) before) x n sized
            ∙ sym (append_snoc s x (drop (suc n) before))
            ∙ ap (λ (k : ℕ). s ++ (x ∷ []) ++ drop k before) (sym (add-one n));
        size = length-append s (x ∷ []) ∙ ap (λ (k : ℕ). k + 1) sized;
        fits = omega arith;
      }

  -- .. or left as it was
  pub written_kept : n < length before → Written before after (n + 1) (s ++ (get_or before n 0 ∷ []))
  written_kept more =
      record {
        is = h.is
            ∙ ap (λ (t : List ℕ). s ++ t) (drop-cons before n 0 more)
            ∙ sym (append_snoc s (get_or before n 0) (drop (suc n) before))
            ∙ ap (λ (k : ℕ). s ++ (get_or before n 0 ∷ []) ++ drop k before) (sym (add-one n));
        size = length-append s (get_or before n 0 ∷ []) ∙ ap (λ (k : ℕ). k + 1) sized;
        fits = omega arith;
      }

  -- a whole text more
  pub written_run : (r : List ℕ) → n + length r ≤ length before → Written before (paste after n r (length r)) (n + length r) (s ++ r)
  written_run r room =
      record {
        is = ap (λ (t : List ℕ). paste t n r (length r)) h.is
            ∙ ap (λ (t : List ℕ). t ++ take (length r) r ++ drop (n + length r) (s ++ drop n before)) (take_at s (drop n before) n sized)
            ∙ ap (λ (t : List ℕ). s ++ t ++ drop (n + length r) (s ++ drop n before)) (take-length r)
            ∙ ap (λ (t : List ℕ). s ++ r ++ t) (sym (drop-drop (length r) n (s ++ drop n before)) ∙ ap (drop (length r)) (drop_at s (drop n before) n sized) ∙ drop-drop (length r) n before);
        size = length-append s r ∙ ap (λ (k : ℕ). k + length r) sized;
        fits = room;
      }

  -- a text more, that was written to the part of the buffer behind it
  pub written_behind : {part : List ℕ} {m : ℕ} {r : List ℕ} → Written (take (length after - n) (drop n after)) part m r
      → Written before (take n after ++ (part ++ drop (length after - n) (drop n after))) (n + m) (s ++ r)
  written_behind {part} {m} {r} w =
      let all : length (drop n after) ≤ length after - n = omega (arith, length-drop n after) in
      let whole : take (length after - n) (drop n after) ≡ drop n before = take_all (length after - n) (drop n after) all ∙ written_drop in
      let room : m ≤ length (drop n before) = subst (λ (t : List ℕ). m ≤ length t) whole w.fits in
      let front : part ≡ r ++ drop (n + m) before = w.is ∙ ap (λ (t : List ℕ). r ++ drop m t) whole ∙ ap (λ (t : List ℕ). r ++ t) (drop-drop m n before) in
      record {
        is = ap₂ (λ (t u : List ℕ). t ++ (part ++ u)) written_take (drop_of_length-le (drop n after) all)
            ∙ ap (λ (t : List ℕ). s ++ t) (append-nil part ∙ front)
            ∙ sym (append_assoc s r (drop (n + m) before));
        size = length-append s r ∙ ap₂ ◌+◌ sized w.size;
        fits = omega (arith, length-drop n before, h.fits);
      }

-- straight stores at j, j + 1, j + 2, as a run
module _ (d : List ℕ) (j : ℕ) where
  pub stores_1 : (a : ℕ) → j + 1 ≤ length d → set d j a ≡ paste d j (a ∷ []) 1
  stores_1 a room = sets-eq (a ∷ []) d j room

  pub stores_2 : (a b : ℕ) → j + 2 ≤ length d → set (set d j a) (j + 1) b ≡ paste d j (a ∷ b ∷ []) 2
  stores_2 a b room = ap (λ (k : ℕ). set (set d j a) k b) (add-one j) ∙ sets-eq (a ∷ b ∷ []) d j room

  pub stores_3 : (a b c : ℕ) → j + 3 ≤ length d → set (set (set d j a) (j + 1) b) (j + 2) c ≡ paste d j (a ∷ b ∷ c ∷ []) 3
  stores_3 a b c room = ap₂ (λ (k n : ℕ). set (set (set d j a) k b) n c) (add-one j) (add-two j) ∙ sets-eq (a ∷ b ∷ c ∷ []) d j room

-- ── elements stored at their own places, in any order
module _ (s before : List ℕ) (i : ℕ) (h : i < length s) (fits : length s ≤ length before) where
  stored : (j : ℕ) → Dec (i ≡ j) → get_or before j 0 ≡ get_or s j 0 → get_or (set before i (get_or s i 0)) j 0 ≡ get_or s j 0
  stored j (yes e) k = ap (λ (m : ℕ). get_or (set before i (get_or s i 0)) m 0) (sym e) ∙ get_or-set_same before i (get_or s i 0) 0 (omega arith) ∙ ap (λ (m : ℕ). get_or s m 0) e
  stored j (no n) k = get_or-set_other before i j (get_or s i 0) 0 (λ e. n (sym e)) ∙ k

  pub covers_one : Covers s before (set before i (get_or s i 0)) i (i + 1)
  covers_one =
      record {
        length_kept = length-set before i (get_or s i 0);
        behind = λ j k. get_or-set_other before i j (get_or s i 0) 0 (λ e. omega arith);
        there = λ j k l. let e : j ≡ i = omega arith in ap (λ (m : ℕ). get_or (set before i (get_or s i 0)) m 0) e ∙ get_or-set_same before i (get_or s i 0) 0 (omega arith) ∙ ap (λ (m : ℕ). get_or s m 0) (sym e);
        still = λ j k. stored j (ℕ_discrete i j) k;
      }

-- one after the other: the places of both
module _ {s a b c : List ℕ} {f t g u : ℕ} (h : Covers s a b f t) (k : Covers s b c g u) where
  covers_first : Covers s a c f t
  covers_first =
      record {
        length_kept = k.length_kept ∙ h.length_kept;
        behind = λ j l. k.behind j l ∙ h.behind j l;
        there = λ j l m. k.still j (h.there j l m);
        still = λ j l. k.still j (h.still j l);
      }

  covers_second : Covers s a c g u
  covers_second =
      record {
        length_kept = k.length_kept ∙ h.length_kept;
        behind = λ j l. k.behind j l ∙ h.behind j l;
        there = k.there;
        still = λ j l. k.still j (h.still j l);
      }

-- two parts that meet
covers_both : {s a b : List ℕ} {f t g u : ℕ} → Covers s a b f t → Covers s a b g u → g ≤ t → Covers s a b f u
covers_both {s = s} {b = b} {f = f} {t = t} {u = u} h k meet =
    record {
      length_kept = h.length_kept;
      behind = h.behind;
      there = λ j l m. in_one j l m (dec_lt j t);
      still = h.still;
    }
  where
    in_one : (j : ℕ) → f ≤ j → j < u → Dec (j < t) → get_or b j 0 ≡ get_or s j 0
    in_one j l m (yes q) = h.there j l q
    in_one j l m (no q) = k.there j (omega arith) m

pub covers_next : {s a b c : List ℕ} {f t g u : ℕ} → Covers s a b f t → Covers s b c g u → g ≤ t → Covers s a c f u
covers_next h k meet = covers_both (covers_first h k) (covers_second h k) meet

-- all places of s
pub covers_all : {s before after : List ℕ} → length s ≤ length before → Covers s before after 0 (length s) → Written before after (length s) s
covers_all {s = s} {before = before} {after = after} fits h =
    record {
      is = ext_get_or 0 after (s ++ drop (length s) before) (omega (arith, h.length_kept, length-append s (drop (length s) before), length-drop (length s) before)) (λ j l. by_place j (dec_lt j (length s)));
      size = refl;
      fits = fits;
    }
  where
    by_place : (j : ℕ) → Dec (j < length s) → get_or after j 0 ≡ get_or (s ++ drop (length s) before) j 0
    by_place j (yes k) = h.there j (omega arith) k ∙ sym (get_or-append s (drop (length s) before) 0 j k)
    by_place j (no k) =
        let e : length s + (j - length s) ≡ j = omega arith in
        h.behind j (omega arith)
        ∙ ap (λ (m : ℕ). get_or before m 0) (sym e)
        ∙ sym (get_or-drop (length s) before (j - length s) 0)
        ∙ sym (get_or-append-add s (drop (length s) before) (j - length s) 0)
        ∙ ap (λ (m : ℕ). get_or (s ++ drop (length s) before) m 0) e
