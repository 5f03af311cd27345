-- The loops that put a text into canonical order, over any table: what holds at each turn.
use mathlib.Core.Path.{◌≡◌, refl, sym, ap, ap₂, ◌∙◌, subst}
use mathlib.Core.Bool.{Bool, true, false, ◌&&◌}
use mathlib.Core.List.{List, [], ◌∷◌, ◌++◌, append_assoc, append-nil}
use Prim.Native.Nat.{ℕ, suc, ◌+◌, ◌-◌, ◌<◌, ◌≤◌}
use native.Mathlib.Numerals.{add-one, one-add}
use native.Mathlib.Omega.{arith}
use lib.ListN.{length, take, drop, get_or, set, length-append, length-drop, get_or-append}
use lib.Seq.{drop-cons, drop-drop, drop_at, set_at, take-suc, length-take-le, get_or-append-add, get_or-drop, get_or-take, take-append-le, take-take, take-length, drop-length}
use Rattle.std.specs.Prelude.{cond, ltb}
use Rattle.std.specs.List.{prefix_len}
use Rattle.ucd.specs.Table.{Table, combining_class}
use Rattle.ji.specs.Nfd.{reorderable, Ordered, insert, order}
use Rattle.ji.proofs.Order.{insert_nil, insert_past, insert_here, order_nil, order_cons}
use Rattle.std.proofs.lemmas.List.Sums.{prefix_len-le-length}
use Rattle.ji.proofs.text.Laws.{drop_next}

-- the code points of s behind place i have come forward by one, up to place j
abbrev pub moved : List ℕ → ℕ → ℕ → List ℕ
moved s i j = take i s ++ (take (j - i) (drop (i + 1) s) ++ drop j s)

module _ (s : List ℕ) (i j : ℕ) (from : i ≤ j) (within : j < length s) where
  -- those that have come forward
  abbrev forward : List ℕ
  forward = take (j - i) (drop (i + 1) s)

  -- they end at place j
  forward_size : length (take i s ++ forward) ≡ j
  forward_size =
      omega (
        arith,
        length-append (take i s) forward,
        length-take-le i s (omega arith),
        length-take-le (j - i) (drop (i + 1) s) (omega (arith, length-drop (i + 1) s)),
      )

  forward_behind : moved s i j ≡ take i s ++ forward ++ drop j s
  forward_behind = sym (append_assoc (take i s) forward (drop j s))

  -- a store at place j keeps all else
  moved_store : (x : ℕ) → set (moved s i j) j x ≡ take i s ++ (forward ++ (x ∷ drop (j + 1) s))
  moved_store x =
      ap (λ (u : List ℕ). set u j x) (forward_behind ∙ ap (λ (u : List ℕ). take i s ++ forward ++ u) (drop_next s j within))
      ∙ set_at (take i s ++ forward) (get_or s j 0) (drop (j + 1) s) x j forward_size
      ∙ append_assoc (take i s) forward (x ∷ drop (j + 1) s)

  -- place j + 1 is as it was
  moved_next : get_or (moved s i j) (j + 1) 0 ≡ get_or s (j + 1) 0
  moved_next =
      ap₂ (λ (u : List ℕ) (k : ℕ). get_or u (k + 1) 0) forward_behind (sym forward_size)
      ∙ get_or-append-add (take i s ++ forward) (drop j s) 1 0
      ∙ get_or-drop j s 1 0

  -- one more comes forward
  pub moved_more : j + 1 < length s → set (moved s i j) j (get_or (moved s i j) (j + 1) 0) ≡ moved s i (j + 1)
  moved_more more =
      let next : get_or (drop (i + 1) s) (j - i) 0 ≡ get_or s (j + 1) 0 =
      get_or-drop (i + 1) s (j - i) 0 ∙ ap (λ (k : ℕ). get_or s k 0) (let place : i + 1 + (j - i) ≡ j + 1 = omega arith in place) in
      let count : j + 1 - i ≡ suc (j - i) = omega arith in
      let one_more : take (j + 1 - i) (drop (i + 1) s) ≡ forward ++ (get_or s (j + 1) 0 ∷ []) =
      ap (λ (k : ℕ). take k (drop (i + 1) s)) count
      ∙ take-suc (drop (i + 1) s) (j - i) 0 (omega (arith, length-drop (i + 1) s))
      ∙ ap (λ (x : ℕ). forward ++ (x ∷ [])) next in
      moved_store (get_or (moved s i j) (j + 1) 0)
      ∙ ap (λ (u : List ℕ). take i s ++ u)
      (ap (λ (x : ℕ). forward ++ (x ∷ drop (j + 1) s)) moved_next
      ∙ sym (append_assoc forward (get_or s (j + 1) 0 ∷ []) (drop (j + 1) s))
      ∙ ap (λ (u : List ℕ). u ++ drop (j + 1) s) (sym one_more))

module _ (t : Table) where
  -- s is in order, and so is it behind a code point of class k
  abbrev After : ℕ → List ℕ → Type 0
  After k [] = Unit {0}
  After k (c ∷ s) = ((0 < combining_class t c) × (combining_class t c < k) → ⊥) × Ordered t (c ∷ s)

  -- the search for a reorderable pair, at place i behind a code point of class k
  pub record Checking (s : List ℕ) (k i : ℕ) : Type 0 where
    pub within : i ≤ length s
    pub enough : After k (drop i s) → Ordered t s
    pub needed : Ordered t s → After k (drop i s)

  pub checking_start : (s : List ℕ) → Checking s 0 0
  checking_start s = record { within = omega arith; enough = enough s; needed = needed s }
    where
      enough : (s : List ℕ) → After 0 s → Ordered t s
      enough [] h = tt
      enough (c ∷ s) h = h.1

      needed : (s : List ℕ) → Ordered t s → After 0 s
      needed [] h = tt
      needed (c ∷ s) h = ((λ k. omega arith), h)

  -- the insertion of a, of class k: it goes behind the code points that it is exchanged with
  abbrev pub passed : ℕ → List ℕ → ℕ
  passed k s = prefix_len (λ b. ltb 0 (combining_class t b) && ltb (combining_class t b) k) s

  pub passed_within : (k : ℕ) (s : List ℕ) → passed k s ≤ length s
  passed_within k s = prefix_len-le-length _ s

  insert_split : (a : ℕ) (s : List ℕ) → let n = passed (combining_class t a) s in insert t a s ≡ take n s ++ (a ∷ drop n s)
  unfolding reorderable
  insert_split a [] = insert_nil t a
  insert_split a (b ∷ s) = step (reorderable t a b) (passed (combining_class t a) s) refl (insert_split a s)
    where
      step : (r : Bool) (n : ℕ) → r ≡ reorderable t a b → insert t a s ≡ take n s ++ (a ∷ drop n s)
          → let m = cond r (1 + n) 0 in insert t a (b ∷ s) ≡ take m (b ∷ s) ++ (a ∷ drop m (b ∷ s))
      step true n e h = rw one-add (insert_past t a b s (sym e) ∙ ap (λ (u : List ℕ). b ∷ u) h)
      step false n e h = insert_here t a b s (sym e)

  -- those that it is exchanged with have come forward: the code point at place i is stored behind them
  pub moved_end : (s : List ℕ) (i j : ℕ) → let a = get_or s i 0 in
      i < length s → j ≡ i + passed (combining_class t a) (drop (i + 1) s) → set (moved s i j) j a ≡ take i s ++ insert t a (drop (i + 1) s)
  moved_end s i j h e =
      let a = get_or s i 0 in
      let n = passed (combining_class t a) (drop (i + 1) s) in
      let within : j < length s = omega (arith, passed_within (combining_class t a) (drop (i + 1) s), length-drop (i + 1) s) in
      let count : j - i ≡ n = omega arith in
      let rest : drop (j + 1) s ≡ drop n (drop (i + 1) s) =
      ap (λ (k : ℕ). drop k s) (let place : j + 1 ≡ i + 1 + n = omega arith in place) ∙ sym (drop-drop n (i + 1) s) in
      moved_store s i j (omega arith) within a
      ∙ ap (λ (u : List ℕ). take i s ++ u) (rw (count, rest) (sym (insert_split a (drop (i + 1) s))))

  -- the insertions, from the last code point to that at i
  pub record Sorting (s₀ s : List ℕ) (i : ℕ) : Type 0 where
    pub within : i ≤ length s₀
    pub size : length s ≡ length s₀
    pub text : s ≡ take i s₀ ++ order t (drop i s₀)

  pub sorting_start : (s : List ℕ) → Sorting s s (length s)
  sorting_start s =
      record { within = omega arith; size = refl; text = sym (rw (take-length s, drop-length s, order_nil t) (append-nil s)) }

  -- one more insertion
  order_more : (s₀ s : List ℕ) (i : ℕ) → i < length s₀ → s ≡ take (suc i) s₀ ++ order t (drop (suc i) s₀)
      → take i s ++ insert t (get_or s i 0) (drop (suc i) s) ≡ take i s₀ ++ order t (drop i s₀)
  order_more s₀ s i h e =
      rw (e, drop_at (take (suc i) s₀) (order t (drop (suc i) s₀)) (suc i) size, front, mid)
      (rw (drop-cons s₀ i 0 h, order_cons t (get_or s₀ i 0) (drop (suc i) s₀)))
    where
      size : length (take (suc i) s₀) ≡ suc i
      size = length-take-le (suc i) s₀ h

      front : take i (take (suc i) s₀ ++ order t (drop (suc i) s₀)) ≡ take i s₀
      front = take-append-le i (take (suc i) s₀) (order t (drop (suc i) s₀)) (omega (arith, size)) ∙ take-take i (suc i) s₀ (omega arith)

      mid : get_or (take (suc i) s₀ ++ order t (drop (suc i) s₀)) i 0 ≡ get_or s₀ i 0
      mid = get_or-append (take (suc i) s₀) (order t (drop (suc i) s₀)) 0 i (omega (arith, size)) ∙ get_or-take (suc i) s₀ i 0 (omega arith)

  module _ {s₀ s : List ℕ} {i : ℕ} (p : Sorting s₀ s i) where
    pub sorting_more : (u : List ℕ) → 0 < i → u ≡ take (i - 1) s ++ insert t (get_or s (i - 1) 0) (drop (i - 1 + 1) s) → length u ≡ length s
        → Sorting s₀ u (i - 1)
    sorting_more u h e l =
        let z : i ≡ suc (i - 1) = omega arith in
        let text : s ≡ take (suc (i - 1)) s₀ ++ order t (drop (suc (i - 1)) s₀) = subst (λ (n : ℕ). s ≡ take n s₀ ++ order t (drop n s₀)) z p.text in
        record {
          within = omega (arith, p.within);
          size = l ∙ p.size;
          text = e ∙ rw (add-one (i - 1)) (order_more s₀ s (i - 1) (omega (arith, p.within)) text);
        }
