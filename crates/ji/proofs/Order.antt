-- The laws of the canonical ordering algorithm (the Unicode Standard, 3.11, D108 and D109), over any table. They follow from one:
-- `insert_insert`, that an exchange does not change what the insertions give.
use mathlib.Core.Path.{◌≡◌, refl, sym, ◌∙◌, ap}
use mathlib.Core.Bool.{Bool, true, false, ◌||◌}
use mathlib.Core.List.{List, [], ◌∷◌, ◌++◌}
use mathlib.Core.Logic.{◌⊎◌, inl, inr}
use Prim.Native.Nat.{ℕ, suc}
use lib.ListN.{length}
use native.Mathlib.Omega.{arith}
use lib.Dec.{ltb, eqb}
use borrow.Author.Tests.{lt-ltb, ltb-true, eqb-true, ne_eqb}
use Rattle.ucd.specs.Table.{Table, All, pick_text, combining_class}
use Rattle.ucd.proofs.Tests.{either}
use Rattle.ji.specs.Nfd.{Reorderable, reorderable, Exchange, here, there, Exchanges, none, more, NoPair, Ordered, insert, order, of_class}
use Rattle.ji.proofs.Cases.{and_both, true_not_false}

module _ (t : Table) where
  -- the test of a pair is D108's condition
  pub reorderable_true : (a b : ℕ) → Reorderable t a b → reorderable t a b ≡ true
  unfolding reorderable
  reorderable_true a b h = rw (lt-ltb 0 (combining_class t b) h.0, lt-ltb (combining_class t b) (combining_class t a) h.1)

  pub true_reorderable : (a b : ℕ) → reorderable t a b ≡ true → Reorderable t a b
  unfolding reorderable
  true_reorderable a b e =
      let both = and_both (ltb 0 (combining_class t b)) (ltb (combining_class t b) (combining_class t a)) e in
      (ltb-true 0 (combining_class t b) both.0, ltb-true (combining_class t b) (combining_class t a) both.1)

  pub reorderable_false : (a b : ℕ) → (Reorderable t a b → ⊥) → reorderable t a b ≡ false
  reorderable_false a b h = either (reorderable t a b) (λ e. absurd (h (true_reorderable a b e))) (λ e. e)

  pub false_reorderable : (a b : ℕ) → reorderable t a b ≡ false → Reorderable t a b → ⊥
  false_reorderable a b e h = true_not_false (reorderable_true a b h) e

  -- a pair that is exchanged is not exchanged back
  not_back : (a b : ℕ) → Reorderable t a b → reorderable t b a ≡ false
  not_back a b h = reorderable_false b a (λ k. omega arith)

  -- the turns of an insertion: past the next code point, or here
  pub insert_nil : (a : ℕ) → insert t a [] ≡ a ∷ []
  unfolding insert
  insert_nil a = refl

  pub insert_past : (a b : ℕ) (s : List ℕ) → reorderable t a b ≡ true → insert t a (b ∷ s) ≡ b ∷ insert t a s
  unfolding insert
  insert_past a b s e = rw e

  pub insert_here : (a b : ℕ) (s : List ℕ) → reorderable t a b ≡ false → insert t a (b ∷ s) ≡ a ∷ b ∷ s
  unfolding insert
  insert_here a b s e = rw e

  -- two code points that are exchanged may be inserted in either order
  insert_insert : (a b : ℕ) (h : Reorderable t a b) (s : List ℕ) → insert t a (insert t b s) ≡ insert t b (insert t a s)
  insert_insert a b h [] =
      rw (insert_nil b, insert_nil a, insert_past a b [] (reorderable_true a b h), insert_here b a [] (not_back a b h), insert_nil a)
  insert_insert a b h (c ∷ s) =
      either (reorderable t b c)
      (λ e. rw (insert_past b c s e, insert_past a c s (further e), insert_past a c (insert t b s) (further e), insert_past b c (insert t a s) e)
      (ap (λ (l : List ℕ). c ∷ l) (insert_insert a b h s)))
      (λ e. rw (insert_here b c s e, insert_past a b (c ∷ s) (reorderable_true a b h)) (stopped e))
    where
      further : reorderable t b c ≡ true → reorderable t a c ≡ true
      further e = let k : Reorderable t b c = true_reorderable b c e in reorderable_true a c (omega arith)

      stopped : reorderable t b c ≡ false → b ∷ insert t a (c ∷ s) ≡ insert t b (insert t a (c ∷ s))
      stopped e =
          either (reorderable t a c)
          (λ f. rw (insert_past a c s f, insert_here b c (insert t a s) e))
          (λ f. rw (insert_here a c s f, insert_here b a (c ∷ s) (not_back a b h)))

  -- the order, from the last code point to the first
  pub order_nil : order t [] ≡ []
  unfolding order
  order_nil = refl

  pub order_cons : (a : ℕ) (s : List ℕ) → order t (a ∷ s) ≡ insert t a (order t s)
  unfolding order
  order_cons a s = refl

  -- exchanges do not change the order
  order_exchange : {s u : List ℕ} → Exchange t s u → order t s ≡ order t u
  unfolding order
  order_exchange (here {a} {b} {s} h) = insert_insert a b h (order t s)
  order_exchange (there {c} x) = ap (insert t c) (order_exchange x)

  pub order_exchanges : {s u : List ℕ} → Exchanges t s u → order t s ≡ order t u
  order_exchanges none = refl
  order_exchanges (more x xs) = order_exchange x ∙ order_exchanges xs

  -- exchanges one after the other, behind a text, and before one
  pub exchanges_join : {s u v : List ℕ} → Exchanges t s u → Exchanges t u v → Exchanges t s v
  exchanges_join none ys = ys
  exchanges_join (more x xs) ys = more x (exchanges_join xs ys)

  exchanges_cons : (c : ℕ) {s u : List ℕ} → Exchanges t s u → Exchanges t (c ∷ s) (c ∷ u)
  exchanges_cons c none = none
  exchanges_cons c (more x xs) = more (there x) (exchanges_cons c xs)

  pub exchanges_behind : (v : List ℕ) {s u : List ℕ} → Exchanges t s u → Exchanges t (v ++ s) (v ++ u)
  exchanges_behind [] xs = xs
  exchanges_behind (c ∷ v) xs = exchanges_cons c (exchanges_behind v xs)

  exchange_before : (v : List ℕ) {s u : List ℕ} → Exchange t s u → Exchange t (s ++ v) (u ++ v)
  exchange_before v (here h) = here h
  exchange_before v (there x) = there (exchange_before v x)

  pub exchanges_before : (v : List ℕ) {s u : List ℕ} → Exchanges t s u → Exchanges t (s ++ v) (u ++ v)
  exchanges_before v none = none
  exchanges_before v (more x xs) = more (exchange_before v x) (exchanges_before v xs)

  -- the order is reached by exchanges (D109)
  insert_reached : (a : ℕ) (s : List ℕ) → Exchanges t (a ∷ s) (insert t a s)
  insert_reached a [] = rw insert_nil none
  insert_reached a (b ∷ s) =
      either (reorderable t a b)
      (λ e. rw (insert_past a b s e) (more (here (true_reorderable a b e)) (exchanges_cons b (insert_reached a s))))
      (λ e. rw (insert_here a b s e) none)

  pub order_reached : (s : List ℕ) → Exchanges t s (order t s)
  order_reached [] = rw order_nil none
  order_reached (a ∷ s) = rw order_cons (exchanges_join (exchanges_cons a (order_reached s)) (insert_reached a (order t s)))

  -- no exchange is left in it (D109)
  insert_no_pair : (b a : ℕ) (s : List ℕ) → (Reorderable t b a → ⊥) → NoPair t b s → NoPair t b (insert t a s)
  insert_no_pair b a [] h k = rw insert_nil h
  insert_no_pair b a (c ∷ s) h k =
      either (reorderable t a c)
      (λ e. rw (insert_past a c s e) k)
      (λ e. rw (insert_here a c s e) h)

  insert_ordered : (a : ℕ) (s : List ℕ) → Ordered t s → Ordered t (insert t a s)
  insert_ordered a [] h = rw insert_nil (tt, tt)
  insert_ordered a (b ∷ s) h =
      either (reorderable t a b)
      (λ e. rw (insert_past a b s e)
      (insert_no_pair b a s (false_reorderable b a (not_back a b (true_reorderable a b e))) h.0, insert_ordered a s h.1))
      (λ e. rw (insert_here a b s e) (false_reorderable a b e, h))

  pub order_ordered : (s : List ℕ) → Ordered t (order t s)
  order_ordered [] = rw order_nil tt
  order_ordered (a ∷ s) = rw order_cons (insert_ordered a (order t s) (order_ordered s))

  -- a text that is in order stays as it is
  pub insert_fixed : (a : ℕ) (s : List ℕ) → NoPair t a s → insert t a s ≡ a ∷ s
  insert_fixed a [] h = insert_nil a
  insert_fixed a (b ∷ s) h = insert_here a b s (reorderable_false a b h)

  pub ordered_fixed : (s : List ℕ) → Ordered t s → order t s ≡ s
  ordered_fixed [] h = order_nil
  ordered_fixed (a ∷ s) h = rw (order_cons, ordered_fixed s h.1) (insert_fixed a s h.0)

  -- ordering again changes nothing
  pub order_order : (s : List ℕ) → order t (order t s) ≡ order t s
  order_order s = ordered_fixed (order t s) (order_ordered s)

  -- D109 has one result, whichever pair is exchanged first: what exchanges reach, and where none is left, is the order
  pub order_only : (s u : List ℕ) → Exchanges t s u → Ordered t u → u ≡ order t s
  order_only s u xs h = sym (ordered_fixed u h) ∙ sym (order_exchanges xs)

  -- the order of a part does not matter to the order of the whole
  pub order_left : (s u : List ℕ) → order t (order t s ++ u) ≡ order t (s ++ u)
  order_left s u = sym (order_exchanges (exchanges_before u (order_reached s)))

  pub order_right : (s u : List ℕ) → order t (s ++ order t u) ≡ order t (s ++ u)
  order_right s u = sym (order_exchanges (exchanges_behind s (order_reached u)))

  -- what holds of each code point of a text holds of each of its order
  exchange_all : (P : ℕ → Type 0) {s u : List ℕ} → Exchange t s u → All P s → All P u
  exchange_all P (here h) a = (a.1.0, (a.0, a.1.1))
  exchange_all P (there x) a = (a.0, exchange_all P x a.1)

  exchanges_all : (P : ℕ → Type 0) {s u : List ℕ} → Exchanges t s u → All P s → All P u
  exchanges_all P none a = a
  exchanges_all P (more x xs) a = exchanges_all P xs (exchange_all P x a)

  pub order_all : (P : ℕ → Type 0) (s : List ℕ) → All P s → All P (order t s)
  order_all P s = exchanges_all P (order_reached s)

  -- of a pair that is exchanged one is no starter and not of class k
  apart : (k a b : ℕ) → Reorderable t a b
      → ((eqb (combining_class t a) k || eqb (combining_class t a) 0) ≡ false) ⊎ ((eqb (combining_class t b) k || eqb (combining_class t b) 0) ≡ false)
  apart k a b h =
      either (eqb (combining_class t a) k)
      (λ e. let q : combining_class t a ≡ k = eqb-true (combining_class t a) k e in
      inr (rw (ne_eqb (combining_class t b) k (λ z. omega arith), ne_eqb (combining_class t b) 0 (λ z. omega arith))))
      (λ e. inl (rw (e, ne_eqb (combining_class t a) 0 (λ z. omega arith))))

  -- then it does not matter which of the two is put in front
  pick_pick : (a b : Bool) (x y : ℕ) (r : List ℕ) → (a ≡ false) ⊎ (b ≡ false)
      → pick_text a (x ∷ pick_text b (y ∷ r) r) (pick_text b (y ∷ r) r) ≡ pick_text b (y ∷ pick_text a (x ∷ r) r) (pick_text a (x ∷ r) r)
  pick_pick a b x y r (inl e) = rw e
  pick_pick a b x y r (inr e) = rw e

  -- so exchanges keep what is of class k, and the starters
  exchange_stable : (k : ℕ) {s u : List ℕ} → Exchange t s u → of_class t k s ≡ of_class t k u
  unfolding of_class
  exchange_stable k (here {a} {b} {s} h) =
      pick_pick (eqb (combining_class t a) k || eqb (combining_class t a) 0) (eqb (combining_class t b) k || eqb (combining_class t b) 0) a b
      (of_class t k s) (apart k a b h)
  exchange_stable k (there {c} x) =
      ap (λ (l : List ℕ). pick_text (eqb (combining_class t c) k || eqb (combining_class t c) 0) (c ∷ l) l) (exchange_stable k x)

  exchanges_stable : (k : ℕ) {s u : List ℕ} → Exchanges t s u → of_class t k s ≡ of_class t k u
  exchanges_stable k none = refl
  exchanges_stable k (more x xs) = exchange_stable k x ∙ exchanges_stable k xs

  -- the order is stable: the code points of one class and the starters keep their places among each other (D109)
  pub order_stable : (k : ℕ) (s : List ℕ) → of_class t k (order t s) ≡ of_class t k s
  order_stable k s = sym (exchanges_stable k (order_reached s))

  -- order keeps the length
  insert_length : (a : ℕ) (s : List ℕ) → length (insert t a s) ≡ suc (length s)
  insert_length a [] = ap length (insert_nil a)
  insert_length a (b ∷ s) =
      either (reorderable t a b)
      (λ e. ap length (insert_past a b s e) ∙ ap suc (insert_length a s))
      (λ e. ap length (insert_here a b s e))

  pub order_length : (s : List ℕ) → length (order t s) ≡ length s
  order_length [] = ap length order_nil
  order_length (a ∷ s) = ap length (order_cons a s) ∙ insert_length a (order t s) ∙ ap suc (order_length s)
