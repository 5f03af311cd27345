-- The loops of the composition, over any table: what holds at each turn.
use mathlib.Core.Path.{◌≡◌, refl, sym, ◌∙◌, ap}
use mathlib.Core.Bool.{Bool, true, false}
use mathlib.Core.List.{List, [], ◌∷◌, ◌++◌, append_assoc}
use mathlib.Core.Option.{Option, none, some}
use Prim.Native.Nat.{ℕ, suc, ◌+◌, ◌-◌, ◌<◌, ◌≤◌}
use native.Mathlib.Numerals.{add-one}
use native.Mathlib.Omega.{arith}
use lib.ListN.{length, take, drop, get_or, set, length-set, length-append, length-drop, take-append-drop, drop_of_length-le}
use lib.Seq.{take-suc, drop-cons, set_split, length-take-le, take_at, drop_at, take-suc-set, drop-set-lt, take-length, drop-length, get_or-drop, drop-drop}
use borrow.Author.Tests.{eq-eqb, ne_eqb, lt-ltb, le-ltb}
use Rattle.ucd.specs.Table.{Table, combining_class, composite}
use Rattle.ucd.specs.Unicode16.{unicode16}
use Rattle.ucd.proofs.Unicode16.{low_starter, composite_mark}
use Rattle.ji.specs.Nfc.{pick_done, behind, under, reversed, absorb, compose_from, compose}
use Rattle.ji.proofs.Cases.{true_not_false}
use Rattle.ji.proofs.Composition.{reversed_cons, reversed_at, reversed_snoc, reversed_reversed, absorb_starter, compose_nil, compose_kept, compose_absorbed}

-- what stands below U+0300 is never absorbed
pub low_stays : (c : ℕ) → c < 0x300 → (r : List ℕ) → absorb unicode16 c r ≡ none
low_stays c h r = absorb_starter unicode16 c (low_starter c h) (λ l p e. let k : 0x300 ≤ c = composite_mark l c p e in omega arith) r

-- an answer, behind the code points u that the search has passed
abbrev passed : List ℕ → Option (List ℕ) → Option (List ℕ)
passed u none = none
passed u (some q) = some (u ++ q)

passed_nil : (o : Option (List ℕ)) → passed [] o ≡ o
passed_nil none = refl
passed_nil (some q) = refl

passed_under : (u : List ℕ) (b : ℕ) (o : Option (List ℕ)) → passed u (under b o) ≡ passed (u ++ (b ∷ [])) o
unfolding under
passed_under u b none = refl
passed_under u b (some q) = ap some (sym (append_assoc u (b ∷ []) q))

module _ (t : Table) where
  -- c was absorbed into s₀, which became s, or it was not, and s₀ stayed
  abbrev pub Absorbed : List ℕ → ℕ → Bool → List ℕ → Type 0
  Absorbed s₀ c r s = (pick_done r (some (reversed s)) none ≡ absorb t c (reversed s₀)) × (r ≡ false → s ≡ s₀)

  -- the search back from the end of s for the starter that c joins, at place i. Nothing is changed on the way
  pub record Searching (s₀ : List ℕ) (c : ℕ) (s : List ℕ) (i : ℕ) : Type 0 where
    pub same : s ≡ s₀
    pub size : length s ≡ length s₀
    pub within : i ≤ length s
    pub text : absorb t c (reversed s₀) ≡ passed (reversed (drop i s)) (absorb t c (reversed (take i s)))

  pub searching_start : (s : List ℕ) (c : ℕ) → Searching s c s (length s)
  unfolding reversed
  searching_start s c =
      record { same = refl; size = refl; within = omega arith; text = rw (take-length s, drop-length s) (sym (passed_nil (absorb t c (reversed s)))) }

  -- the turns of `absorb`
  absorb_nil : (c : ℕ) → absorb t c (reversed []) ≡ none
  unfolding absorb reversed
  absorb_nil c = refl

  absorb_at_starter : (c b : ℕ) (r : List ℕ) → combining_class t b ≡ 0 → absorb t c (b ∷ r) ≡ behind (composite t b c) r
  unfolding absorb
  absorb_at_starter c b r z = rw (eq-eqb (combining_class t b) 0 z)

  absorb_at_block : (c b : ℕ) (r : List ℕ) → (combining_class t b ≡ 0 → ⊥) → combining_class t c ≤ combining_class t b → absorb t c (b ∷ r) ≡ none
  unfolding absorb
  absorb_at_block c b r n h = rw (ne_eqb (combining_class t b) 0 n, le-ltb (combining_class t b) (combining_class t c) h)

  absorb_at_mark : (c b : ℕ) (r : List ℕ) → (combining_class t b ≡ 0 → ⊥) → combining_class t b < combining_class t c
      → absorb t c (b ∷ r) ≡ under b (absorb t c r)
  unfolding absorb
  absorb_at_mark c b r n h = rw (ne_eqb (combining_class t b) 0 n, lt-ltb (combining_class t b) (combining_class t c) h)

  module _ {s₀ : List ℕ} {c : ℕ} {s : List ℕ} {i : ℕ} (p : Searching s₀ c s i) where
    stays : absorb t c (reversed s₀) ≡ none → Absorbed s₀ c false s
    stays e = (sym e, λ z. p.same)

    pub searching_end : i ≤ 0 → Absorbed s₀ c false s
    searching_end h = let z : i ≡ 0 = omega arith in stays (p.text ∙ rw (z, absorb_nil c))

    module _ (h : 0 < i) where
      -- the code point that is looked at, and what stands before it
      abbrev last : ℕ
      last = get_or s (i - 1) 0

      abbrev earlier : List ℕ
      earlier = reversed (take (i - 1) s)

      front : reversed (take i s) ≡ last ∷ earlier
      front =
          let z : i ≡ suc (i - 1) = omega arith in
          ap (λ (n : ℕ). reversed (take n s)) z ∙ ap reversed (take-suc s (i - 1) 0 (omega (arith, p.within))) ∙ reversed_snoc (take (i - 1) s) last

      back : drop (i - 1) s ≡ last ∷ drop i s
      back =
          let z : suc (i - 1) ≡ i = omega arith in
          drop-cons s (i - 1) 0 (omega (arith, p.within)) ∙ ap (λ (n : ℕ). last ∷ drop n s) z

      -- it is a mark that does not block c
      pub searching_more : (combining_class t last ≡ 0 → ⊥) → combining_class t last < combining_class t c → Searching s₀ c s (i - 1)
      searching_more n l =
          record {
            same = p.same;
            size = p.size;
            within = omega (arith, p.within);
            text =
                p.text
                ∙ rw (front, absorb_at_mark c last earlier n l, back, reversed_cons last (drop i s))
                (passed_under (reversed (drop i s)) last (absorb t c earlier));
          }

      -- one that does
      pub searching_blocked : (combining_class t last ≡ 0 → ⊥) → combining_class t c ≤ combining_class t last → Absorbed s₀ c false s
      searching_blocked n l = stays (p.text ∙ rw (front, absorb_at_block c last earlier n l))

      -- the starter, without a composite or with one
      module _ (z : combining_class t last ≡ 0) where
        pub searching_none : none ≡ composite t last c → Absorbed s₀ c false s
        unfolding behind
        searching_none e = stays (p.text ∙ rw (front, absorb_at_starter c last earlier z, ← e))

        pub searching_some : (q : ℕ) → some q ≡ composite t last c → Absorbed s₀ c true (set s (i - 1) q)
        unfolding behind
        searching_some q e = (
          sym (p.text ∙ rw (front, absorb_at_starter c last earlier z, ← e) (ap some (sym replaced))),
          λ w. absurd (true_not_false refl w),
        )
          where
            replaced : reversed (set s (i - 1) q) ≡ reversed (drop i s) ++ (q ∷ earlier)
            replaced =
                let y : suc (i - 1) ≡ i = omega arith in
                ap reversed (set_split s (i - 1) q (omega (arith, p.within)) ∙ ap (λ (n : ℕ). take (i - 1) s ++ (q ∷ drop n s)) y)
                ∙ reversed_at (take (i - 1) s) q (drop i s)

  -- the composition of s₀: s has the n code points that are done, and from i on s₀ is left
  pub record Composing (s₀ s : List ℕ) (n i : ℕ) : Type 0 where
    pub below : n ≤ i
    pub within : i ≤ length s₀
    pub size : length s ≡ length s₀
    pub rest : drop n s ≡ drop n s₀
    pub text : compose_from t (reversed (take n s)) (drop i s₀) ≡ compose_from t [] s₀

  pub composing_start : (s : List ℕ) → Composing s s 0 0
  unfolding reversed
  composing_start s = record { below = omega arith; within = omega arith; size = refl; rest = refl; text = refl }

  module _ {s₀ s : List ℕ} {n i : ℕ} (p : Composing s₀ s n i) where
    room : n ≤ length s
    room = omega (arith, p.below, p.within, p.size)

    pub composing_end : length s₀ ≤ i → (n ≡ length (compose t s₀)) × (s ≡ compose t s₀ ++ drop n s₀)
    unfolding compose
    composing_end h = (sym (ap length whole ∙ length-take-le n s room), sym (take-append-drop n s) ∙ rw (← whole, p.rest))
      where
        whole : reversed (compose_from t [] s₀) ≡ take n s
        whole =
            ap reversed (sym p.text ∙ ap (compose_from t (reversed (take n s))) (drop_of_length-le s₀ h) ∙ compose_nil t (reversed (take n s)))
            ∙ reversed_reversed (take n s)

    module _ (h : i < length s₀) where
      -- the code point that is read is the next of s₀
      abbrev c : ℕ
      c = get_or s i 0

      next : drop i s₀ ≡ c ∷ drop (i + 1) s₀
      next = rw (add-one i, drop-cons s₀ i 0 h) (ap (λ (x : ℕ). x ∷ drop (suc i) s₀) (sym same))
        where
          same : c ≡ get_or s₀ i 0
          same =
              let z : n + (i - n) ≡ i = omega (arith, p.below) in
              ap (λ (k : ℕ). get_or s k 0) (sym z) ∙ sym (get_or-drop n s (i - n) 0) ∙ ap (λ (l : List ℕ). get_or l (i - n) 0) p.rest
              ∙ get_or-drop n s₀ (i - n) 0 ∙ ap (λ (k : ℕ). get_or s₀ k 0) z

      -- it was put to R1 and R2, and the n that are done became u
      module _ (r : Bool) (u : List ℕ) (a : Absorbed (take n s) c r u) (l : length u ≡ length (take n s)) where
        done : length u ≡ n
        done = l ∙ length-take-le n s room

        whole : length (u ++ drop n s) ≡ length s₀
        whole = simp (length-append, length-drop) (omega (arith, p.size, room, done))

        pub composing_room : n < length (u ++ drop n s)
        composing_room = omega (arith, p.below, whole)

        -- it was absorbed
        pub composing_absorbed : r ≡ true → Composing s₀ (u ++ drop n s) n (i + 1)
        composing_absorbed e =
            let joined : absorb t c (reversed (take n s)) ≡ some (reversed u) = sym (rw e at a.0) in
            record {
              below = omega (arith, p.below);
              within = omega arith;
              size = whole;
              rest = rw (drop_at u (drop n s) n done) p.rest;
              text =
                  rw (take_at u (drop n s) n done, ← compose_absorbed t c (reversed (take n s)) (reversed u) (drop (i + 1) s₀) joined, ← next)
                  p.text;
            }

        -- it stays
        pub composing_kept : r ≡ false → Composing s₀ (set (u ++ drop n s) n c) (n + 1) (i + 1)
        composing_kept e =
            let same : u ++ drop n s ≡ s = rw (a.1 e) (take-append-drop n s) in
            let alone : absorb t c (reversed (take n s)) ≡ none = sym (rw e at a.0) in
            let longer : take (n + 1) (set s n c) ≡ take n s ++ (c ∷ []) = rw (add-one n) (take-suc-set s n c (omega (arith, p.below, p.size))) in
            record {
              below = omega (arith, p.below);
              within = omega arith;
              size = length-set (u ++ drop n s) n c ∙ whole;
              rest = rw (same, drop-set-lt (n + 1) s n c (omega arith), ← drop-drop 1 n s, ← drop-drop 1 n s₀, p.rest);
              text =
                  rw (same, longer, reversed_snoc (take n s) c, ← compose_kept t c (reversed (take n s)) (drop (i + 1) s₀) alone, ← next)
                  p.text;
            }
