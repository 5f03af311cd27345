-- The laws of the normalisation forms (the Unicode Standard, 3.11, D118 and D120; UAX #15), over any table that passes its test (`Facts`).
use mathlib.Core.Path.{◌≡◌, refl, sym, ◌∙◌, ap}
use mathlib.Core.List.{List, [], ◌∷◌, ◌++◌, append_assoc, append-nil}
use mathlib.Core.Option.{some}
use Prim.Native.Nat.{ℕ, ◌<◌}
use native.Mathlib.Omega.{arith}
use Rattle.ucd.specs.Table.{Table, All, Atom, combining_class, composite}
use Rattle.ucd.specs.Full.{full, Facts}
use Rattle.ji.specs.Nfd.{Reorderable, here, none, more, order, nfd}
use Rattle.ji.specs.Nfc.{reversed, compose_from, compose, nfc}
use Rattle.ji.proofs.Order.{order_exchanges, order_order, order_left, order_right, order_all}
use Rattle.ji.proofs.Composition.{reversed_cons, all_reversed, Absorbs, joins, past, compose_keeps}
use Rattle.ji.proofs.Decomposition.{full_append, full_atoms, full_all, full_is_atoms, full_composite}

-- of what is done, what is no starter does not decompose
abbrev Settled : Table → ℕ → Type 0
Settled t c = 0 < combining_class t c → Atom t c

-- what is done and what is left have the NFD n, and nothing of what is left decomposes
abbrev Same : Table → List ℕ → List ℕ → List ℕ → Type 0
Same t n r u = All (Atom t) u × All (Settled t) r × (nfd t (reversed r ++ u) ≡ n)

not_mark : {n : ℕ} → n ≡ 0 → 0 < n → ⊥
not_mark z k = omega arith

module _ (t : Table) where
  nfd_is : (s : List ℕ) → nfd t s ≡ order t (full t s)
  unfolding nfd
  nfd_is s = refl

  -- the NFD of two texts joined is the order of their NFDs
  nfd_append : (s u : List ℕ) → nfd t (s ++ u) ≡ order t (nfd t s ++ nfd t u)
  unfolding nfd
  nfd_append s u = rw (full_append t s u) (sym (order_right t (order t (full t s)) (full t u) ∙ order_left t (full t s) (full t u)))

  -- canonical equivalence, having one NFD (D70), is kept by joining texts
  pub same_append : (s s' u u' : List ℕ) → nfd t s ≡ nfd t s' → nfd t u ≡ nfd t u' → nfd t (s ++ u) ≡ nfd t (s' ++ u')
  same_append s s' u u' p q = nfd_append s u ∙ rw (p, q) (sym (nfd_append s' u'))

  -- two marks that are exchanged are equivalent
  same_exchanged : (b c : ℕ) → Atom t b → Atom t c → Reorderable t c b → nfd t (b ∷ c ∷ []) ≡ nfd t (c ∷ b ∷ [])
  unfolding nfd
  same_exchanged b c hb hc h =
      rw (full_atoms t (b ∷ c ∷ []) (hb, (hc, tt)), full_atoms t (c ∷ b ∷ []) (hc, (hb, tt))) (sym (order_exchanges t (more (here h) none)))

  -- a turn of the composition that keeps c keeps the NFD
  kept_same : (n : List ℕ) (c : ℕ) (r u : List ℕ) → Same t n r (c ∷ u) → Same t n (c ∷ r) u
  kept_same n c r u k = (k.0.1, ((λ z. k.0.0), k.1), rw (reversed_cons c r, append_assoc (reversed r) (c ∷ []) u) k.2)

  module _ (F : Facts t) where
    -- nothing of an NFD decomposes
    pub nfd_atoms : (s : List ℕ) → All (Atom t) (nfd t s)
    unfolding nfd
    nfd_atoms s = order_all t (Atom t) (full t s) (full_is_atoms t F s)

    -- an NFD is its own (UAX #15: NFD(NFD(s)) = NFD(s))
    pub nfd_nfd : (s : List ℕ) → nfd t (nfd t s) ≡ nfd t s
    nfd_nfd s = nfd_is (nfd t s) ∙ rw (full_atoms t (nfd t s) (nfd_atoms s), nfd_is s) (order_order t (full t s))

    -- a composite is equivalent to the two that it is made of
    same_composite : (a b p : ℕ) → composite t a b ≡ some p → nfd t (a ∷ b ∷ []) ≡ nfd t (p ∷ [])
    unfolding nfd
    same_composite a b p e = ap (order t) (sym (full_composite t F a b p e))

    -- R1 and R2 give an equivalent text
    same_absorbs : (c : ℕ) → Atom t c → {r q : List ℕ} → All (Settled t) r → Absorbs t c r q → nfd t (reversed r ++ (c ∷ [])) ≡ nfd t (reversed q)
    unfolding reversed
    same_absorbs c hc h (joins {l} {p} {r} z e) =
        rw (append_assoc (reversed r) (l ∷ []) (c ∷ [])) (same_append (reversed r) (reversed r) (l ∷ c ∷ []) (p ∷ []) refl (same_composite l c p e))
    same_absorbs c hc h (past {b} {r} {q} low high x) =
        ap (nfd t) (append_assoc (reversed r) (b ∷ []) (c ∷ []))
        ∙ same_append (reversed r) (reversed r) (b ∷ c ∷ []) (c ∷ b ∷ []) refl (same_exchanged b c (h.0 low) hc (low, high))
        ∙ ap (nfd t) (sym (append_assoc (reversed r) (c ∷ []) (b ∷ [])))
        ∙ same_append (reversed r ++ (c ∷ [])) (reversed q) (b ∷ []) (b ∷ []) (same_absorbs c hc h.1 x) refl

    -- and leave the marks as they are
    absorbs_settled : (c : ℕ) {r q : List ℕ} → All (Settled t) r → Absorbs t c r q → All (Settled t) q
    absorbs_settled c h (joins {l} {p} z e) = ((λ k. absurd (not_mark (F.starter l c p e) k)), h.1)
    absorbs_settled c h (past low high x) = (h.0, absorbs_settled c h.1 x)

    -- so a turn that absorbs c keeps the NFD
    joined_same : (n : List ℕ) (c : ℕ) (r q u : List ℕ) → Absorbs t c r q → Same t n r (c ∷ u) → Same t n q u
    joined_same n c r q u x k = (
      k.0.1,
      absorbs_settled c k.1 x,
      same_append (reversed q) (reversed r ++ (c ∷ [])) u u (sym (same_absorbs c k.0.0 k.1 x)) refl
          ∙ ap (nfd t) (append_assoc (reversed r) (c ∷ []) u) ∙ k.2,
    )

    -- composition gives an equivalent text
    pub nfd_compose : (s : List ℕ) → All (Atom t) s → nfd t (compose t s) ≡ nfd t s
    unfolding compose reversed
    nfd_compose s h =
        ap (nfd t) (sym (append-nil (compose t s)))
        ∙ (compose_keeps t (Same t (nfd t s)) (λ c r u e k. kept_same (nfd t s) c r u k) (joined_same (nfd t s)) s [] (h, tt, refl)).2

    -- each form forgets the other (UAX #15: NFD(NFC(s)) = NFD(s), NFC(NFD(s)) = NFC(s), NFC(NFC(s)) = NFC(s))
    pub nfd_nfc : (s : List ℕ) → nfd t (nfc t s) ≡ nfd t s
    unfolding nfc
    nfd_nfc s = nfd_compose (nfd t s) (nfd_atoms s) ∙ nfd_nfd s

    pub nfc_nfd : (s : List ℕ) → nfc t (nfd t s) ≡ nfc t s
    unfolding nfc
    nfc_nfd s = ap (compose t) (nfd_nfd s)

    pub nfc_nfc : (s : List ℕ) → nfc t (nfc t s) ≡ nfc t s
    unfolding nfc
    nfc_nfc s = ap (compose t) (nfd_nfc s)

    -- two texts have one NFC just where they have one NFD: where they are canonical equivalents (D70)
    pub nfc_of_same : (s u : List ℕ) → nfd t s ≡ nfd t u → nfc t s ≡ nfc t u
    unfolding nfc
    nfc_of_same s u e = ap (compose t) e

    pub same_of_nfc : (s u : List ℕ) → nfc t s ≡ nfc t u → nfd t s ≡ nfd t u
    same_of_nfc s u e = sym (nfd_nfc s) ∙ ap (nfd t) e ∙ nfd_nfc u

  -- what full decomposition keeps of each code point, NFD keeps
  module _ (P : ℕ → Type 0) (full_in : (c : ℕ) → P c → All P (full t (c ∷ []))) where
    pub nfd_in : (s : List ℕ) → All P s → All P (nfd t s)
    unfolding nfd
    nfd_in s h = order_all t P (full t s) (full_all t P P full_in s h)

    -- and NFC does, if composites have it
    module _ (composite_in : (a b p : ℕ) → composite t a b ≡ some p → P p) where
      absorbs_in : (c : ℕ) {r q : List ℕ} → All P r → Absorbs t c r q → All P q
      absorbs_in c h (joins {l} {p} z e) = (composite_in l c p e, h.1)
      absorbs_in c h (past low high x) = (h.0, absorbs_in c h.1 x)

      compose_in : (s : List ℕ) → All P s → All P (compose t s)
      unfolding compose
      compose_in s h =
          all_reversed P (compose_from t [] s)
          (compose_keeps t (λ r u. All P r × All P u)
          (λ c r u e k. ((k.1.0, k.0), k.1.1))
          (λ c r q u x k. (absorbs_in c k.0 x, k.1.1))
          s [] (tt, h)).0

      pub nfc_in : (s : List ℕ) → All P s → All P (nfc t s)
      unfolding nfc
      nfc_in s h = compose_in (nfd t s) (nfd_in s h)
