-- The laws of the canonical composition algorithm (the Unicode Standard, 3.11, D115 and D117), over any table: what `absorb` and `compose`
-- compute is what R1 and R2 say, and nothing else is.
use mathlib.Core.Path.{◌≡◌, refl, sym, ◌∙◌, ap, subst}
use mathlib.Core.Bool.{true, false}
use mathlib.Core.List.{List, [], ◌∷◌, ◌++◌, append_assoc, append-nil}
use mathlib.Core.Option.{Option, none, some}
use Prim.Native.Nat.{ℕ, ◌<◌}
use native.Mathlib.Omega.{arith}
use lib.Dec.{ltb, eqb}
use borrow.Author.Tests.{lt-ltb, ltb-true, eqb-true, eqb-false, eq-eqb, ne_eqb}
use Rattle.ucd.specs.Table.{Table, All, combining_class, composite}
use Rattle.ucd.proofs.Tests.{either}
use Rattle.ji.specs.Nfc.{behind, under, or_kept, reversed, Unblocked, Replaces, Composes, end, replaced, kept, absorb, compose_from, compose}
use Rattle.ji.proofs.Cases.{by_answer, none_not_some}

-- `reversed` of a text's parts, and twice
pub reversed_cons : (c : ℕ) (s : List ℕ) → reversed (c ∷ s) ≡ reversed s ++ (c ∷ [])
unfolding reversed
reversed_cons c s = refl

pub reversed_append : (s u : List ℕ) → reversed (s ++ u) ≡ reversed u ++ reversed s
unfolding reversed
reversed_append [] u = sym (append-nil (reversed u))
reversed_append (c ∷ s) u = rw (reversed_append s u) (append_assoc (reversed u) (reversed s) (c ∷ []))

pub reversed_at : (s : List ℕ) (c : ℕ) (u : List ℕ) → reversed (s ++ (c ∷ u)) ≡ reversed u ++ (c ∷ reversed s)
unfolding reversed
reversed_at s c u = reversed_append s (c ∷ u) ∙ append_assoc (reversed u) (c ∷ []) (reversed s)

pub reversed_snoc : (s : List ℕ) (c : ℕ) → reversed (s ++ (c ∷ [])) ≡ c ∷ reversed s
unfolding reversed
reversed_snoc s c = reversed_append s (c ∷ [])

pub reversed_reversed : (s : List ℕ) → reversed (reversed s) ≡ s
unfolding reversed
reversed_reversed [] = refl
reversed_reversed (c ∷ s) = reversed_snoc (reversed s) c ∙ ap (λ (l : List ℕ). c ∷ l) (reversed_reversed s)

-- what holds of each code point of two texts holds of each of the two joined, and of a text reversed
pub all_append : (P : ℕ → Type 0) (s u : List ℕ) → All P s → All P u → All P (s ++ u)
all_append P [] u h k = k
all_append P (c ∷ s) u h k = (h.0, all_append P s u h.1 k)

pub all_reversed : (P : ℕ → Type 0) (s : List ℕ) → All P s → All P (reversed s)
unfolding reversed
all_reversed P [] h = tt
all_reversed P (c ∷ s) h = all_append P (reversed s) (c ∷ []) (all_reversed P s h.1) (h.0, tt)

-- what an answer was made of
behind_some : (o : Option ℕ) (r q : List ℕ) → behind o r ≡ some q → (p : ℕ) × (o ≡ some p) × (p ∷ r ≡ q)
unfolding behind
behind_some none r q e = absurd (none_not_some refl e)
behind_some (some p) r q e = (p, refl, (cc))

under_some : (b : ℕ) (o : Option (List ℕ)) (q : List ℕ) → under b o ≡ some q → (r : List ℕ) × (o ≡ some r) × (b ∷ r ≡ q)
unfolding under
under_some b none q e = absurd (none_not_some refl e)
under_some b (some r) q e = (r, refl, (cc))

module _ (t : Table) where
  -- R1 and R2 over what is done, last code point first: c joins a starter, or goes on past a mark that does not block it
  pub data Absorbs (c : ℕ) : List ℕ → List ℕ → Type 0 where
    joins : {l p : ℕ} {r : List ℕ} → combining_class t l ≡ 0 → composite t l c ≡ some p → Absorbs c (l ∷ r) (p ∷ r)
    past : {b : ℕ} {r q : List ℕ} → 0 < combining_class t b → combining_class t b < combining_class t c → Absorbs c r q → Absorbs c (b ∷ r) (b ∷ q)

  -- `absorb` computes them
  pub absorb_absorbs : (c : ℕ) (r q : List ℕ) → absorb t c r ≡ some q → Absorbs c r q
  unfolding absorb
  absorb_absorbs c [] q e = absurd (none_not_some refl e)
  absorb_absorbs c (b ∷ r) q e =
      either (eqb (combining_class t b) 0)
      (λ z. starter z (behind_some (composite t b c) r q (rw z at e)))
      (λ z. either (ltb (combining_class t b) (combining_class t c))
      (λ l. mark z l (absorb_absorbs c r) (under_some b (absorb t c r) q (rw (z, l) at e)))
      (λ l. absurd (none_not_some refl (rw (z, l) at e))))
    where
      starter : eqb (combining_class t b) 0 ≡ true → (p : ℕ) × (composite t b c ≡ some p) × (p ∷ r ≡ q) → Absorbs c (b ∷ r) q
      starter z (p, x, y) = subst (Absorbs c (b ∷ r)) y (joins (eqb-true (combining_class t b) 0 z) x)

      mark : eqb (combining_class t b) 0 ≡ false → ltb (combining_class t b) (combining_class t c) ≡ true
          → ((u : List ℕ) → absorb t c r ≡ some u → Absorbs c r u) → (u : List ℕ) × (absorb t c r ≡ some u) × (b ∷ u ≡ q) → Absorbs c (b ∷ r) q
      mark z l further (u, x, y) =
          let n : combining_class t b ≡ 0 → ⊥ = eqb-false (combining_class t b) 0 z in
          subst (Absorbs c (b ∷ r)) y (past (omega arith) (ltb-true (combining_class t b) (combining_class t c) l) (further u x))

  pub absorbs_absorb : (c : ℕ) {r q : List ℕ} → Absorbs c r q → absorb t c r ≡ some q
  unfolding absorb behind under
  absorbs_absorb c (joins {l} z e) = rw (eq-eqb (combining_class t l) 0 z, e)
  absorbs_absorb c (past {b} low high x) =
      rw (ne_eqb (combining_class t b) 0 (λ z. omega arith), lt-ltb (combining_class t b) (combining_class t c) high, absorbs_absorb c x)

  -- a mark that does not block c may follow what c is put to
  replaces_further : (b c : ℕ) {done done' : List ℕ} → 0 < combining_class t b → combining_class t b < combining_class t c
      → Replaces t c done done' → Replaces t c (done ++ (b ∷ [])) (done' ++ (b ∷ []))
  replaces_further b c low high h =
      record {
        before = h.before;
        starter = h.starter;
        between = h.between ++ (b ∷ []);
        point = h.point;
        is = rw h.is (append_assoc h.before (h.starter ∷ h.between) (b ∷ []));
        class = h.class;
        unblocked =
            all_append (λ b. (0 < combining_class t b) × (combining_class t b < combining_class t c)) h.between (b ∷ []) h.unblocked ((low, high), tt);
        primary = h.primary;
        becomes = rw h.becomes (append_assoc h.before (h.point ∷ h.between) (b ∷ []));
      }

  -- the rules, of what is done the right way round, are R1 and R2
  absorbs_replaces : (c : ℕ) {r q : List ℕ} → Absorbs c r q → Replaces t c (reversed r) (reversed q)
  unfolding reversed
  absorbs_replaces c (joins {l} {p} {r} z e) =
      record { before = reversed r; starter = l; between = []; point = p; is = refl; class = z; unblocked = tt; primary = e; becomes = refl }
  absorbs_replaces c (past {b} low high x) = replaces_further b c low high (absorbs_replaces c x)

  absorbs_between : (c : ℕ) (between : List ℕ) {r q : List ℕ} → Unblocked t c between → Absorbs c r q
      → Absorbs c (reversed between ++ r) (reversed between ++ q)
  unfolding reversed
  absorbs_between c [] h x = x
  absorbs_between c (b ∷ between) {r} {q} h x =
      rw (append_assoc (reversed between) (b ∷ []) r, append_assoc (reversed between) (b ∷ []) q)
      (absorbs_between c between h.1 (past h.0.0 h.0.1 x))

  pub replaces_absorbs : (c : ℕ) {done done' : List ℕ} → Replaces t c done done' → Absorbs c (reversed done) (reversed done')
  replaces_absorbs c h =
      rw (h.is, h.becomes, reversed_at h.before h.starter h.between, reversed_at h.before h.point h.between)
      (absorbs_between c h.between h.unblocked (joins h.class h.primary))

  -- D117, R1 and R2: what `absorb` answers is a replacement ..
  pub absorb_sound : (c : ℕ) (done q : List ℕ) → absorb t c (reversed done) ≡ some q → Replaces t c done (reversed q)
  absorb_sound c done q e =
      subst (λ (l : List ℕ). Replaces t c l (reversed q)) (reversed_reversed done) (absorbs_replaces c (absorb_absorbs c (reversed done) q e))

  -- .. and each replacement is what it answers
  pub absorb_complete : (c : ℕ) (done done' : List ℕ) → Replaces t c done done' → absorb t c (reversed done) ≡ some (reversed done')
  absorb_complete c done done' h = absorbs_absorb c (replaces_absorbs c h)

  -- a starter that is no composite's second code point stays
  pub absorb_starter : (c : ℕ) → combining_class t c ≡ 0 → ((l p : ℕ) → composite t l c ≡ some p → ⊥) → (r : List ℕ) → absorb t c r ≡ none
  absorb_starter c z n r = by_answer (absorb t c r) (λ e. e) (λ q e. absurd (never (absorb_absorbs c r q e)))
    where
      never : {r q : List ℕ} → Absorbs c r q → ⊥
      never (joins {l} {p} y e) = n l p e
      never (past low high x) = omega arith

  -- the turns of the composition: it ends, c stays, or c is absorbed
  pub compose_nil : (r : List ℕ) → compose_from t r [] ≡ r
  unfolding compose_from
  compose_nil r = refl

  pub compose_kept : (c : ℕ) (r s : List ℕ) → absorb t c r ≡ none → compose_from t r (c ∷ s) ≡ compose_from t (c ∷ r) s
  unfolding compose_from or_kept
  compose_kept c r s e = rw e

  pub compose_absorbed : (c : ℕ) (r q s : List ℕ) → absorb t c r ≡ some q → compose_from t r (c ∷ s) ≡ compose_from t q s
  unfolding compose_from or_kept
  compose_absorbed c r q s e = rw e

  -- what each turn keeps, of what is done (last code point first) and what is left, the composition keeps
  pub compose_keeps : (Q : List ℕ → List ℕ → Type 0)
      → ((c : ℕ) (r s : List ℕ) → absorb t c r ≡ none → Q r (c ∷ s) → Q (c ∷ r) s)
      → ((c : ℕ) (r q s : List ℕ) → Absorbs c r q → Q r (c ∷ s) → Q q s)
      → (s r : List ℕ) → Q r s → Q (compose_from t r s) []
  compose_keeps Q stays joined [] r h = rw compose_nil h
  compose_keeps Q stays joined (c ∷ s) r h =
      by_answer (absorb t c r)
      (λ e. rw (compose_kept c r s e) (compose_keeps Q stays joined s (c ∷ r) (stays c r s e h)))
      (λ q e. rw (compose_absorbed c r q s e) (compose_keeps Q stays joined s q (joined c r q s (absorb_absorbs c r q e) h)))

  -- D117: what `compose` computes is reached by R1 and R2 ..
  from_sound : (s done r : List ℕ) → r ≡ reversed done → Composes t done s (reversed (compose_from t r s))
  from_sound [] done r e = rw (compose_nil, e, reversed_reversed) end
  from_sound (c ∷ s) done r e =
      by_answer (absorb t c (reversed done))
      (λ z. rw (e, compose_kept c (reversed done) s z)
      (kept (λ done' h. none_not_some z (absorb_complete c done done' h))
      (from_sound s (done ++ (c ∷ [])) (c ∷ reversed done) (sym (reversed_snoc done c)))))
      (λ q z. rw (e, compose_absorbed c (reversed done) q s z)
      (replaced (absorb_sound c done q z) (from_sound s (reversed q) q (sym (reversed_reversed q)))))

  pub compose_sound : (s : List ℕ) → Composes t [] s (compose t s)
  unfolding compose reversed
  compose_sound s = from_sound s [] [] refl

  -- .. and nothing else is
  from_only : {done s r : List ℕ} → Composes t done s r → r ≡ reversed (compose_from t (reversed done) s)
  from_only (end {done}) = sym (ap reversed (compose_nil (reversed done)) ∙ reversed_reversed done)
  from_only (replaced {c} {done} {done'} {s} h x) =
      from_only x ∙ ap reversed (sym (compose_absorbed c (reversed done) (reversed done') s (absorb_complete c done done' h)))
  from_only (kept {c} {done} {s} h x) =
      from_only x ∙ ap reversed (ap (λ (l : List ℕ). compose_from t l s) (reversed_snoc done c) ∙ sym (compose_kept c (reversed done) s stays))
    where
      stays : absorb t c (reversed done) ≡ none
      stays = by_answer (absorb t c (reversed done)) (λ e. e) (λ q e. absurd (h (reversed q) (absorb_sound c done q e)))

  pub compose_only : (s r : List ℕ) → Composes t [] s r → r ≡ compose t s
  unfolding compose reversed
  compose_only s r x = from_only x
