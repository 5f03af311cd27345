-- NFC is composed to the end: no code point of it could still join a starter before it. This wants two more facts of a table than the other
-- laws, and a computed test shows both.
use mathlib.Core.Path.{◌≡◌, sym, ◌∙◌, ap, subst}
use mathlib.Core.Bool.{Bool, true, ◌&&◌}
use mathlib.Core.List.{List, [], ◌∷◌, ◌++◌}
use mathlib.Core.Logic.{⊎_elim}
use mathlib.Core.Option.{some}
use Prim.Native.Nat.{ℕ, ◌<◌, ◌≤◌}
use native.Mathlib.Omega.{arith}
use lib.Dec.{T, ltb, leb, leb→le, ltb→lt}
use Rattle.ucd.specs.Table.{Table, mapping_in, class_in, decomposition, combining_class, composite}
use Rattle.ucd.specs.Full.{Facts}
use Rattle.ucd.specs.Unicode16.{unicode16, mappings16, classes16}
use Rattle.ucd.proofs.Tests.{both_left, both_right}
use Rattle.ucd.proofs.Lists.{each_mapping, mapping_passes}
use Rattle.ucd.proofs.Facts.{two_not_one}
use Rattle.ucd.proofs.Unicode16.{unicode16_facts}
use Rattle.ji.specs.Nfd.{nfd}
use Rattle.ji.specs.Nfc.{reversed, Replaces, compose_from, compose, nfc}
use Rattle.ji.proofs.Cases.{none_not_some}
use Rattle.ji.proofs.Composition.{reversed_at, reversed_reversed, Absorbs, joins, past, absorbs_absorb, replaces_absorbs, compose_keeps}

pub record Rising (t : Table) : Type 0 where
  -- the second code point of a composite is a mark
  pub mark : (a b p : ℕ) → composite t a b ≡ some p → 0 < combining_class t b
  -- where a composite composes further, the second mark has no lower class than the first
  pub rising : (l c p b q : ℕ) → composite t l c ≡ some p → composite t p b ≡ some q → combining_class t c ≤ combining_class t b

-- no code point of what is done, last first, joins a starter before it
abbrev Finished : Table → List ℕ → Type 0
Finished t [] = Unit {0}
Finished t (c ∷ r) = ((q : List ℕ) → Absorbs t c r q → ⊥) × Finished t r

finished_at : (t : Table) (s r : List ℕ) → Finished t (s ++ r) → Finished t r
finished_at t [] r h = h
finished_at t (c ∷ s) r h = finished_at t s r h.1

module _ (t : Table) (F : Facts t) (R : Rising t) where
  -- a starter joins nothing
  starter_stays : (p : ℕ) → combining_class t p ≡ 0 → {r q : List ℕ} → Absorbs t p r q → ⊥
  starter_stays p z (joins {l} {p = x} y e) = let m : 0 < combining_class t p = R.mark l p x e in omega arith
  starter_stays p z (past low high x) = omega arith

  -- a mark that stayed stays when a later one of a higher class joins
  mark_stays : (c b : ℕ) → combining_class t b < combining_class t c → {r q : List ℕ} → Absorbs t c r q
      → ((u : List ℕ) → Absorbs t b r u → ⊥) → (u : List ℕ) → Absorbs t b q u → ⊥
  mark_stays c b h (joins {l} {p} z e) n u (joins {p = x} y f) = let k : combining_class t c ≤ combining_class t b = R.rising l c p b x e f in omega arith
  mark_stays c b h (joins {l} {p} z e) n u (past low high y) = let k : combining_class t p ≡ 0 = F.starter l c p e in omega arith
  mark_stays c b h (past low high x) n u (joins z e) = omega arith
  mark_stays c b h (past {b = d} low high x) n u (past {q = v} low' high' y) = mark_stays c b h x (λ w k. n (d ∷ w) (past low' high' k)) v y

  -- so R1 and R2 leave nothing to join, where nothing was left
  absorbs_finished : (c : ℕ) {r q : List ℕ} → Absorbs t c r q → Finished t r → Finished t q
  absorbs_finished c (joins {l} {p} z e) h = ((λ q x. starter_stays p (F.starter l c p e) x), h.1)
  absorbs_finished c (past {b} low high x) h = (mark_stays c b high x h.0, absorbs_finished c x h.1)

  -- and the composition ends with nothing to join
  compose_finished : (s : List ℕ) → Finished t (compose_from t [] s)
  compose_finished s =
      compose_keeps t (λ r u. Finished t r)
      (λ c r u e h. ((λ q x. none_not_some e (absorbs_absorb t c x)), h))
      (λ c r q u x h. absorbs_finished c x h)
      s [] tt

  -- D117 ends: R1 and R2 apply to no code point of an NFC
  pub nfc_done : (s done : List ℕ) (c : ℕ) (rest : List ℕ) → nfc t s ≡ done ++ (c ∷ rest) → (done' : List ℕ) → Replaces t c done done' → ⊥
  unfolding nfc compose
  nfc_done s done c rest e done' h =
      (finished_at t (reversed rest) (c ∷ reversed done) (subst (Finished t) turned (compose_finished (nfd t s)))).0 (reversed done')
      (replaces_absorbs t c h)
    where
      turned : compose_from t [] (nfd t s) ≡ reversed rest ++ (c ∷ reversed done)
      turned = sym (reversed_reversed (compose_from t [] (nfd t s))) ∙ ap reversed e ∙ reversed_at done c rest

-- the test: a mapping of two code points ends in a mark, and where its first has a mapping of two as well, the class of that one's mark is no
-- higher
module _ (t : Table) where
  unfoldable pub rises_to : ℕ → List ℕ → Bool
  rises_to b [] = true
  rises_to b (l ∷ []) = true
  rises_to b (l ∷ c ∷ []) = leb (combining_class t c) (combining_class t b)
  rises_to b (l ∷ c ∷ d ∷ r) = true

  unfoldable pub rises : List ℕ → Bool
  rises [] = true
  rises (a ∷ []) = true
  rises (a ∷ b ∷ []) = ltb 0 (combining_class t b) && rises_to b (decomposition t a)
  rises (a ∷ b ∷ d ∷ r) = true

  module _ (F : Facts t) (h : T (each_mapping (λ c. rises) t.mappings)) where
    -- it passes at each composite
    pair_rises : (a b p : ℕ) → composite t a b ≡ some p → T (ltb 0 (combining_class t b) && rises_to b (decomposition t a))
    unfolding decomposition rises
    pair_rises a b p e = ⊎_elim (λ one. absurd (two_not_one t a b p two one)) (λ k. rw two at k) (mapping_passes (λ c. rises) t.mappings h p)
      where
        two : decomposition t p ≡ a ∷ b ∷ []
        two = F.decomposes a b p e

    pub rising : Rising t
    unfolding rises_to
    rising =
        record {
          mark = λ a b p e. ltb→lt 0 (combining_class t b) (both_left (ltb 0 (combining_class t b)) (rises_to b (decomposition t a)) (pair_rises a b p e));
          rising = λ l c p b q e f.
              leb→le (combining_class t c) (combining_class t b)
              (rw (F.decomposes l c p e) at (both_right (ltb 0 (combining_class t b)) (rises_to b (decomposition t p)) (pair_rises p b q f)));
        }

-- the table of Unicode 16.0 passes it
pub unicode16_rising : Rising unicode16
unfolding rises_to rises mapping_in decomposition class_in combining_class unicode16 mappings16 classes16
unicode16_rising = rising unicode16 unicode16_facts tt
