-- Texts in compose's encoding. A law over any text whose code points do not decompose, stand in canonical order, and are neither 0324 nor a
-- space: its encoding has the text as its NFD, and keeps its length, its 0358 and that it has no space.
use mathlib.Core.Path.{◌≡◌, refl, sym, ap, ap₂, ◌∙◌}
use mathlib.Core.Bool.{Bool, true, false, ◌||◌}
use mathlib.Core.List.{List, [], ◌∷◌, ◌++◌}
use mathlib.Core.Option.{none, some}
use Prim.Native.Nat.{ℕ, suc, ◌+◌, ◌≤◌}
use native.Mathlib.Omega.{arith}
use borrow.Author.Tests.{ne_eqb}
use lib.Dec.{eqb}
use lib.ListN.{length, length-append}
use Rattle.ucd.proofs.Unicode16.{unicode16_facts, low_atom, composite_marks}
use Rattle.ji.specs.Unicode.{All, unicode16, classes16, listed, class_in, decomposition, combining_class, composite}
use Rattle.ji.specs.Text.{begins, replace_all}
use Rattle.ji.specs.Nfd.{Ordered, order, nfd}
use Rattle.ji.specs.Nfc.{reversed, absorb, compose_from, nfc}
use Rattle.ji.specs.Nfc.{compose as composition}
use Rattle.ji.proofs.Bools.{and_no, or_no}
use Rattle.ji.proofs.text.Laws.{replace_nil, replace_miss}
use Rattle.ji.proofs.Order.{ordered_fixed}
use Rattle.ji.proofs.Decomposition.{full_atoms}
use Rattle.ji.proofs.Composition.{all_reversed, Absorbs, joins, past, compose_keeps}
use Rattle.ji.proofs.Closure.{nfd_nfc_16}
use Rattle.khiin.specs.Syllable.{encoded}

-- ── what composition makes
-- neither 0324 nor a space
abbrev pub Other : ℕ → Type 0
Other c = (c ≡ 0x0324 → ⊥) × (c ≡ 0x20 → ⊥)

below_class : combining_class unicode16 0x0324 ≡ 220
unfolding combining_class unicode16 class_in classes16
below_class = refl

dot_class : combining_class unicode16 0x0358 ≡ 232
unfolding combining_class unicode16 class_in classes16
dot_class = refl

starter_no_dot : (c : ℕ) → combining_class unicode16 c ≡ 0 → c ≡ 0x0358 → ⊥
starter_no_dot c k z = omega (arith, dot_class, ap (combining_class unicode16) z)

module _ (a b p : ℕ) (e : composite unicode16 a b ≡ some p) where
  made_other : Other p
  made_other = (
    (λ z. omega (arith, below_class, unicode16_facts.starter a b p e, ap (combining_class unicode16) z)),
    (λ z. omega (arith, ap length (sym (unicode16_facts.decomposes a b p e) ∙ ap (decomposition unicode16) z ∙ low_atom 0x20 (omega arith)))),
  )

  made_no_dot : p ≡ 0x0358 → ⊥
  made_no_dot = starter_no_dot p (unicode16_facts.starter a b p e)

  -- nothing is composed with 0358
  no_dot_joins : b ≡ 0x0358 → ⊥
  no_dot_joins z = omega (arith, (composite_marks a b p e).1)

-- ── what it keeps
listed_first : (c d k : ℕ) (s : List ℕ) → (c ≡ k → ⊥) → (d ≡ k → ⊥) → listed (c ∷ s) k ≡ listed (d ∷ s) k
unfolding listed
listed_first c d k s n m = or_no (eqb c k) (listed s k) (ne_eqb c k n) ∙ sym (or_no (eqb d k) (listed s k) (ne_eqb d k m))

listed_behind : (b k : ℕ) (r q : List ℕ) → listed r k ≡ listed q k → listed (b ∷ r) k ≡ listed (b ∷ q) k
unfolding listed
listed_behind b k r q e = ap (λ (x : Bool). eqb b k || x) e

-- c is absorbed in r, which gives q
pub record Kept (c : ℕ) (r q : List ℕ) : Type 0 where
  pub other : All Other r → All Other q
  pub dot : listed r 0x0358 ≡ listed q 0x0358
  pub size : length q ≡ length r
  pub no_dot : c ≡ 0x0358 → ⊥

absorbs_keeps : (c : ℕ) {r q : List ℕ} → Absorbs unicode16 c r q → Kept c r q
absorbs_keeps c (joins {l} {p} {r} z e) =
    record {
      other = λ h. (made_other l c p e, h.1);
      dot = listed_first l p 0x0358 r (starter_no_dot l z) (made_no_dot l c p e);
      size = refl;
      no_dot = no_dot_joins l c p e;
    }
absorbs_keeps c (past {b} {r} {q} low high x) =
    let k = absorbs_keeps c x in
    record {
      other = λ h. (h.0, k.other h.1);
      dot = listed_behind b 0x0358 r q k.dot;
      size = ap suc k.size;
      no_dot = k.no_dot;
    }

-- what is done, r, and what is left, u, have 0358 as `dot` says, and are n code points at most
record Composing (dot : Bool) (n : ℕ) (r u : List ℕ) : Type 0 where
  done : All Other r
  left : All Other u
  dotted : (listed r 0x0358 || listed u 0x0358) ≡ dot
  size : length r + length u ≤ n

or_moved : (x y z : Bool) → ((x || y) || z) ≡ (y || (x || z))
or_moved true true z = refl
or_moved true false z = refl
or_moved false y z = refl

module _ (dot : Bool) (n : ℕ) where
  stays : (c : ℕ) (r s : List ℕ) → absorb unicode16 c r ≡ none → Composing dot n r (c ∷ s) → Composing dot n (c ∷ r) s
  unfolding listed
  stays c r s e h =
      let k = h.size in
      record {
        done = (h.left.0, h.done);
        left = h.left.1;
        dotted = or_moved (eqb c 0x0358) (listed r 0x0358) (listed s 0x0358) ∙ h.dotted;
        size = omega arith;
      }

  absorbed : (c : ℕ) (r q s : List ℕ) → Absorbs unicode16 c r q → Composing dot n r (c ∷ s) → Composing dot n q s
  unfolding listed
  absorbed c r q s x h =
      let k = absorbs_keeps c x in
      let l = h.size in
      record {
        done = k.other h.done;
        left = h.left.1;
        dotted = ap₂ (λ (a b : Bool). a || b) (sym k.dot) (sym (or_no (eqb c 0x0358) (listed s 0x0358) (ne_eqb c 0x0358 k.no_dot))) ∙ h.dotted;
        size = omega (arith, k.size);
      }

pub listed_append : (s u : List ℕ) (k : ℕ) → listed (s ++ u) k ≡ (listed s k || listed u k)
unfolding listed
listed_append [] u k = refl
listed_append (c ∷ s) u k = ap (λ (b : Bool). eqb c k || b) (listed_append s u k) ∙ assoc (eqb c k) (listed s k) (listed u k)
  where
    assoc : (x y z : Bool) → (x || (y || z)) ≡ ((x || y) || z)
    assoc true y z = refl
    assoc false y z = refl

or_comm : (x y : Bool) → (x || y) ≡ (y || x)
or_comm true true = refl
or_comm true false = refl
or_comm false true = refl
or_comm false false = refl

or_none : (x : Bool) → (x || false) ≡ x
or_none true = refl
or_none false = refl

listed_reversed : (s : List ℕ) (k : ℕ) → listed (reversed s) k ≡ listed s k
unfolding reversed listed
listed_reversed [] k = refl
listed_reversed (c ∷ s) k =
    listed_append (reversed s) (c ∷ []) k
    ∙ ap₂ (λ (a b : Bool). a || b) (listed_reversed s k) (or_none (eqb c k))
    ∙ or_comm (listed s k) (eqb c k)

length_reversed : (s : List ℕ) → length (reversed s) ≡ length s
unfolding reversed
length_reversed [] = refl
length_reversed (c ∷ s) = length-append (reversed s) (c ∷ []) ∙ (rw (length_reversed s) (omega arith))

-- the exchange of 0324 030D finds nothing
abbrev swapped : List ℕ → List ℕ
swapped s = replace_all (0x0324 ∷ 0x030D ∷ []) (0x030D ∷ 0x0324 ∷ []) s

swap_none : (s : List ℕ) → All Other s → swapped s ≡ s
unfolding begins
swap_none [] h = replace_nil _ _
swap_none (x ∷ s) h = replace_miss _ _ x s (and_no _ _ (ne_eqb x 0x0324 h.0.0)) ∙ ap (λ (l : List ℕ). x ∷ l) (swap_none s h.1)

-- ── the law
pub record Encodes (s w : List ℕ) : Type 0 where
  pub nfd_is : nfd unicode16 w ≡ s
  pub nfc_is : w ≡ nfc unicode16 s
  pub other : All Other w
  pub dot : listed w 0x0358 ≡ listed s 0x0358
  pub size : length w ≤ length s

module _ (s : List ℕ) (atoms : All (λ c. decomposition unicode16 c ≡ c ∷ []) s) (ordered : Ordered unicode16 s) (others : All Other s) where
  nfd_itself : nfd unicode16 s ≡ s
  unfolding nfd
  nfd_itself = ap (order unicode16) (full_atoms unicode16 s atoms) ∙ ordered_fixed unicode16 s ordered

  composed : Composing (listed s 0x0358) (length s) (compose_from unicode16 [] s) []
  unfolding listed
  composed =
      compose_keeps unicode16 (Composing (listed s 0x0358) (length s)) (stays (listed s 0x0358) (length s)) (absorbed (listed s 0x0358) (length s)) s []
      (record { done = tt; left = others; dotted = refl; size = omega arith })

  nfc_composed : nfc unicode16 s ≡ reversed (compose_from unicode16 [] s)
  unfolding nfc composition
  nfc_composed = ap (λ (u : List ℕ). reversed (compose_from unicode16 [] u)) nfd_itself

  nfc_other : All Other (nfc unicode16 s)
  nfc_other = rw nfc_composed (all_reversed Other (compose_from unicode16 [] s) composed.done)

  pub encodes : Encodes s (encoded unicode16 s)
  unfolding encoded listed
  encodes =
      rw (swap_none (nfc unicode16 s) nfc_other)
      (record {
        nfd_is = nfd_nfc_16 s ∙ nfd_itself;
        nfc_is = refl;
        other = nfc_other;
        dot = ap (λ (u : List ℕ). listed u 0x0358) nfc_composed ∙ listed_reversed (compose_from unicode16 [] s) 0x0358 ∙ sym (or_none (listed (compose_from unicode16 [] s) 0x0358)) ∙ composed.dotted;
        size = rw nfc_composed (omega (arith, length_reversed (compose_from unicode16 [] s), composed.size));
      })
