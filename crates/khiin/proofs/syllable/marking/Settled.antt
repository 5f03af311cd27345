-- Texts that need no normalising: they are in compose's encoding as they stand, and a tone mark behind one of their letters changes that letter alone.
use mathlib.Core.Path.{◌≡◌, refl, sym, ap, ap₂, ◌∙◌, subst}
use mathlib.Core.Bool.{Bool, true, false, ◌&&◌, ◌||◌}
use mathlib.Core.List.{List, [], ◌∷◌, ◌++◌, append_assoc}
use mathlib.Core.Logic.{◌⊎◌, inl, inr}
use mathlib.Core.Option.{Option, none, some}
use Prim.Native.Nat.{ℕ, ◌≤◌, ◌<◌}
use native.Mathlib.Decide.{ℕ_discrete}
use native.Mathlib.Omega.{arith}
use lib.Dec.{ltb, eqb}
use lib.ListN.{get_or}
use borrow.Author.Tests.{eq-eqb, ne_eqb, eqb-true, ltb-true}
use Rattle.ji.specs.Unicode.{unicode16, listed, mappings16, classes16, mapping_in, class_in, decomposition, combining_class, composite, pass, passes, full}
use Rattle.ji.specs.Text.{points, begins, replace_all}
use Rattle.ji.specs.Nfd.{Reorderable, here, there, more, Ordered, order, nfd}
use Rattle.ji.specs.Nfd.{none as no_exchange}
use Rattle.ji.specs.Nfc.{pick_done, behind, under, reversed, absorb, compose_from, nfc}
use Rattle.ji.specs.Nfc.{compose as composition}
use Rattle.ji.specs.declared.tone.Tone.{Tone}
use Rattle.ji.specs.declared.tone.Tone.TheVariants.{None, T1, T2, T3, T4, T5, T6, T7, T8, T9}
use Rattle.ji.proofs.Bools.{either, false_true, and_yes, and_no, and_false, and_left, and_right, or_no}
use Rattle.ji.proofs.text.Laws.{replace_nil, replace_hit, replace_miss}
use Rattle.ji.proofs.Order.{exchanges_behind, ordered_fixed, order_only}
use Rattle.ji.proofs.Composition.{reversed_at, reversed_reversed, compose_nil, compose_kept, compose_absorbed}
use Rattle.ji.proofs.ComposeLoops.{low_stays}
use Rattle.ji.proofs.Decomposition.{full_nil, full_cons}
use Rattle.khiin.specs.Syllable.{mark_of, encoded}
use Rattle.khiin.specs.Compose.{stays_behind, settled_from, is_mark}
use Rattle.ji.proofs.unicode.Laws.{dot_full}
use Rattle.khiin.proofs.syllable.marking.Facts.{low_starter, dots_class, dot_class, small_class, capital_class, low_full, dots_full, small_full, capital_full, no_composite}

-- ── one code point
data Kind (before x : ℕ) : Type 0 where
  low : x < 0xC0 → Kind before x
  dot : x ≡ 0x0358 → Kind before x
  small : x ≡ 0x207F → Kind before x
  capital : x ≡ 0x1D3A → Kind before x
  dots : x ≡ 0x0324 → before < 0x80 → composite unicode16 before 0x0324 ≡ none → Kind before x

-- an o, of which 0324 makes no composite
letter_o : (x : ℕ) → listed (points "oO") x ≡ true → (x < 0x80) × (composite unicode16 x 0x0324 ≡ none)
unfolding listed
letter_o x e =
    either (eqb 0x6F x)
    (λ y. let z : 0x6F ≡ x = eqb-true 0x6F x y in (omega arith, rw (← z) (no_composite 0x6F 0x0324 refl)))
    (λ n. let z : 0x4F ≡ x = eqb-true 0x4F x (one_left (eqb 0x4F x) (sym (or_no (eqb 0x6F x) (eqb 0x4F x || false) n) ∙ e)) in (omega arith, rw (← z) (no_composite 0x4F 0x0324 refl)))
  where
    one_left : (b : Bool) → (b || false) ≡ true → b ≡ true
    one_left true e = refl
    one_left false e = e

kind : (before x : ℕ) → stays_behind before x ≡ true → Kind before x
unfolding listed
kind before x e =
    either (ltb x 0xC0) (λ y. low (ltb-true x 0xC0 y))
    (λ n. either (eqb 0x0358 x) (λ y. dot (sym (eqb-true 0x0358 x y)))
    (λ m. either (eqb 0x207F x) (λ y. small (sym (eqb-true 0x207F x y)))
    (λ l. either (eqb 0x1D3A x) (λ y. capital (sym (eqb-true 0x1D3A x y)))
    (λ k.
    let rest : (eqb x 0x0324 && listed (points "oO") before) ≡ true = rw (n, m, l, k) at e in
    let o = letter_o before (and_right (eqb x 0x0324) (listed (points "oO") before) rest) in
    dots (eqb-true x 0x0324 (and_left (eqb x 0x0324) (listed (points "oO") before) rest)) o.0 o.1))))

-- it does not decompose, and is no 030D
kind_full : {before x : ℕ} → Kind before x → full unicode16 (x ∷ []) ≡ x ∷ []
kind_full {x = x} (low h) = low_full x h
kind_full (dot e) = rw e dot_full
kind_full (small e) = rw e small_full
kind_full (capital e) = rw e capital_full
kind_full (dots e h n) = rw e dots_full

kind_line : {before x : ℕ} → Kind before x → x ≡ 0x030D → ⊥
kind_line (low h) z = omega arith
kind_line (dot e) z = omega arith
kind_line (small e) z = omega arith
kind_line (capital e) z = omega arith
kind_line (dots e h n) z = omega arith

-- its class is at most that of 0358
kind_class : {before x : ℕ} → Kind before x → combining_class unicode16 x ≤ 232
kind_class {x = x} (low h) = omega (arith, low_starter x (omega arith))
kind_class (dot e) = rw e (omega (arith, dot_class))
kind_class (small e) = rw e (omega (arith, small_class))
kind_class (capital e) = rw e (omega (arith, capital_class))
kind_class (dots e h n) = rw e (omega (arith, dots_class))

-- it is in order behind `before`
kind_order : {before x : ℕ} → combining_class unicode16 before ≤ 232 → Kind before x → Reorderable unicode16 before x → ⊥
kind_order {x = x} b (low h) r = omega (arith, low_starter x (omega arith))
kind_order b (dot e) r = omega (arith, dot_class, ap (combining_class unicode16) e)
kind_order b (small e) r = omega (arith, small_class, ap (combining_class unicode16) e)
kind_order b (capital e) r = omega (arith, capital_class, ap (combining_class unicode16) e)
kind_order {before} b (dots e h n) r = omega (arith, low_starter before (omega arith))

-- and is never absorbed there
no_pick : (a b : Bool) → pick_done a none (pick_done b none none) ≡ none
no_pick true b = refl
no_pick false true = refl
no_pick false false = refl

absorb_never : (c : ℕ) → ((l : ℕ) → composite unicode16 l c ≡ none) → (r : List ℕ) → absorb unicode16 c r ≡ none
unfolding absorb behind under
absorb_never c h [] = refl
absorb_never c h (b ∷ r) =
    rw (h b, absorb_never c h r) (no_pick (eqb (combining_class unicode16 b) 0) (ltb (combining_class unicode16 b) (combining_class unicode16 c)))

absorb_starter : (c b : ℕ) (r : List ℕ) → combining_class unicode16 b ≡ 0 → absorb unicode16 c (b ∷ r) ≡ behind (composite unicode16 b c) r
unfolding absorb
absorb_starter c b r z = rw (eq-eqb (combining_class unicode16 b) 0 z)

kind_absorb : {before x : ℕ} → Kind before x → (r : List ℕ) → absorb unicode16 x (before ∷ r) ≡ none
unfolding behind
kind_absorb {before} {x} (low h) r = low_stays x (omega arith) (before ∷ r)
kind_absorb {before} (dot e) r = rw e (absorb_never 0x0358 (λ l. no_composite l 0x0358 refl) (before ∷ r))
kind_absorb {before} (small e) r = rw e (absorb_never 0x207F (λ l. no_composite l 0x207F refl) (before ∷ r))
kind_absorb {before} (capital e) r = rw e (absorb_never 0x1D3A (λ l. no_composite l 0x1D3A refl) (before ∷ r))
kind_absorb {before} (dots e h n) r = rw (e, absorb_starter 0x0324 before r (low_starter before (omega arith)), n)

-- ── a settled text
module _ (b x : ℕ) (s : List ℕ) (h : settled_from b (x ∷ s) ≡ true) where
  settled_kind : Kind b x
  unfolding settled_from
  settled_kind = kind b x (and_left (stays_behind b x) (settled_from x s) h)

  settled_rest : settled_from x s ≡ true
  unfolding settled_from
  settled_rest = and_right (stays_behind b x) (settled_from x s) h

settled_left : (b : ℕ) (s u : List ℕ) → settled_from b (s ++ u) ≡ true → settled_from b s ≡ true
unfolding settled_from
settled_left b [] u h = refl
settled_left b (x ∷ s) u h =
    and_yes (stays_behind b x) (settled_from x s) (and_left (stays_behind b x) (settled_from x (s ++ u)) h)
    ∙ settled_left x s u (and_right (stays_behind b x) (settled_from x (s ++ u)) h)

settled_right : (b : ℕ) (s : List ℕ) (x : ℕ) (u : List ℕ) → settled_from b (s ++ (x ∷ u)) ≡ true → settled_from x u ≡ true
unfolding settled_from
settled_right b [] x u h = and_right (stays_behind b x) (settled_from x u) h
settled_right b (y ∷ s) x u h = settled_right y s x u (and_right (stays_behind b y) (settled_from y (s ++ (x ∷ u))) h)

-- what is no 0324 may stand behind anything
settled_behind : (b c x : ℕ) (s : List ℕ) → (x ≡ 0x0324 → ⊥) → settled_from b (x ∷ s) ≡ true → settled_from c (x ∷ s) ≡ true
unfolding settled_from
settled_behind b c x s n h =
    ap (λ (t : Bool). ((ltb x 0xC0 || listed (0x0358 ∷ 0x207F ∷ 0x1D3A ∷ []) x) || (t && listed (points "oO") c)) && settled_from x s) (ne_eqb x 0x0324 n)
    ∙ sym (ap (λ (t : Bool). ((ltb x 0xC0 || listed (0x0358 ∷ 0x207F ∷ 0x1D3A ∷ []) x) || (t && listed (points "oO") b)) && settled_from x s) (ne_eqb x 0x0324 n))
    ∙ h

full_settled : (b : ℕ) (s : List ℕ) → settled_from b s ≡ true → full unicode16 s ≡ s
full_settled b [] h = full_nil unicode16
full_settled b (x ∷ s) h =
    full_cons unicode16 x s ∙ ap₂ (λ (u v : List ℕ). u ++ v) (kind_full (settled_kind b x s h)) (full_settled x s (settled_rest b x s h))

ordered_settled : (b : ℕ) (s : List ℕ) → combining_class unicode16 b ≤ 232 → settled_from b s ≡ true → Ordered unicode16 (b ∷ s)
ordered_settled b [] k h = (tt, tt)
ordered_settled b (x ∷ s) k h =
    let g = settled_kind b x s h in
    (kind_order k g, ordered_settled x s (kind_class g) (settled_rest b x s h))

compose_settled : (s : List ℕ) (b : ℕ) (r : List ℕ) → settled_from b s ≡ true → compose_from unicode16 (b ∷ r) s ≡ reversed s ++ (b ∷ r)
unfolding reversed
compose_settled [] b r h = compose_nil unicode16 (b ∷ r)
compose_settled (x ∷ s) b r h =
    compose_kept unicode16 x (b ∷ r) s (kind_absorb (settled_kind b x s h) r)
    ∙ compose_settled s x (b ∷ r) (settled_rest b x s h)
    ∙ sym (append_assoc (reversed s) (x ∷ []) (b ∷ r))

absorb_nothing : (c : ℕ) → absorb unicode16 c [] ≡ none
unfolding absorb
absorb_nothing c = refl

-- a settled text in front of any other
compose_behind : (s : List ℕ) (b : ℕ) (r u : List ℕ) → settled_from b s ≡ true → compose_from unicode16 (b ∷ r) (s ++ u) ≡ compose_from unicode16 (reversed s ++ (b ∷ r)) u
unfolding reversed
compose_behind [] b r u h = refl
compose_behind (x ∷ s) b r u h =
    compose_kept unicode16 x (b ∷ r) (s ++ u) (kind_absorb (settled_kind b x s h) r)
    ∙ compose_behind s x (b ∷ r) u (settled_rest b x s h)
    ∙ ap (λ (l : List ℕ). compose_from unicode16 l u) (sym (append_assoc (reversed s) (x ∷ []) (b ∷ r)))

compose_front : (s u : List ℕ) → settled_from 0 s ≡ true → compose_from unicode16 [] (s ++ u) ≡ compose_from unicode16 (reversed s) u
unfolding reversed
compose_front [] u h = refl
compose_front (x ∷ s) u h = compose_kept unicode16 x [] (s ++ u) (absorb_nothing x) ∙ compose_behind s x [] u (settled_rest 0 x s h)

ordered_front : (b : ℕ) (s : List ℕ) (x : ℕ) (u : List ℕ) → combining_class unicode16 b ≤ 232 → settled_from b s ≡ true → x < 0xC0 → Ordered unicode16 (x ∷ u) → Ordered unicode16 (b ∷ (s ++ (x ∷ u)))
ordered_front b [] x u k h l o = ((λ r. omega (arith, low_starter x (omega arith))), o)
ordered_front b (y ∷ s) x u k h l o =
    let g = settled_kind b y s h in
    (kind_order k g, ordered_front y s x u (kind_class g) (settled_rest b y s h) l o)

-- ── the exchange of 0324 030D
abbrev swapped : List ℕ → List ℕ
swapped s = replace_all (0x0324 ∷ 0x030D ∷ []) (0x030D ∷ 0x0324 ∷ []) s

swap_other : (x : ℕ) (s : List ℕ) → (x ≡ 0x0324 → ⊥) → swapped (x ∷ s) ≡ x ∷ swapped s
unfolding begins
swap_other x s n = replace_miss _ _ x s (and_no _ _ (ne_eqb x 0x0324 n))

swap_before : (x y : ℕ) (s : List ℕ) → (y ≡ 0x030D → ⊥) → swapped (x ∷ y ∷ s) ≡ x ∷ swapped (y ∷ s)
unfolding begins
swap_before x y s n = replace_miss _ _ x (y ∷ s) (ap (λ (t : Bool). eqb x 0x0324 && (t && true)) (ne_eqb y 0x030D n) ∙ and_false (eqb x 0x0324))

swap_last : (x : ℕ) → swapped (x ∷ []) ≡ x ∷ []
unfolding begins
swap_last x = replace_miss _ _ x [] (and_false (eqb x 0x0324)) ∙ ap (λ (l : List ℕ). x ∷ l) (replace_nil _ _)

swap_settled : (b : ℕ) (s : List ℕ) → settled_from b s ≡ true → swapped s ≡ s
swap_settled b [] h = replace_nil _ _
swap_settled b (x ∷ []) h = swap_last x
swap_settled b (x ∷ y ∷ s) h =
    let k = settled_rest b x (y ∷ s) h in
    swap_before x y s (kind_line (settled_kind x y s k)) ∙ ap (λ (l : List ℕ). x ∷ l) (swap_settled x (y ∷ s) k)

swap_front : (b : ℕ) (s : List ℕ) (x : ℕ) (u : List ℕ) → settled_from b s ≡ true → (x ≡ 0x0324 → ⊥) → (x ≡ 0x030D → ⊥) → swapped (s ++ (x ∷ u)) ≡ s ++ (x ∷ swapped u)
swap_front b [] x u h n m = swap_other x u n
swap_front b (y ∷ []) x u h n m = swap_before y x u m ∙ ap (λ (l : List ℕ). y ∷ l) (swap_other x u n)
swap_front b (y ∷ z ∷ s) x u h n m =
    let k = settled_rest b y (z ∷ s) h in
    swap_before y z (s ++ (x ∷ u)) (kind_line (settled_kind y z s k)) ∙ ap (λ (l : List ℕ). y ∷ l) (swap_front y (z ∷ s) x u k n m)

swap_hit : (s : List ℕ) → swapped (0x0324 ∷ 0x030D ∷ s) ≡ 0x030D ∷ 0x0324 ∷ swapped s
unfolding begins
swap_hit s = replace_hit (0x0324 ∷ 0x030D ∷ []) (0x030D ∷ 0x0324 ∷ []) 0x0324 (0x030D ∷ s) (omega arith) refl

-- ── a settled text is in compose's encoding
zero_class : combining_class unicode16 0 ≤ 232
zero_class = omega (arith, low_starter 0 (omega arith))

compose_whole : (s : List ℕ) → settled_from 0 s ≡ true → compose_from unicode16 [] s ≡ reversed s
unfolding reversed
compose_whole [] h = compose_nil unicode16 []
compose_whole (x ∷ s) h = compose_kept unicode16 x [] s (absorb_nothing x) ∙ compose_settled s x [] (settled_rest 0 x s h)

pub encoded_settled : (s : List ℕ) → settled_from 0 s ≡ true → encoded unicode16 s ≡ s
unfolding encoded nfc nfd composition
encoded_settled s h =
    ap swapped (ap (λ (l : List ℕ). composition unicode16 (order unicode16 l)) (full_settled 0 s h)
    ∙ ap (composition unicode16) (ordered_fixed unicode16 s (ordered_settled 0 s zero_class h).1)
    ∙ ap reversed (compose_whole s h)
    ∙ reversed_reversed s)
    ∙ swap_settled 0 s h

-- ── and with a tone mark behind a letter
-- what follows the letter: no 0324, and then anything may stand before it; or 0324, which makes no composite with the letter
dots_behind : {before x : ℕ} → Kind before x → x ≡ 0x0324 → (before < 0x80) × (composite unicode16 before 0x0324 ≡ none)
dots_behind (low h) z = absurd (let q : ⊥ = omega arith in q)
dots_behind (dot e) z = absurd (let q : ⊥ = omega arith in q)
dots_behind (small e) z = absurd (let q : ⊥ = omega arith in q)
dots_behind (capital e) z = absurd (let q : ⊥ = omega arith in q)
dots_behind (dots e h n) z = (h, n)

data Next (x : ℕ) (b : List ℕ) : Type 0 where
  other : ((c : ℕ) → settled_from c b ≡ true) → Next x b
  two_dots : (s : List ℕ) → b ≡ 0x0324 ∷ s → ((c : ℕ) → settled_from c s ≡ true) → composite unicode16 x 0x0324 ≡ none → Next x b

next : (x : ℕ) (b : List ℕ) → settled_from x b ≡ true → Next x b
unfolding settled_from
next x [] h = other (λ c. refl)
next x (y ∷ s) h = by (ℕ_discrete y 0x0324)
  where
    behind_dots : (z : ℕ) (s : List ℕ) → settled_from 0x0324 (z ∷ s) ≡ true → z ≡ 0x0324 → ⊥
    behind_dots z s k e = let q : 0x0324 < 0x80 = (dots_behind (settled_kind 0x0324 z s k) e).0 in omega arith

    any : (s : List ℕ) → settled_from 0x0324 s ≡ true → (c : ℕ) → settled_from c s ≡ true
    any [] k c = refl
    any (z ∷ s) k c = settled_behind 0x0324 c z s (behind_dots z s k) k

    by : Dec (y ≡ 0x0324) → Next x (y ∷ s)
    by (no n) = other (λ c. settled_behind x c y s n h)
    by (yes e) =
        two_dots s (ap (λ (z : ℕ). z ∷ s) e) (any s (subst (λ (z : ℕ). settled_from z s ≡ true) e (settled_rest x y s h)))
        (dots_behind (settled_kind x y s h) e).1

pub record IsMark (m : ℕ) : Type 0 where
  pub class : combining_class unicode16 m ≡ 230
  pub itself : full unicode16 (m ∷ []) ≡ m ∷ []
  pub other : m ≡ 0x0324 → ⊥
  pub two : (0x80 ≤ m) × (m < 0x0800)

module _ (a : List ℕ) (x : ℕ) (b : List ℕ) (h : settled_from 0 (a ++ (x ∷ b)) ≡ true) (l : x < 0xC0) (m : ℕ) (mark : IsMark m) where
  front_settled : settled_from 0 a ≡ true
  front_settled = settled_left 0 a (x ∷ b) h

  rest_settled : settled_from x b ≡ true
  rest_settled = settled_right 0 a x b h

  starter : combining_class unicode16 x ≡ 0
  starter = low_starter x (omega arith)

  full_text : (s : List ℕ) → full unicode16 s ≡ s → full unicode16 (m ∷ s) ≡ m ∷ s
  full_text s e = full_cons unicode16 m s ∙ ap₂ (λ (u v : List ℕ). u ++ v) mark.itself e

  full_behind : (c : ℕ) (s u : List ℕ) → settled_from c s ≡ true → full unicode16 u ≡ u → full unicode16 (s ++ u) ≡ s ++ u
  full_behind c [] u k e = e
  full_behind c (y ∷ s) u k e =
      full_cons unicode16 y (s ++ u) ∙ ap₂ (λ (v w : List ℕ). v ++ w) (kind_full (settled_kind c y s k)) (full_behind y s u (settled_rest c y s k) e)

  full_marked : full unicode16 (a ++ (x ∷ m ∷ b)) ≡ a ++ (x ∷ m ∷ b)
  full_marked =
      full_behind 0 a (x ∷ m ∷ b) front_settled
      (full_cons unicode16 x (m ∷ b) ∙ ap₂ (λ (u v : List ℕ). u ++ v) (low_full x l) (full_text b (full_settled x b rest_settled)))

  -- up to the letter
  to_letter : (u : List ℕ) → compose_from unicode16 [] (a ++ (x ∷ u)) ≡ compose_from unicode16 (x ∷ reversed a) u
  to_letter u = compose_front a (x ∷ u) front_settled ∙ compose_kept unicode16 x (reversed a) u (low_stays x (omega arith) (reversed a))

  mark_absorb : absorb unicode16 m (x ∷ reversed a) ≡ behind (composite unicode16 x m) (reversed a)
  mark_absorb = absorb_starter m x (reversed a) starter

  mark_absorb_past : absorb unicode16 m (0x0324 ∷ x ∷ reversed a) ≡ under 0x0324 (behind (composite unicode16 x m) (reversed a))
  unfolding absorb
  mark_absorb_past =
      rw (dots_class, mark.class, eq-eqb (combining_class unicode16 x) 0 starter)

  back : (c : ℕ) → reversed (reversed b ++ (c ∷ reversed a)) ≡ a ++ (c ∷ b)
  back c = reversed_at (reversed b) c (reversed a) ∙ ap₂ (λ (u v : List ℕ). u ++ (c ∷ v)) (reversed_reversed a) (reversed_reversed b)

  -- the text is in order, and so is its NFD
  module _ (k : (c : ℕ) → settled_from c b ≡ true) where
    marked_nfd : nfd unicode16 (a ++ (x ∷ m ∷ b)) ≡ a ++ (x ∷ m ∷ b)
    unfolding nfd
    marked_nfd =
        let o : Ordered unicode16 (m ∷ b) = ordered_settled m b (omega (arith, mark.class)) (k m) in
        ap (order unicode16) full_marked
        ∙ ordered_fixed unicode16 (a ++ (x ∷ m ∷ b)) (ordered_front 0 a x (m ∷ b) zero_class front_settled l ((λ r. omega (arith, starter)), o)).1

    -- the mark and the letter have a composite
    other_one : (p : ℕ) → composite unicode16 x m ≡ some p → nfc unicode16 (a ++ (x ∷ m ∷ b)) ≡ a ++ (p ∷ b)
    unfolding nfc composition behind
    other_one p e =
        ap (λ (t : List ℕ). reversed (compose_from unicode16 [] t)) marked_nfd
        ∙ ap reversed (to_letter (m ∷ b)
        ∙ compose_absorbed unicode16 m (x ∷ reversed a) (p ∷ reversed a) b (mark_absorb ∙ ap (λ (o : Option ℕ). behind o (reversed a)) e)
        ∙ compose_settled b p (reversed a) (k p))
        ∙ back p

    -- they have none
    other_none : composite unicode16 x m ≡ none → nfc unicode16 (a ++ (x ∷ m ∷ b)) ≡ a ++ (x ∷ m ∷ b)
    unfolding nfc composition behind reversed
    other_none e =
        ap (λ (t : List ℕ). reversed (compose_from unicode16 [] t)) marked_nfd
        ∙ ap reversed (to_letter (m ∷ b)
        ∙ compose_kept unicode16 m (x ∷ reversed a) b (mark_absorb ∙ ap (λ (o : Option ℕ). behind o (reversed a)) e)
        ∙ compose_settled b m (x ∷ reversed a) (k m))
        ∙ reversed_at (reversed b) m (x ∷ reversed a)
        ∙ rw (reversed_reversed a, reversed_reversed b) (append_assoc a (x ∷ []) (m ∷ b))

  -- 0324 follows, before which the mark does not stay
  module _ (s : List ℕ) (is : b ≡ 0x0324 ∷ s) (k : (c : ℕ) → settled_from c s ≡ true) (n : composite unicode16 x 0x0324 ≡ none) where
    dotted_nfd : nfd unicode16 (a ++ (x ∷ m ∷ b)) ≡ a ++ (x ∷ 0x0324 ∷ m ∷ s)
    unfolding nfd
    dotted_nfd =
        let o : Ordered unicode16 (m ∷ s) = ordered_settled m s (omega (arith, mark.class)) (k m) in
        let r : Reorderable unicode16 m 0x0324 = (omega (arith, dots_class), omega (arith, dots_class, mark.class)) in
        let two : Ordered unicode16 (x ∷ 0x0324 ∷ m ∷ s) = ((λ r. omega (arith, starter)), ((λ r. omega (arith, dots_class, mark.class)), o)) in
        ap (order unicode16) (full_marked ∙ ap (λ (t : List ℕ). a ++ (x ∷ m ∷ t)) is)
        ∙ sym (order_only unicode16 (a ++ (x ∷ m ∷ 0x0324 ∷ s)) (a ++ (x ∷ 0x0324 ∷ m ∷ s))
        (exchanges_behind unicode16 a (more (there (here r)) no_exchange))
        (ordered_front 0 a x (0x0324 ∷ m ∷ s) zero_class front_settled l two).1)

    to_dots : compose_from unicode16 [] (a ++ (x ∷ 0x0324 ∷ m ∷ s)) ≡ compose_from unicode16 (0x0324 ∷ x ∷ reversed a) (m ∷ s)
    unfolding behind
    to_dots =
        to_letter (0x0324 ∷ m ∷ s)
        ∙ compose_kept unicode16 0x0324 (x ∷ reversed a) (m ∷ s)
        (absorb_starter 0x0324 x (reversed a) starter ∙ ap (λ (o : Option ℕ). behind o (reversed a)) n)

    dotted_one : (p : ℕ) → composite unicode16 x m ≡ some p → nfc unicode16 (a ++ (x ∷ m ∷ b)) ≡ a ++ (p ∷ b)
    unfolding nfc composition behind under reversed
    dotted_one p e =
        ap (λ (t : List ℕ). reversed (compose_from unicode16 [] t)) dotted_nfd
        ∙ ap reversed (to_dots
        ∙ compose_absorbed unicode16 m (0x0324 ∷ x ∷ reversed a) (0x0324 ∷ p ∷ reversed a) s (mark_absorb_past ∙ ap (λ (o : Option ℕ). under 0x0324 (behind o (reversed a))) e)
        ∙ compose_settled s 0x0324 (p ∷ reversed a) (k 0x0324))
        ∙ reversed_at (reversed s) 0x0324 (p ∷ reversed a)
        ∙ rw (reversed_reversed a, reversed_reversed s, is) (append_assoc a (p ∷ []) (0x0324 ∷ s))

    dotted_none : composite unicode16 x m ≡ none → nfc unicode16 (a ++ (x ∷ m ∷ b)) ≡ a ++ (x ∷ 0x0324 ∷ m ∷ s)
    unfolding nfc composition behind under reversed
    dotted_none e =
        ap (λ (t : List ℕ). reversed (compose_from unicode16 [] t)) dotted_nfd
        ∙ ap reversed (to_dots
        ∙ compose_kept unicode16 m (0x0324 ∷ x ∷ reversed a) s (mark_absorb_past ∙ ap (λ (o : Option ℕ). under 0x0324 (behind o (reversed a))) e)
        ∙ compose_settled s m (0x0324 ∷ x ∷ reversed a) (k m))
        ∙ reversed_at (reversed s) m (0x0324 ∷ x ∷ reversed a)
        ∙ rw (reversed_reversed a, reversed_reversed s) (append_assoc (a ++ (x ∷ [])) (0x0324 ∷ []) (m ∷ s) ∙ append_assoc a (x ∷ []) (0x0324 ∷ m ∷ s))

  nfc_one : (p : ℕ) → composite unicode16 x m ≡ some p → Next x b → nfc unicode16 (a ++ (x ∷ m ∷ b)) ≡ a ++ (p ∷ b)
  nfc_one p e (other k) = other_one k p e
  nfc_one p e (two_dots s is k n) = dotted_one s is k n p e

  -- the letter gives way to the composite
  pub encoded_one : (p : ℕ) → composite unicode16 x m ≡ some p → p < 0x0300 → encoded unicode16 (a ++ (x ∷ m ∷ b)) ≡ a ++ (p ∷ b)
  unfolding encoded
  encoded_one p e below =
      ap swapped (nfc_one p e (next x b rest_settled))
      ∙ swap_front 0 a p b front_settled (λ z. omega arith) (λ z. omega arith)
      ∙ ap (λ (t : List ℕ). a ++ (p ∷ t)) (swap_settled x b rest_settled)

  -- the mark stays behind it: 030D also before 0324
  abbrev pub Fits : Type 0
  Fits = (m ≡ 0x030D) ⊎ (get_or b 0 0 ≡ 0x0324 → ⊥)

  swap_none : Fits → composite unicode16 x m ≡ none → Next x b → encoded unicode16 (a ++ (x ∷ m ∷ b)) ≡ a ++ (x ∷ m ∷ b)
  unfolding encoded
  swap_none f e (other k) =
      ap swapped (other_none k e)
      ∙ swap_front 0 a x (m ∷ b) front_settled (λ z. omega arith) (λ z. omega arith)
      ∙ ap (λ (t : List ℕ). a ++ (x ∷ t)) (swap_other m b mark.other ∙ ap (λ (t : List ℕ). m ∷ t) (swap_settled x b rest_settled))
  swap_none (inl f) e (two_dots s is k n) =
      ap swapped (dotted_none s is k n e)
      ∙ swap_front 0 a x (0x0324 ∷ m ∷ s) front_settled (λ z. omega arith) (λ z. omega arith)
      ∙ ap (λ (t : List ℕ). a ++ (x ∷ t)) (rw (f, is) (swap_hit s ∙ ap (λ (t : List ℕ). 0x030D ∷ 0x0324 ∷ t) (swap_settled 0x0324 s (k 0x0324))))
  swap_none (inr f) e (two_dots s is k n) = absurd (f (ap (λ (t : List ℕ). get_or t 0 0) is))

  pub encoded_none : Fits → composite unicode16 x m ≡ none → encoded unicode16 (a ++ (x ∷ m ∷ b)) ≡ a ++ (x ∷ m ∷ b)
  encoded_none f e = swap_none f e (next x b rest_settled)

-- ── the tone marks
mark_at : (k : ℕ) → (combining_class unicode16 k ≡ 230) → (full unicode16 (k ∷ []) ≡ k ∷ []) → (k ≡ 0x0324 → ⊥) → (0x80 ≤ k) × (k < 0x0800) → (m : ℕ) → k ∷ [] ≡ m ∷ [] → IsMark m
mark_at k class itself differs two m e =
    let is : k ≡ m = cc in
    subst IsMark is (record { class = class; itself = itself; other = differs; two = two })

no_mark : (m : ℕ) → ◌≡◌ {A = List ℕ} [] (m ∷ []) → IsMark m
no_mark m e = absurd (let z : ◌≡◌ {A = ℕ} 0 1 = cc in omega arith)

pub tone_mark : (tone : Tone) (m : ℕ) → mark_of tone ≡ m ∷ [] → IsMark m
unfolding mark_of combining_class class_in classes16 unicode16 full passes pass decomposition mapping_in mappings16
tone_mark None m e = no_mark m e
tone_mark T1 m e = no_mark m e
tone_mark T2 m e = mark_at 0x0301 refl refl (λ z. omega arith) (omega arith, omega arith) m e
tone_mark T3 m e = mark_at 0x0300 refl refl (λ z. omega arith) (omega arith, omega arith) m e
tone_mark T4 m e = no_mark m e
tone_mark T5 m e = mark_at 0x0302 refl refl (λ z. omega arith) (omega arith, omega arith) m e
tone_mark T6 m e = mark_at 0x0303 refl refl (λ z. omega arith) (omega arith, omega arith) m e
tone_mark T7 m e = mark_at 0x0304 refl refl (λ z. omega arith) (omega arith, omega arith) m e
tone_mark T8 m e = mark_at 0x030D refl refl (λ z. omega arith) (omega arith, omega arith) m e
tone_mark T9 m e = mark_at 0x0306 refl refl (λ z. omega arith) (omega arith, omega arith) m e

-- by the list of them
pub listed_mark : (m : ℕ) → is_mark m ≡ true → IsMark m
unfolding combining_class class_in classes16 unicode16 full passes pass decomposition mapping_in mappings16 listed
listed_mark m h =
    either (eqb 0x0300 m) (λ e. at 0x0300 refl refl (λ z. omega arith) (omega arith, omega arith) e)
    (λ a. either (eqb 0x0301 m) (λ e. at 0x0301 refl refl (λ z. omega arith) (omega arith, omega arith) e)
    (λ b. either (eqb 0x0302 m) (λ e. at 0x0302 refl refl (λ z. omega arith) (omega arith, omega arith) e)
    (λ c. either (eqb 0x0303 m) (λ e. at 0x0303 refl refl (λ z. omega arith) (omega arith, omega arith) e)
    (λ d. either (eqb 0x0304 m) (λ e. at 0x0304 refl refl (λ z. omega arith) (omega arith, omega arith) e)
    (λ f. either (eqb 0x0306 m) (λ e. at 0x0306 refl refl (λ z. omega arith) (omega arith, omega arith) e)
    (λ g. either (eqb 0x030D m) (λ e. at 0x030D refl refl (λ z. omega arith) (omega arith, omega arith) e)
    (λ i. absurd (false_true (rw (a, b, c, d, f, g, i) at h)))))))))
  where
    at : (k : ℕ) → (combining_class unicode16 k ≡ 230) → (full unicode16 (k ∷ []) ≡ k ∷ []) → (k ≡ 0x0324 → ⊥) → (0x80 ≤ k) × (k < 0x0800) → eqb k m ≡ true → IsMark m
    at k class itself differs two e = mark_at k class itself differs two m (ap (λ (j : ℕ). j ∷ []) (eqb-true k m e))
