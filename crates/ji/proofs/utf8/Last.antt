-- The last sequence of some bytes: where it begins, and that of the bytes of a text it is the last code point.
use mathlib.Core.Path.{◌≡◌, refl, sym, ap, ap₂, ◌∙◌, subst}
use mathlib.Core.Bool.{true, false, not}
use mathlib.Core.List.{List, [], ◌∷◌, ◌++◌, append-nil}
use mathlib.Core.Option.{some, none-ne-some}
use Prim.Native.Nat.{ℕ, zero, suc, ◌+◌, ◌-◌, ◌/◌, ◌%◌, ◌≤◌, ◌<◌}
use native.Mathlib.Omega.{arith}
use native.Mathlib.Decide.{dec_le}
use borrow.Author.Tests.{eq-eqb, ne_eqb, le-leb, lt-leb}
use lib.Dec.{leb}
use lib.ListN.{length, take, drop, get_or, drop_of_length-le, take-append-drop}
use lib.Seq.{append_snoc, take-suc, take_at, drop_at, drop-cons, take-length, length-take-le}
use Rattle.std.specs.Prelude.{Option as Found, Some, None, MatchOption, unwrap_or}
use Rattle.ucd.specs.Table.{pick_number, All}
use Rattle.ji.specs.Text.{last, but_last}
use Rattle.ji.specs.Utf8.{width_at, point_at, decode_from, decode, SequenceOf, bytes_of, encode, is_start, last_start_from, last_start, last_point}
use Rattle.ji.proofs.Bools.{number_yes, number_no, within_yes, within_below, within_above}
use Rattle.ji.proofs.utf8.Decoding.{decode_at_ill, decode_step, more_some}
use Rattle.ji.proofs.utf8.Encoding.{bytes_one, bytes_two, bytes_three, bytes_four, encode_nil, encode_cons, encode_append}
use Rattle.ji.proofs.utf8.OneToOne.{bytes_some}
use Rattle.ji.proofs.utf8.RoundTrip.{decode_bytes}

-- ── one byte more
snoc_from : (found at : ℕ) (s : List ℕ) (x : ℕ) → last_start_from found at (s ++ (x ∷ [])) ≡ pick_number (is_start x) (at + length s) (last_start_from found at s)
unfolding last_start_from
snoc_from found at [] x = let z : at ≡ at + 0 = omega arith in ap (λ (n : ℕ). pick_number (is_start x) n found) z
snoc_from found at (b ∷ s) x =
    let z : suc at + length s ≡ at + suc (length s) = omega arith in
    snoc_from (pick_number (is_start b) at found) (suc at) s x
    ∙ ap (λ (n : ℕ). pick_number (is_start x) n (last_start_from (pick_number (is_start b) at found) (suc at) s)) z

snoc : (s : List ℕ) (x : ℕ) → last_start (s ++ (x ∷ [])) ≡ pick_number (is_start x) (length s) (last_start s)
unfolding last_start
snoc s x = let z : 0 + length s ≡ length s = omega arith in snoc_from 0 0 s x ∙ ap (λ (n : ℕ). pick_number (is_start x) n (last_start_from 0 0 s)) z

snoc_start : (s : List ℕ) (x : ℕ) → is_start x ≡ true → last_start (s ++ (x ∷ [])) ≡ length s
snoc_start s x e = snoc s x ∙ number_yes _ _ _ e

snoc_more : (s : List ℕ) (x : ℕ) → is_start x ≡ false → last_start (s ++ (x ∷ [])) ≡ last_start s
snoc_more s x e = snoc s x ∙ number_no _ _ _ e

-- ── a walk from the end
pub start_none : (s : List ℕ) → last_start (take 0 s) ≡ 0
unfolding last_start last_start_from
start_none s = refl

module _ (s : List ℕ) (i : ℕ) (h : i < length s) where
  one_more : take (i + 1) s ≡ take i s ++ (get_or s i 0 ∷ [])
  one_more = let z : i + 1 ≡ suc i = omega arith in ap (λ (n : ℕ). take n s) z ∙ take-suc s i 0 h

  pub start_here : is_start (get_or s i 0) ≡ true → last_start (take (i + 1) s) ≡ length (take i s)
  start_here e = ap last_start one_more ∙ snoc_start (take i s) (get_or s i 0) e

  pub start_before : is_start (get_or s i 0) ≡ false → last_start (take (i + 1) s) ≡ last_start (take i s)
  start_before e = ap last_start one_more ∙ snoc_more (take i s) (get_or s i 0) e

-- bytes that begin no sequence do not move it
unmoved : (s : List ℕ) (i d : ℕ) → i + d ≤ length s → ((k : ℕ) → i ≤ k → k < length s → is_start (get_or s k 0) ≡ false) → last_start (take (i + d) s) ≡ last_start (take i s)
unmoved s i zero h none = let e : i + 0 ≡ i = omega arith in ap (λ (n : ℕ). last_start (take n s)) e
unmoved s i (suc d) h none =
    let e : i + suc d ≡ i + d + 1 = omega arith in
    ap (λ (n : ℕ). last_start (take n s)) e ∙ start_before s (i + d) (omega arith) (none (i + d) (omega arith) (omega arith)) ∙ unmoved s i d (omega arith) none

to_end : (s : List ℕ) (i : ℕ) → i ≤ length s → ((k : ℕ) → i ≤ k → k < length s → is_start (get_or s k 0) ≡ false) → last_start s ≡ last_start (take i s)
to_end s i h none =
    let e : length s ≡ i + (length s - i) = omega arith in
    ap last_start (sym (take-length s)) ∙ ap (λ (n : ℕ). last_start (take n s)) e ∙ unmoved s i (length s - i) (omega arith) none

-- the last byte that begins a sequence, if there is one
pub start_found : (s : List ℕ) (found : Found ℕ)
    → MatchOption found ((k : ℕ) → k < length s → is_start (get_or s k 0) ≡ false)
    (λ i. (i < length s) × (is_start (get_or s i 0) ≡ true) × ((k : ℕ) → i < k → k < length s → is_start (get_or s k 0) ≡ false))
    → (unwrap_or found 0 ≡ last_start s) × (unwrap_or found 0 ≤ length s) × (0 < length s → unwrap_or found 0 < length s)
start_found s None none = (sym (to_end s 0 (omega arith) (λ k l h. none k h) ∙ start_none s), omega arith, λ h. h)
start_found s (Some i) (h, e, none) = (
  sym (to_end s (i + 1) (omega arith) (λ k l m. none k (omega arith) m) ∙ start_here s i h e ∙ length-take-le i s (omega arith)),
  omega arith,
  λ z. h,
)

-- ── the bytes of a code point behind others
low_start : (b : ℕ) → b ≤ 0x7F → is_start b ≡ true
low_start b h = ap not (within_below 0x80 0xBF b (omega arith))

high_start : (b : ℕ) → 0xC0 ≤ b → is_start b ≡ true
high_start b h = ap not (within_above 0x80 0xBF b (omega arith))

goes_on : (b : ℕ) → 0x80 ≤ b → b ≤ 0xBF → is_start b ≡ false
goes_on b h k = ap not (within_yes 0x80 0xBF b h k)

-- further bytes move the start no further
further : (w : List ℕ) (a b : ℕ) (s : List ℕ) → last_start ((w ++ (a ∷ [])) ++ (b ∷ s)) ≡ last_start (w ++ (a ∷ b ∷ s))
further w a b s = ap last_start (append_snoc w a (b ∷ s))

module _ (w : List ℕ) (a : ℕ) (start : is_start a ≡ true) where
  after_one : (b : ℕ) → is_start b ≡ false → last_start (w ++ (a ∷ b ∷ [])) ≡ length w
  after_one b e = sym (further w a b []) ∙ snoc_more (w ++ (a ∷ [])) b e ∙ snoc_start w a start

  after_two : (b c : ℕ) → is_start b ≡ false → is_start c ≡ false → last_start (w ++ (a ∷ b ∷ c ∷ [])) ≡ length w
  after_two b c e f =
      sym (further w a b (c ∷ []))
      ∙ ap last_start (sym (append_snoc (w ++ (a ∷ [])) b (c ∷ [])))
      ∙ snoc_more ((w ++ (a ∷ [])) ++ (b ∷ [])) c f
      ∙ further w a b []
      ∙ after_one b e

  after_three : (b c d : ℕ) → is_start b ≡ false → is_start c ≡ false → is_start d ≡ false → last_start (w ++ (a ∷ b ∷ c ∷ d ∷ [])) ≡ length w
  after_three b c d e f g =
      sym (further w a b (c ∷ d ∷ []))
      ∙ ap last_start (sym (append_snoc (w ++ (a ∷ [])) b (c ∷ d ∷ [])) ∙ sym (append_snoc ((w ++ (a ∷ [])) ++ (b ∷ [])) c (d ∷ [])))
      ∙ snoc_more (((w ++ (a ∷ [])) ++ (b ∷ [])) ++ (c ∷ [])) d g
      ∙ ap last_start (append_snoc (w ++ (a ∷ [])) b (c ∷ []))
      ∙ further w a b (c ∷ [])
      ∙ after_two b c e f

point_start : (w : List ℕ) (x : ℕ) → last_start (w ++ bytes_of x) ≡ length w
point_start w x = by_size (dec_le x 0x7F) (dec_le x 0x7FF) (dec_le x 0xFFFF)
  where
    by_size : Dec (x ≤ 0x7F) → Dec (x ≤ 0x7FF) → Dec (x ≤ 0xFFFF) → last_start (w ++ bytes_of x) ≡ length w
    by_size (yes h) q r = rw (bytes_one x h) (snoc_start w x (low_start x h))
    by_size (no h) (yes k) r =
        rw (bytes_two x (omega arith) k)
        (after_one w (0xC0 + x / 64) (high_start (0xC0 + x / 64) (omega arith)) (0x80 + x % 64) (goes_on (0x80 + x % 64) (omega arith) (omega arith)))
    by_size (no h) (no k) (yes l) =
        rw (bytes_three x (omega arith) l)
        (after_two w (0xE0 + x / 4096) (high_start (0xE0 + x / 4096) (omega arith)) (0x80 + x / 64 % 64) (0x80 + x % 64)
        (goes_on (0x80 + x / 64 % 64) (omega arith) (omega arith)) (goes_on (0x80 + x % 64) (omega arith) (omega arith)))
    by_size (no h) (no k) (no l) =
        rw (bytes_four x (omega arith))
        (after_three w (0xF0 + x / 262144) (high_start (0xF0 + x / 262144) (omega arith)) (0x80 + x / 4096 % 64) (0x80 + x / 64 % 64) (0x80 + x % 64)
        (goes_on (0x80 + x / 4096 % 64) (omega arith) (omega arith)) (goes_on (0x80 + x / 64 % 64) (omega arith) (omega arith)) (goes_on (0x80 + x % 64) (omega arith) (omega arith)))

-- ── the bytes of a text
-- a text is its last code point behind the others
pub but_last_law : (s : List ℕ) → 0 < length s → but_last 1 s ++ (last s ∷ []) ≡ s
unfolding but_last last
but_last_law s h =
    let n = length s - 1 in
    let end : drop n s ≡ get_or s n 0 ∷ [] = drop-cons s n 0 (omega arith) ∙ ap (λ (l : List ℕ). get_or s n 0 ∷ l) (drop_of_length-le s {i = suc n} (omega arith)) in
    ap (λ (l : List ℕ). take n s ++ l) (sym end) ∙ take-append-drop n s

but_none : but_last 1 [] ≡ []
unfolding but_last
but_none = refl

last_bytes : (u : List ℕ) → 0 < length u → encode u ≡ encode (but_last 1 u) ++ bytes_of (last u)
last_bytes u h =
    ap encode (sym (but_last_law u h))
    ∙ encode_append (but_last 1 u) (last u ∷ [])
    ∙ ap (λ (l : List ℕ). encode (but_last 1 u) ++ l) (encode_cons (last u) [] ∙ ap (λ (l : List ℕ). bytes_of (last u) ++ l) encode_nil ∙ append-nil (bytes_of (last u)))

-- the last sequence begins behind the bytes of all but the last code point
pub start_bytes : (u : List ℕ) → last_start (encode u) ≡ length (encode (but_last 1 u))
unfolding last_start last_start_from
start_bytes [] = ap last_start encode_nil ∙ sym (ap length (ap encode but_none ∙ encode_nil))
start_bytes (x ∷ u) = ap last_start (last_bytes (x ∷ u) (omega arith)) ∙ point_start (encode (but_last 1 (x ∷ u))) (last (x ∷ u))

pub front_bytes : (u : List ℕ) → take (last_start (encode u)) (encode u) ≡ encode (but_last 1 u)
front_bytes [] = ap₂ take (start_bytes []) encode_nil ∙ rw (but_none, encode_nil) refl
front_bytes (x ∷ u) =
    ap₂ take (start_bytes (x ∷ u)) (last_bytes (x ∷ u) (omega arith)) ∙ take_at (encode (but_last 1 (x ∷ u))) (bytes_of (last (x ∷ u))) _ refl

-- and is that of the last one
pub last_skip : (x y : ℕ) (s : List ℕ) → last (x ∷ y ∷ s) ≡ last (y ∷ s)
unfolding last
last_skip x y s =
    let e : suc (suc (length s)) - 1 ≡ suc (length s) = omega arith in
    let f : suc (length s) - 1 ≡ length s = omega arith in
    ap (λ (n : ℕ). get_or (x ∷ y ∷ s) n 0) e ∙ sym (ap (λ (n : ℕ). get_or (y ∷ s) n 0) f)

last_one : (x : ℕ) → last (x ∷ []) ≡ x
unfolding last
last_one x = refl

all_last : (P : ℕ → Type 0) (x : ℕ) (s : List ℕ) → All P (x ∷ s) → P (last (x ∷ s))
all_last P x [] h = subst P (sym (last_one x)) h.0
all_last P x (y ∷ s) h = subst P (sym (last_skip x y s)) (all_last P y s h.1)

only : (x : ℕ) → x < 0xD800 → decode (bytes_of x) ≡ some (x ∷ [])
unfolding decode decode_from
only x h = ap decode (sym (append-nil (bytes_of x))) ∙ decode_bytes x [] h

module _ (x : ℕ) (h : x < 0xD800) where
  read_alone : (s : List ℕ) → s ≡ bytes_of x → (width_at s ≡ 0 → ⊥) × (point_at s ≡ x)
  read_alone [] e = absurd (omega (arith, bytes_some x, ap length e))
  read_alone (b ∷ s) e =
      let d : decode (b ∷ s) ≡ some (x ∷ []) = ap decode e ∙ only x h in
      let wide : width_at (b ∷ s) ≡ 0 → ⊥ = λ z. none-ne-some (x ∷ []) (sym (decode_at_ill (b ∷ s) 0 (omega arith) z) ∙ d) in
      let m = more_some (point_at (b ∷ s)) (decode (drop (width_at (b ∷ s)) (b ∷ s))) (x ∷ []) (sym (decode_step b s (positive (width_at (b ∷ s)) wide)) ∙ d) in
      (wide, same_head m.2)
    where
      positive : (n : ℕ) → (n ≡ 0 → ⊥) → 0 < n
      positive n k = omega arith

      same_head : {y z : ℕ} {l m : List ℕ} → y ∷ l ≡ z ∷ m → z ≡ y
      same_head e = cc

-- what reading there gives
pub point_none : (s : List ℕ) → length s ≡ 0 → 0 ≡ last_point s
unfolding last_point last_start last_start_from width_at
point_none [] h = refl
point_none (x ∷ s) h = absurd (omega arith)

pub point_ill : (s : List ℕ) (at : ℕ) → at ≡ last_start s → width_at (drop at s) ≡ 0 → 0 ≡ last_point s
unfolding last_point
point_ill s at e h = sym (number_yes _ _ _ (eq-eqb _ 0 (ap (λ (n : ℕ). width_at (drop n s)) (sym e) ∙ h)))

module _ (s : List ℕ) (at w p : ℕ) (e : at ≡ last_start s) (r : SequenceOf (drop at s) w p) where
  wide : w ≡ width_at (drop (last_start s) s)
  wide = r.wide ∙ ap (λ (n : ℕ). width_at (drop n s)) e

  point_is : p ≡ point_at (drop (last_start s) s)
  point_is = r.read ∙ ap (λ (n : ℕ). point_at (drop n s)) e

  from_width : last_point s ≡ pick_number (leb (point_at (drop (last_start s) s)) 0xFFFF) (point_at (drop (last_start s) s)) 0
  unfolding last_point
  from_width = number_no _ _ _ (ne_eqb _ 0 (λ (z : width_at (drop (last_start s) s) ≡ 0). omega (arith, wide, r.some)))

  pub point_read : p ≤ 0xFFFF → p ≡ last_point s
  point_read small = point_is ∙ sym (from_width ∙ number_yes _ _ _ (le-leb (point_at (drop (last_start s) s)) 0xFFFF (subst (λ (n : ℕ). n ≤ 0xFFFF) point_is small)))

  pub point_large : 0xFFFF < p → 0 ≡ last_point s
  point_large large = sym (from_width ∙ number_no _ _ _ (lt-leb (point_at (drop (last_start s) s)) 0xFFFF (subst (λ (n : ℕ). 0xFFFF < n) point_is large)))

pub point_bytes : (u : List ℕ) → All (λ x. x < 0xD800) u → last_point (encode u) ≡ last u
unfolding last_point last
point_bytes [] h = sym (point_none (encode []) (ap length encode_nil))
point_bytes (x ∷ u) h =
    let w = encode (but_last 1 (x ∷ u)) in
    let tail : drop (last_start (encode (x ∷ u))) (encode (x ∷ u)) ≡ bytes_of (last (x ∷ u)) = ap₂ drop (start_bytes (x ∷ u)) (last_bytes (x ∷ u) (omega arith)) ∙ drop_at w (bytes_of (last (x ∷ u))) (length w) refl in
    let r = read_alone (last (x ∷ u)) (all_last (λ y. y < 0xD800) x u h) _ tail in
    let low : last (x ∷ u) < 0xD800 = all_last (λ y. y < 0xD800) x u h in
    number_no _ _ _ (ne_eqb _ 0 r.0) ∙ number_yes _ _ _ (le-leb (point_at (drop (last_start (encode (x ∷ u))) (encode (x ∷ u)))) 0xFFFF (omega (arith, r.1))) ∙ r.1
