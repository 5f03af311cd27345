-- The parts of an entry: the bytes of an entry split as its code points do, one part at a time, and each part of a good entry is a good text.
use mathlib.Core.Path.{◌≡◌, refl, sym, ap, ap₂, ◌∙◌}
use mathlib.Core.Bool.{Bool, true, ◌&&◌}
use mathlib.Core.List.{List, [], ◌∷◌, ◌++◌, map}
use Prim.Native.Nat.{ℕ, zero, suc, ◌≤◌, ◌<◌}
use native.Mathlib.Decide.{dec_le, ℕ_discrete}
use native.Mathlib.Omega.{arith}
use borrow.Author.Tests.{eq-eqb, ne_eqb, leb-true}
use lib.Dec.{leb, eqb}
use lib.ListN.{length, get_or, length-map, get_or-map}
use Rattle.std.specs.List.{slice_split, onto_first, enumerate_from}
use Rattle.std.proofs.lemmas.List.FromFn.{length-enumerate_from, get_or-enumerate_from}
use native.Mathlib.Nat.{zero-add}
use Rattle.std.proofs.lemmas.List.{get_or_default}
use Rattle.std.proofs.lemmas.List.Splits.{slice_split-cons_yes, slice_split-cons_no}
use Rattle.ji.specs.Unicode.{Table, All, unicode16, member, members}
use Rattle.ji.specs.Utf8.{bytes_of, encode}
use Rattle.ji.specs.Reply.{good, check_text}
use Rattle.ji.specs.Lomaji.Dot.{dot_in}
use Rattle.ji.proofs.Bools.{and_left, and_right, and_yes}
use Rattle.ji.proofs.unicode.Bytes.{bytes_one, bytes_two, bytes_three, bytes_four, encode_nil, encode_cons}
use Rattle.ji.proofs.unicode.Checked.{read_back, check_passes, Passed}
use Rattle.khiin_entries.specs.KeySequence.{pick_texts, in_front, split, holds_dot, parts_fit}
use Rattle.ji.proofs.lomaji.dot.Laws.{dot_listed}
use Rattle.khiin_entries.specs.Choices.{text_in, points_of, all_short}

-- ── one code point
pub split_nil : split [] ≡ [] ∷ []
unfolding split
split_nil = refl

pub split_space : (c : ℕ) (s : List ℕ) → c ≡ 0x20 → split (c ∷ s) ≡ [] ∷ split s
unfolding split
split_space c s e = ap (λ (b : Bool). pick_texts b ([] ∷ split s) (in_front c (split s))) (eq-eqb c 0x20 e)

pub split_other : (c : ℕ) (s : List ℕ) → (c ≡ 0x20 → ⊥) → split (c ∷ s) ≡ in_front c (split s)
unfolding split
split_other c s ne = ap (λ (b : Bool). pick_texts b ([] ∷ split s) (in_front c (split s))) (ne_eqb c 0x20 ne)

-- there is always a first part
abbrev pub Parted : List (List ℕ) → Type 0
Parted ps = (w : List ℕ) × (ws : List (List ℕ)) × (ps ≡ w ∷ ws)

some_more : (c : ℕ) (s : List ℕ) → Parted (split s) → Dec (c ≡ 0x20) → Parted (split (c ∷ s))
some_more c s p (yes e) = ([], split s, split_space c s e)
some_more c s p (no ne) = (c ∷ p.0, p.1, split_other c s ne ∙ ap (in_front c) p.2)

pub some_part : (s : List ℕ) → Parted (split s)
some_part [] = ([], [], split_nil)
some_part (c ∷ s) = some_more c s (some_part s) (ℕ_discrete c 0x20)

-- the library cuts a slice at a test in the same way
abbrev pub is_space : ℕ → Bool
is_space b = eqb b 0x20

front_same : (c : ℕ) (ws : List (List ℕ)) → onto_first c ws ≡ in_front c ws
front_same c [] = refl
front_same c (w ∷ ws) = refl

cut_more : (c : ℕ) (s : List ℕ) → slice_split is_space s ≡ split s → Dec (c ≡ 0x20) → slice_split is_space (c ∷ s) ≡ split (c ∷ s)
cut_more c s ih (yes e) = slice_split-cons_yes is_space c s (eq-eqb c 0x20 e) ∙ ap (λ (ws : List (List ℕ)). [] ∷ ws) ih ∙ sym (split_space c s e)
cut_more c s ih (no ne) = slice_split-cons_no is_space c s (ne_eqb c 0x20 ne) ∙ ap (onto_first c) ih ∙ front_same c (split s) ∙ sym (split_other c s ne)

pub split_cut : (s : List ℕ) → slice_split is_space s ≡ split s
split_cut [] = sym split_nil
split_cut (c ∷ s) = cut_more c s (split_cut s) (ℕ_discrete c 0x20)

-- what holds of each part
abbrev pub Each : (List ℕ → Type 0) → List (List ℕ) → Type 0
Each P [] = Unit {0}
Each P (w ∷ ws) = P w × Each P ws

pub each_at : (P : List ℕ → Type 0) (ws : List (List ℕ)) → Each P ws → (i : ℕ) → i < length ws → P (get_or ws i [])
each_at P [] h i k = absurd (omega arith)
each_at P (w ∷ ws) h zero k = h.0
each_at P (w ∷ ws) h (suc i) k = each_at P ws h.1 i (omega arith)

-- ── the bytes of an entry
-- no byte of any other code point is a space
abbrev NoSpace : List ℕ → Type 0
NoSpace s = All (λ b. b ≡ 0x20 → ⊥) s

no_space : (x : ℕ) → (x ≡ 0x20 → ⊥) → NoSpace (bytes_of x)
no_space x ne = by_size (dec_le x 0x7F) (dec_le x 0x7FF) (dec_le x 0xFFFF)
  where
    by_size : Dec (x ≤ 0x7F) → Dec (x ≤ 0x7FF) → Dec (x ≤ 0xFFFF) → NoSpace (bytes_of x)
    by_size (yes h) q r = rw (bytes_one x h) (ne, tt)
    by_size (no h) (yes k) r = rw (bytes_two x (omega arith) k) (λ e. omega arith, (λ e. omega arith, tt))
    by_size (no h) (no k) (yes l) = rw (bytes_three x (omega arith) l) (λ e. omega arith, (λ e. omega arith, (λ e. omega arith, tt)))
    by_size (no h) (no k) (no l) = rw (bytes_four x (omega arith)) (λ e. omega arith, (λ e. omega arith, (λ e. omega arith, (λ e. omega arith, tt))))

-- so they go to the first part of the rest
split_behind : (v s : List ℕ) → NoSpace v → (w : List ℕ) (ws : List (List ℕ)) → split s ≡ w ∷ ws → split (v ++ s) ≡ (v ++ w) ∷ ws
split_behind [] s h w ws e = e
split_behind (c ∷ v) s h w ws e = split_other c (v ++ s) h.0 ∙ ap (in_front c) (split_behind v s h.1 w ws e)

encode_more : (x : ℕ) (s : List ℕ) → split (encode s) ≡ map encode (split s) → Parted (split s) → Dec (x ≡ 0x20) → split (encode (x ∷ s)) ≡ map encode (split (x ∷ s))
encode_more x s ih p (yes e) =
    ap split (encode_cons x s ∙ ap (λ (l : List ℕ). l ++ encode s) (bytes_one x (omega arith)))
    ∙ split_space x (encode s) e
    ∙ ap₂ ◌∷◌ (sym encode_nil) ih
    ∙ ap (map encode) (sym (split_space x s e))
encode_more x s ih p (no ne) =
    let ws = map encode p.1 in
    ap split (encode_cons x s)
    ∙ split_behind (bytes_of x) (encode s) (no_space x ne) (encode p.0) ws (ih ∙ ap (map encode) p.2)
    ∙ ap (λ (l : List ℕ). l ∷ ws) (sym (encode_cons x p.0))
    ∙ ap (map encode) (sym (split_other x s ne ∙ ap (in_front x) p.2))

pub split_encode : (s : List ℕ) → split (encode s) ≡ map encode (split s)
split_encode [] = ap split encode_nil ∙ split_nil ∙ sym (ap (map encode) split_nil ∙ ap (λ (w : List ℕ). w ∷ []) encode_nil)
split_encode (x ∷ s) = encode_more x s (split_encode s) (some_part s) (ℕ_discrete x 0x20)

-- a part of a text of the table is one
abbrev pub Inside : Table → List ℕ → Type 0
Inside t w = members t w ≡ true

members_more : (t : Table) (c : ℕ) (s : List ℕ) → members t (c ∷ s) ≡ true → Each (Inside t) (split s) → Parted (split s) → Dec (c ≡ 0x20) → Each (Inside t) (split (c ∷ s))
unfolding members
members_more t c s h ih p (yes e) = rw (split_space c s e) (refl, ih)
members_more t c s h ih p (no ne) =
    let ws = rw p.2 at ih in
    rw (split_other c s ne, p.2) (and_yes _ _ (and_left (member t c) (members t s) h) ∙ ws.0, ws.1)

pub split_members : (t : Table) (s : List ℕ) → members t s ≡ true → Each (Inside t) (split s)
unfolding members
split_members t [] h = rw split_nil (refl, tt)
split_members t (c ∷ s) h = members_more t c s h (split_members t s (and_right (member t c) (members t s) h)) (some_part s) (ℕ_discrete c 0x20)

-- a part holds 0358 where its bytes do
pub dot_bytes : (w : List ℕ) → dot_in (encode w) ≡ holds_dot w
unfolding holds_dot
dot_bytes w = dot_listed w

-- ── the parts of a good entry
-- the same of the bytes: none has more than 256
pub short_bytes : (t : Table) (ws : List (List ℕ)) → all_short (map encode ws) ≡ parts_fit t ws
short_bytes t [] = refl
short_bytes t (w ∷ ws) = ap (λ (b : Bool). leb (length (encode w)) 256 && b) (short_bytes t ws)

pub short_at : (ws : List (List ℕ)) → all_short ws ≡ true → (i : ℕ) → i < length ws → length (get_or ws i []) ≤ 256
short_at [] h i k = absurd (omega arith)
short_at (w ∷ ws) h zero k = leb-true (length w) 256 (and_left (leb (length w) 256) (all_short ws) h)
short_at (w ∷ ws) h (suc i) k = short_at ws (and_right (leb (length w) 256) (all_short ws) h) i (omega arith)

pub points_back : (w : List ℕ) → members unicode16 w ≡ true → points_of (encode w) ≡ w
unfolding points_of
points_back w h = ap text_in (read_back w h)

pub map_at : (ws : List (List ℕ)) (i : ℕ) → get_or (map encode ws) i [] ≡ encode (get_or ws i [])
map_at ws i = ap (λ (d : List ℕ). get_or (map encode ws) i d) (sym encode_nil) ∙ get_or-map encode ws i []

module _ (entry s : List ℕ) (h : Passed unicode16 1024 entry s) where
  -- the entry's parts
  pub parts_are : split entry ≡ map encode (split s)
  parts_are = ap split (sym h.written) ∙ split_encode s

  pub parts_count : length (split entry) ≡ length (split s)
  parts_count = ap length parts_are ∙ length-map (split s) encode

  module _ (i : ℕ) (k : i < length (split entry)) where
    abbrev part : List ℕ
    part = get_or (split s) i []

    part_inside : members unicode16 part ≡ true
    part_inside = each_at (Inside unicode16) (split s) (split_members unicode16 s h.inside) i (omega (arith, parts_count))

    part_is : get_or (split entry) i [] ≡ encode part
    part_is = ap (λ (ps : List (List ℕ)). get_or ps i []) parts_are ∙ map_at (split s) i

    -- each is the bytes of a good text
    pub part_good : length (get_or (split entry) i []) ≤ 256 → check_text unicode16 (get_or (split entry) i []) ≡ good (points_of (get_or (split entry) i []))
    unfolding check_text
    part_good short =
        rw (part_is, points_back part part_inside) (check_passes 256 part part_inside (rw part_is at short))

-- the numbered parts, as the library yields them
pub numbered_part : (s : List ℕ) (k i : ℕ) (w : List ℕ) → (k < length (enumerate_from 0 (slice_split is_space s))) × ((i, w) ≡ get_or (enumerate_from 0 (slice_split is_space s)) k (i, w))
    → (k < length (split s)) × (i ≡ k) × (w ≡ get_or (split s) k [])
numbered_part s k i w (h, e) =
    let less : k < length (split s) = rw (← split_cut s) (rw length-enumerate_from at h) in
    let same = e ∙ get_or-enumerate_from 0 (slice_split is_space s) k (i, w) (rw length-enumerate_from at h) in
    (less, ap (λ p. p.0) same ∙ zero-add k, ap (λ p. p.1) same ∙ ap (λ (ws : List (List ℕ)). get_or ws k w) (split_cut s) ∙ get_or_default (split s) k w [] less)

pub numbered_all : (s : List ℕ) (k : ℕ) → k ≡ length (enumerate_from 0 (slice_split is_space s)) → k ≡ length (split s)
numbered_all s k e = e ∙ length-enumerate_from 0 (slice_split is_space s) ∙ ap length (split_cut s)
