-- A text with at most one tone mark: all of it but the letter with the mark is its own NFD and stays, and that letter leaves its base.
use mathlib.Core.Path.{◌≡◌, refl, sym, ap, ap₂, ◌∙◌, subst}
use mathlib.Core.Bool.{Bool, true, false, cond}
use mathlib.Core.List.{List, [], ◌∷◌, ◌++◌, append_assoc, append-nil}
use mathlib.Core.Logic.{◌⊎◌, inl, inr}
use Prim.Native.Nat.{ℕ, zero, suc, ◌+◌, ◌-◌, ◌*◌, ◌/◌, ◌%◌, ◌≤◌, ◌<◌}
use native.Mathlib.Omega.{arith}
use native.Mathlib.Numerals.{add-one}
use native.Mathlib.Decide.{dec_le}
use lib.ListN.{length, take, drop, get_or, length-append, length-drop}
use lib.Seq.{drop-cons, drop-length, take_at, get_or-drop}
use lib.Dec.{ltb}
use borrow.Author.Tests.{ltb-true, ltb-false}
use Rattle.std.specs.Prelude.{Some, None as None', not}
use Rattle.std.specs.Char.{is_ascii}
use Rattle.std.specs.List.{position_or_len}
use Rattle.std.proofs.lemmas.List.Sums.{fails_before_first}
use Rattle.std.proofs.Common.{rules, tests}
use Rattle.ucd.specs.Table.{All, Atom, in_ranges, mapping_in, class_in, member, decomposition, combining_class}
use Rattle.ucd.specs.Full.{full}
use Rattle.ucd.specs.Unicode16.{unicode16, ranges16, mappings16, classes16}
use Rattle.ucd.proofs.Unicode16.{low_atom, low_starter}
use Rattle.ji.specs.Utf8.{bytes_of, encode}
use Rattle.ji.specs.Unicode.{members}
use Rattle.ji.proofs.Parts.{part, part_is}
use Rattle.ji.specs.Nfd.{Reorderable, NoPair, Ordered, nfd}
use Rattle.ji.specs.Tone.{pick_tone, tone_number}
use Rattle.ji.specs.Reply.{placed}
use Rattle.ji.specs.Lomaji.Strip.{mark_tone, is_tone_mark, without_marks, dropped_marks, last_tone, unmarked_tone, tone_or, strip_call}
use Rattle.ji.specs.Lomaji.Quick.{IsLetter}
use Rattle.ji.specs.Lomaji.Single.{Kept, KeptTo, MarkedAt}
use Rattle.ji.specs.declared.lomaji.quick.MarkedLetter.{MarkedLetter}
use Rattle.ji.specs.declared.tone.Tone.{Tone}
use Rattle.ji.specs.declared.tone.Tone.TheVariants.{None}
use Rattle.ji.proofs.Bools.{and_yes}
use Rattle.ji.proofs.Composition.{all_append}
use Rattle.ji.proofs.Decomposition.{full_append, full_cons, full_atoms}
use Rattle.ji.proofs.utf8.Encoding.{bytes_one, bytes_two, encode_nil, encode_cons, encode_append, encode_more}
use Rattle.ji.proofs.unicode.Laws.{members_append, members_one}
use Rattle.ji.proofs.unicode.Checked.{bytes_good}
use Rattle.ji.proofs.unicode.Ascii.{ascii_member}
use Rattle.ji.proofs.lomaji.strip.Laws.{mark_is, last_none, last_more, strip_told}
use Rattle.ji.proofs.lomaji.strip.Commuting.{without_mark, without_other, dropped_mark, dropped_other, nfd_without, nfd_dropped}
use Rattle.ji.proofs.lomaji.quick.Laws.{low_no_mark, without_append, dropped_append, nil_without, nil_dropped, letter_full}

-- ── a code point that is kept
by_kept : (P : ℕ → Type 0) → ((x : ℕ) → x ≤ 0x7F → P x) → P 0x0358 → P 0x207F → (x : ℕ) → Kept x → P x
by_kept P low dot nasal x (inl h) = low x h
by_kept P low dot nasal x (inr (inl e)) = subst P (sym e) dot
by_kept P low dot nasal x (inr (inr e)) = subst P (sym e) nasal

-- it decomposes no further
kept_atom : (x : ℕ) → Kept x → Atom unicode16 x
unfolding decomposition unicode16 mapping_in mappings16
kept_atom = by_kept (Atom unicode16) (λ x h. low_atom x (omega arith)) refl refl

-- is no tone mark
kept_no_mark : (x : ℕ) → Kept x → is_tone_mark x ≡ false
unfolding is_tone_mark
kept_no_mark = by_kept (λ x. is_tone_mark x ≡ false) (λ x h. low_no_mark x (omega arith)) refl refl

-- is in the table
kept_member : (x : ℕ) → Kept x → member unicode16 x ≡ true
unfolding member unicode16 ranges16 in_ranges
kept_member = by_kept (λ x. member unicode16 x ≡ true) (λ x h. ascii_member x (omega arith)) refl refl

-- and has the class 0 or that of 0358
kept_class : (x : ℕ) → Kept x → (combining_class unicode16 x ≡ 0) ⊎ (combining_class unicode16 x ≡ 232)
unfolding combining_class unicode16 classes16 class_in
kept_class = by_kept (λ x. (combining_class unicode16 x ≡ 0) ⊎ (combining_class unicode16 x ≡ 232)) (λ x h. inl (low_starter x (omega arith))) (inr refl) (inl refl)

-- ── a text of such code points
kept_atoms : (s : List ℕ) → All Kept s → All (Atom unicode16) s
kept_atoms [] h = tt
kept_atoms (x ∷ s) h = (kept_atom x h.0, kept_atoms s h.1)

kept_full : (s : List ℕ) → All Kept s → full unicode16 s ≡ s
kept_full s h = full_atoms unicode16 s (kept_atoms s h)

kept_without : (s : List ℕ) → All Kept s → without_marks s ≡ s
kept_without [] h = nil_without
kept_without (x ∷ s) h = without_other x s (kept_no_mark x h.0) ∙ ap (λ (l : List ℕ). x ∷ l) (kept_without s h.1)

kept_dropped : (s : List ℕ) → All Kept s → dropped_marks s ≡ []
kept_dropped [] h = nil_dropped
kept_dropped (x ∷ s) h = dropped_other x s (kept_no_mark x h.0) ∙ kept_dropped s h.1

kept_members : (s : List ℕ) → All Kept s → members unicode16 s ≡ true
unfolding members
kept_members [] h = refl
kept_members (x ∷ s) h = and_yes _ _ (kept_member x h.0) ∙ kept_members s h.1

kept_pair : (a b : ℕ) → Kept a → Kept b → Reorderable unicode16 a b → ⊥
kept_pair a b h k r = by_class (kept_class a h) (kept_class b k)
  where
    by_class : (combining_class unicode16 a ≡ 0) ⊎ (combining_class unicode16 a ≡ 232) → (combining_class unicode16 b ≡ 0) ⊎ (combining_class unicode16 b ≡ 232) → ⊥
    by_class (inl x) y = omega (arith, r.1)
    by_class (inr x) (inl y) = omega (arith, r.0)
    by_class (inr x) (inr y) = omega (arith, r.1)

kept_apart : (a : ℕ) (s : List ℕ) → Kept a → All Kept s → NoPair unicode16 a s
kept_apart a [] h k = tt
kept_apart a (b ∷ s) h k = kept_pair a b h k.0

kept_ordered : (s : List ℕ) → All Kept s → Ordered unicode16 s
kept_ordered [] h = tt
kept_ordered (x ∷ s) h = (kept_apart x s h.0 h.1, kept_ordered s h.1)

-- a text of which such code points are left when it is stripped: they are left of its NFD too
left_kept : (u left : List ℕ) → All Kept left → without_marks (full unicode16 u) ≡ left → without_marks (nfd unicode16 u) ≡ left
left_kept u left h is = nfd_without u (rw is (kept_ordered left h)) ∙ is

-- so such a text is left whole, and no mark is dropped
pub kept_rest : (s : List ℕ) → All Kept s → without_marks (nfd unicode16 s) ≡ s
kept_rest s h = left_kept s s h (ap without_marks (kept_full s h) ∙ kept_without s h)

pub kept_marks : (s : List ℕ) → All Kept s → dropped_marks (nfd unicode16 s) ≡ []
kept_marks s h = nfd_dropped s ∙ ap dropped_marks (kept_full s h) ∙ kept_dropped s h

-- the bytes to the end of a text
kept_end : (s : List ℕ) (from : ℕ) (k : KeptTo s from (length s)) → drop from s ≡ encode k.0
kept_end s from k = k.2 ∙ ap (λ (l : List ℕ). encode k.0 ++ l) (drop-length s) ∙ append-nil (encode k.0)

-- what the call replies to it
pub kept_strip : (text buffer : List ℕ) → KeptTo text 0 (length text) → length text ≤ 256
    → placed (tone_number (tone_or None (unmarked_tone text))) text buffer ≡ strip_call unicode16 text buffer
kept_strip text buffer k short =
    let is : text ≡ encode k.0 = kept_end text 0 k in
    strip_told unicode16 text buffer k.0 (bytes_good text k.0 (kept_members k.0 k.1) is) short None text
    (sym (ap (last_tone None) (kept_marks k.0 k.1) ∙ last_none None)) (is ∙ ap encode (sym (kept_rest k.0 k.1)))

-- ── one letter with a mark among them
module _ (p r : List ℕ) (c : ℕ) (x : MarkedLetter) (hp : All Kept p) (hr : All Kept r) (l : IsLetter c x) where
  abbrev whole : List ℕ
  whole = p ++ (c ∷ r)

  abbrev left : List ℕ
  left = p ++ (x.ascii ∷ r)

  whole_full : full unicode16 whole ≡ p ++ (x.ascii ∷ l.0 ∷ r)
  whole_full =
      full_append unicode16 p (c ∷ r)
      ∙ ap₂ (λ (a b : List ℕ). a ++ b) (kept_full p hp) (full_cons unicode16 c r ∙ ap₂ (λ (a b : List ℕ). a ++ b) (sym (letter_full c x l)) (kept_full r hr))

  base_kept : Kept x.ascii
  base_kept = inl (omega (arith, l.2))

  left_is_kept : All Kept left
  left_is_kept = all_append Kept p (x.ascii ∷ r) hp (base_kept, hr)

  whole_without : without_marks (full unicode16 whole) ≡ left
  whole_without =
      ap without_marks whole_full
      ∙ without_append p (x.ascii ∷ l.0 ∷ r)
      ∙ ap₂ (λ (a b : List ℕ). a ++ b) (kept_without p hp)
      (without_other x.ascii (l.0 ∷ r) (kept_no_mark x.ascii base_kept) ∙ ap (λ (b : List ℕ). x.ascii ∷ b) (without_mark l.0 r l.3 ∙ kept_without r hr))

  whole_dropped : dropped_marks (full unicode16 whole) ≡ l.0 ∷ []
  whole_dropped =
      ap dropped_marks whole_full
      ∙ dropped_append p (x.ascii ∷ l.0 ∷ r)
      ∙ ap₂ (λ (a b : List ℕ). a ++ b) (kept_dropped p hp)
      (dropped_other x.ascii (l.0 ∷ r) (kept_no_mark x.ascii base_kept) ∙ dropped_mark l.0 r l.3 ∙ ap (λ (b : List ℕ). l.0 ∷ b) (kept_dropped r hr))

  whole_members : members unicode16 whole ≡ true
  whole_members = members_append unicode16 p (c ∷ r) (kept_members p hp) ∙ members_append unicode16 (c ∷ []) r (members_one unicode16 c l.5) ∙ kept_members r hr

  -- the mark gives the tone, whatever the ending
  mark_gives : (other : Tone) → tone_or (mark_tone l.0) other ≡ mark_tone l.0
  mark_gives other = ap (λ (b : Bool). pick_tone b (mark_tone l.0) other) (sym (mark_is l.0) ∙ l.3)

  whole_strip : (text rest buffer : List ℕ) → text ≡ encode whole → rest ≡ encode left → length text ≤ 256
      → placed (tone_number x.tone) rest buffer ≡ strip_call unicode16 text buffer
  whole_strip text rest buffer is left_bytes short =
      ap (λ (o : Tone). placed (tone_number o) rest buffer) (sym l.4 ∙ sym (mark_gives (unmarked_tone rest)))
      ∙ strip_told unicode16 text buffer whole (bytes_good text whole whole_members is) short (mark_tone l.0) rest
      (sym (ap (last_tone None) (nfd_dropped whole ∙ whole_dropped) ∙ last_more None l.0 [] ∙ last_none (mark_tone l.0)))
      (left_bytes ∙ ap encode (sym (left_kept whole left left_is_kept whole_without)))

-- the same of its bytes
module _ (text : List ℕ) (at : ℕ) (x : MarkedLetter) (inside : at ≤ length text) (front : KeptTo text 0 at) (m : MarkedAt text at x) (back : KeptTo text (at + 2) (length text)) where
  abbrev letter : ℕ
  letter = m.1

  text_is : text ≡ encode (front.0 ++ (letter ∷ back.0))
  text_is =
      front.2
      ∙ ap (λ (l : List ℕ). encode front.0 ++ l) (m.2 ∙ ap (λ (l : List ℕ). bytes_of letter ++ l) (kept_end text (at + 2) back) ∙ sym (encode_cons letter back.0))
      ∙ sym (encode_append front.0 (letter ∷ back.0))

  front_length : length (encode front.0) ≡ at
  front_length = omega (arith, inside, ap length front.2, length-append (encode front.0) (drop at text), length-drop at text)

  front_is : take at text ≡ encode front.0
  front_is = ap (take at) front.2 ∙ take_at (encode front.0) (drop at text) at front_length

  rest_is : take at text ++ (x.ascii ∷ drop (at + 2) text) ≡ encode (front.0 ++ (x.ascii ∷ back.0))
  rest_is =
      ap₂ (λ (a b : List ℕ). a ++ (x.ascii ∷ b)) front_is (kept_end text (at + 2) back)
      ∙ ap (λ (b : List ℕ). encode front.0 ++ b) (sym (encode_cons x.ascii back.0 ∙ ap (λ (a : List ℕ). a ++ encode back.0) (bytes_one x.ascii (omega (arith, m.3.2)))))
      ∙ sym (encode_append front.0 (x.ascii ∷ back.0))

  -- what the call replies to it
  pub marked_strip : (buffer : List ℕ) → length text ≤ 256
      → placed (tone_number x.tone) (take at text ++ (x.ascii ∷ drop (at + 2) text)) buffer ≡ strip_call unicode16 text buffer
  marked_strip buffer short = whole_strip front.0 back.0 letter x front.1 back.1 m.3 text _ buffer text_is rest_is short

-- ── the bytes at a place
one_at : (s : List ℕ) (i : ℕ) → i < length s → drop i s ≡ get_or s i 0 ∷ drop (i + 1) s
one_at s i h = drop-cons s i 0 h ∙ ap (λ (k : ℕ). get_or s i 0 ∷ drop k s) (sym (add-one i))

two_at : (s : List ℕ) (i : ℕ) → i + 1 < length s → drop i s ≡ get_or s i 0 ∷ get_or s (i + 1) 0 ∷ drop (i + 2) s
two_at s i h =
    let next : i + 1 + 1 ≡ i + 2 = omega arith in
    one_at s i (omega arith) ∙ ap (λ (l : List ℕ). get_or s i 0 ∷ l) (one_at s (i + 1) h ∙ ap (λ (k : ℕ). get_or s (i + 1) 0 ∷ drop k s) next)

three_at : (s : List ℕ) (i : ℕ) → i + 2 < length s → drop i s ≡ get_or s i 0 ∷ get_or s (i + 1) 0 ∷ get_or s (i + 2) 0 ∷ drop (i + 3) s
three_at s i h =
    let next : i + 2 + 1 ≡ i + 3 = omega arith in
    two_at s i (omega arith) ∙ ap (λ (l : List ℕ). get_or s i 0 ∷ get_or s (i + 1) 0 ∷ l) (one_at s (i + 2) h ∙ ap (λ (k : ℕ). get_or s (i + 2) 0 ∷ drop k s) next)

-- an ASCII character, 0358 and 207F
pub ascii_at : (s : List ℕ) (i : ℕ) → i < length s → get_or s i 0 < 0x80 → drop i s ≡ bytes_of (get_or s i 0) ++ drop (i + 1) s
ascii_at s i h low = one_at s i h ∙ ap (λ (l : List ℕ). l ++ drop (i + 1) s) (sym (bytes_one (get_or s i 0) (omega arith)))

pub byte_in : (s : List ℕ) (i k : ℕ) → get_or (part s i) k 0 ≡ get_or s (i + k) 0
byte_in s i k = ap (λ (l : List ℕ). get_or l k 0) (part_is s i) ∙ (let e : get_or (drop i s) k 0 ≡ get_or s (i + k) 0 = rw get_or-drop in e)

pub inside : (s : List ℕ) (i n : ℕ) → 0 < n → n ≤ length (part s i) → i + n ≤ length s
inside s i n some h = omega (arith, ap length (part_is s i), length-drop i s)

first_byte : (s : List ℕ) (i b : ℕ) → get_or (part s i) 0 0 ≡ b → get_or s i 0 ≡ b
first_byte s i b e = let z : i + 0 ≡ i = omega arith in ap (λ (k : ℕ). get_or s k 0) (sym z) ∙ sym (byte_in s i 0) ∙ e

pub dot_at : (s : List ℕ) (i : ℕ) → 2 ≤ length (part s i) → get_or (part s i) 0 0 ≡ 0xCD → get_or (part s i) 1 0 ≡ 0x98 → drop i s ≡ bytes_of 0x0358 ++ drop (i + 2) s
unfolding bytes_of
dot_at s i h a b = two_at s i (omega (arith, inside s i 2 (omega arith) h)) ∙ ap₂ (λ (x y : ℕ). x ∷ y ∷ drop (i + 2) s) (first_byte s i 0xCD a) (sym (byte_in s i 1) ∙ b)

pub nasal_at : (s : List ℕ) (i : ℕ) → 3 ≤ length (part s i) → get_or (part s i) 0 0 ≡ 0xE2 → get_or (part s i) 1 0 ≡ 0x81 → get_or (part s i) 2 0 ≡ 0xBF
    → drop i s ≡ bytes_of 0x207F ++ drop (i + 3) s
unfolding bytes_of
nasal_at s i h a b c =
    three_at s i (omega (arith, inside s i 3 (omega arith) h))
    ∙ ap₂ (λ (x y : ℕ). x ∷ y ∷ get_or s (i + 2) 0 ∷ drop (i + 3) s) (first_byte s i 0xE2 a) (sym (byte_in s i 1) ∙ b)
    ∙ ap (λ (z : ℕ). 0xE2 ∷ 0x81 ∷ z ∷ drop (i + 3) s) (sym (byte_in s i 2) ∙ c)

-- nothing yet, and one code point more
pub kept_start : (s : List ℕ) (from : ℕ) → KeptTo s from from
kept_start s from = ([], tt, ap (λ (l : List ℕ). l ++ drop from s) (sym encode_nil))

pub kept_more : (s : List ℕ) (from i to x : ℕ) → KeptTo s from i → Kept x → drop i s ≡ bytes_of x ++ drop to s → KeptTo s from to
kept_more s from i to x k h here = (
  k.0 ++ (x ∷ []),
  all_append Kept k.0 (x ∷ []) k.1 (h, tt),
  k.2 ∙ ap (λ (l : List ℕ). encode k.0 ++ l) here ∙ sym (append_assoc (encode k.0) (bytes_of x) (drop to s)) ∙ ap (λ (l : List ℕ). l ++ drop to s) (sym (encode_more k.0 x)),
)

-- one part behind another
pub kept_on : (s : List ℕ) (from i to : ℕ) → KeptTo s from i → KeptTo s i to → KeptTo s from to
kept_on s from i to k l = (
  k.0 ++ l.0,
  all_append Kept k.0 l.0 k.1 l.1,
  k.2 ∙ ap (λ (t : List ℕ). encode k.0 ++ t) l.2 ∙ sym (append_assoc (encode k.0) (encode l.0) (drop to s)) ∙ ap (λ (t : List ℕ). t ++ drop to s) (sym (encode_append k.0 l.0)),
)

-- a letter with a mark, read from its two bytes: what decomposes is not ASCII
not_ascii : (c a b : ℕ) → decomposition unicode16 c ≡ a ∷ b ∷ [] → 0x7F < c
not_ascii c a b e = by_size (dec_le c 0x7F)
  where
    by_size : Dec (c ≤ 0x7F) → 0x7F < c
    by_size (yes h) = absurd (let z : 1 ≡ 2 = ap length (sym (low_atom c (omega arith)) ∙ e) in omega arith)
    by_size (no h) = omega arith

pub letter_marked : (s : List ℕ) (at c : ℕ) (x : MarkedLetter) → 2 ≤ length (part s at) → get_or (part s at) 0 0 / 32 ≡ 6 → get_or (part s at) 1 0 / 64 ≡ 2
    → c ≡ get_or (part s at) 0 0 % 32 * 64 + get_or (part s at) 1 0 % 64 → IsLetter c x → MarkedAt s at x
letter_marked s at c x h a b is l =
    let room : at + 2 ≤ length s = inside s at 2 (omega arith) h in
    let first : get_or s at 0 ≡ 0xC0 + c / 64 = first_byte s at _ (let e : get_or (part s at) 0 0 ≡ 0xC0 + c / 64 = omega arith in e) in
    let second : get_or s (at + 1) 0 ≡ 0x80 + c % 64 = omega (arith, byte_in s at 1) in (
      room,
      c,
      two_at s at (omega arith)
          ∙ ap₂ (λ (y z : ℕ). y ∷ z ∷ drop (at + 2) s) first second
          ∙ ap (λ (u : List ℕ). u ++ drop (at + 2) s) (sym (bytes_two c (not_ascii c x.ascii l.0 l.1) (omega arith))),
      l,
    )

-- ASCII from `from` on is kept
pub ascii_kept : (s : List ℕ) (from k : ℕ) → from + k ≤ length s → ((j : ℕ) → j < k → get_or (drop from s) j 0 < 0x80) → KeptTo s from (from + k)
ascii_kept s from zero h low = subst (KeptTo s from) (let e : from ≡ from + 0 = omega arith in e) (kept_start s from)
ascii_kept s from (suc k) h low =
    let here : get_or s (from + k) 0 < 0x80 = subst (λ (x : ℕ). x < 0x80) (get_or-drop from s k 0) (low k (omega arith)) in
    let e : from + k + 1 ≡ from + suc k = omega arith in
    subst (KeptTo s from) e
    (kept_more s from (from + k) (from + k + 1) _ (ascii_kept s from k (omega arith) (λ j m. low j (omega arith))) (inl (omega (arith, here))) (ascii_at s (from + k) (omega arith) here))

-- the first byte that is not ASCII, as `position` gives it
module _ (s : List ℕ) (from : ℕ) (inside : from ≤ length s) where
  abbrev other : ℕ → Bool
  other b = not (is_ascii b)

  abbrev first : ℕ
  first = position_or_len other (drop from s)

  low_before : (j : ℕ) → j < first → get_or (drop from s) j 0 < 0x80
  low_before j h = let e : not (is_ascii (get_or (drop from s) j 0)) ≡ false = fails_before_first other (drop from s) j 0 h in search (rules, tests)

  some_first : (b : Bool) (i : ℕ) → Some i ≡ cond b (Some first) None' → (i ≡ first) × (b ≡ true)
  some_first true i e = (cc, refl)
  some_first false i e = cc

  none_first : (b : Bool) → None' ≡ cond b (Some first) None' → b ≡ false
  none_first true e = cc
  none_first false e = refl

  pub ascii_to_some : (i : ℕ) → Some i ≡ cond (ltb first (length (drop from s))) (Some first) None' → (from + i ≤ length s) × KeptTo s from (from + i)
  ascii_to_some i e =
      let p = some_first _ i e in
      let room : from + i ≤ length s = omega (arith, p.0, ltb-true _ _ p.1, length-drop from s) in
      (room, ascii_kept s from i room (λ j h. low_before j (omega (arith, p.0, h))))

  pub ascii_to_none : None' ≡ cond (ltb first (length (drop from s))) (Some first) None' → KeptTo s from (length s)
  ascii_to_none e =
      let n : length (drop from s) ≤ first = ltb-false _ _ (none_first _ e) in
      let k : from + (length s - from) ≡ length s = omega arith in
      subst (KeptTo s from) k (ascii_kept s from (length s - from) (omega arith) (λ j h. low_before j (omega (arith, n, h, length-drop from s))))
