-- Stripping, one code point at a time; the endings of a text; the tone without a mark.
use mathlib.Core.Path.{◌≡◌, refl, sym, ap, ap₂, ◌∙◌}
use mathlib.Core.Bool.{Bool, true, false, ◌||◌}
use mathlib.Core.List.{List, [], ◌∷◌, map}
use Prim.Native.Nat.{ℕ, ◌+◌, ◌-◌, ◌≤◌, ◌<◌}
use native.Mathlib.Omega.{arith}
use native.Mathlib.Numerals.{add-one}
use lib.Dec.{eqb}
use native.Mathlib.Decide.{dec_lt}
use borrow.Author.Tests.{ne_eqb, eqb-false, lt-ltb, le-ltb}
use lib.ListN.{length, take, drop, get_or, length-drop, drop_of_length-le}
use lib.Seq.{drop-cons}
use Rattle.std.proofs.lemmas.List.{length-map, get_or-map, get_or-drop}
use Rattle.std.specs.Char.{to_ascii_lowercase}
use Rattle.std.specs.Prelude.{IsTrue, ◌↔◌}
use Rattle.ucd.proofs.Tests.{same_equal, same_itself, true_passes}
use Rattle.ji.proofs.Parts.{part_is}
use Rattle.ucd.specs.Table.{Table, same}
use Rattle.ji.specs.Text.{lower}
use Rattle.ji.specs.Utf8.{bytes_of, decode, encode}
use Rattle.ji.specs.Tone.{pick_tone, is_tone, tone_number}
use Rattle.ji.specs.Unicode.{spread}
use Rattle.ji.specs.Nfd.{order, nfd}
use Rattle.ji.specs.Reply.{refused, placed, Checked, good, bad, check_points, check_text}
use Rattle.ji.specs.declared.reply.Refusal.{Refusal}
use Rattle.ji.specs.Lomaji.Strip.{tone_marks, tone_in, mark_in, mark_tone, is_tone_mark, without_marks, dropped_marks, last_tone, ends_in, ends_in_any, stop_endings, unmarked_tone, tone_or, stripped, stripped_reply, strip_of, strip_call}
use Rattle.ji.specs.declared.tone.Tone.{Tone}
use Rattle.ji.specs.declared.tone.Tone.TheVariants.{None}
use Rattle.std.specs.Prelude.{Some, None as None'}
use Rattle.std.specs.List.{slice_get}
use Rattle.std.proofs.lemmas.Option.{slice_get-get_or, get_or_from_slice_get}
use Rattle.ji.proofs.Bools.{either, false_true, or_yes, or_no, or_false, text_yes, text_no, number_yes, number_no, within_yes, within_below, within_above}
use Rattle.ji.proofs.Replies.{check_within_law}

-- ── marks
abbrev Toned : List (ℕ × Tone) → Type 0
Toned [] = Unit {0}
Toned (m ∷ ms) = (is_tone m.1 ≡ true) × Toned ms

marked : (ms : List (ℕ × Tone)) → Toned ms → (c : ℕ) → mark_in ms c ≡ is_tone (tone_in ms c)
marked [] h c = refl
marked (m ∷ ms) h c =
    either (eqb m.0 c)
    (λ e. or_yes _ _ e ∙ sym h.0 ∙ ap (λ (b : Bool). is_tone (pick_tone b m.1 (tone_in ms c))) (sym e))
    (λ e. or_no _ _ e ∙ marked ms h.1 c ∙ ap (λ (b : Bool). is_tone (pick_tone b m.1 (tone_in ms c))) (sym e))

-- a code point is a mark exactly where it has a tone
pub mark_is : (c : ℕ) → is_tone_mark c ≡ is_tone (mark_tone c)
unfolding is_tone_mark mark_tone
mark_is c = marked tone_marks (refl, (refl, (refl, (refl, (refl, (refl, (refl, tt))))))) c

abbrev Unmarked : List (ℕ × Tone) → ℕ → Type 0
Unmarked [] c = Unit {0}
Unmarked (m ∷ ms) c = (c ≡ m.0 → ⊥) × Unmarked ms c

unmarked : (ms : List (ℕ × Tone)) (c : ℕ) → Unmarked ms c → None ≡ tone_in ms c
unmarked [] c h = refl
unmarked (m ∷ ms) c h = unmarked ms c h.1 ∙ sym (ap (λ (b : Bool). pick_tone b m.1 (tone_in ms c)) (ne_eqb m.0 c (λ e. h.0 (sym e))))

pub no_mark : (c : ℕ) → Unmarked tone_marks c → None ≡ mark_tone c
unfolding mark_tone
no_mark c h = unmarked tone_marks c h

-- ── stripping at a place
module _ (s : List ℕ) (i : ℕ) (h : i < length s) where
  here : drop i s ≡ get_or s i 0 ∷ drop (i + 1) s
  here = drop-cons s i 0 h ∙ ap (λ (k : ℕ). get_or s i 0 ∷ drop k s) (sym (add-one i))

  pub without_kept : is_tone_mark (get_or s i 0) ≡ false → without_marks (drop i s) ≡ get_or s i 0 ∷ without_marks (drop (i + 1) s)
  unfolding without_marks
  without_kept e = ap without_marks here ∙ text_no _ _ _ e

  pub without_dropped : is_tone_mark (get_or s i 0) ≡ true → without_marks (drop i s) ≡ without_marks (drop (i + 1) s)
  unfolding without_marks
  without_dropped e = ap without_marks here ∙ text_yes _ _ _ e

  pub marks_kept : is_tone_mark (get_or s i 0) ≡ false → dropped_marks (drop i s) ≡ dropped_marks (drop (i + 1) s)
  unfolding dropped_marks
  marks_kept e = ap dropped_marks here ∙ text_no _ _ _ e

  pub marks_dropped : is_tone_mark (get_or s i 0) ≡ true → dropped_marks (drop i s) ≡ get_or s i 0 ∷ dropped_marks (drop (i + 1) s)
  unfolding dropped_marks
  marks_dropped e = ap dropped_marks here ∙ text_yes _ _ _ e

pub without_end : (s : List ℕ) (i : ℕ) → length s ≤ i → without_marks (drop i s) ≡ []
unfolding without_marks
without_end s i h = ap without_marks (drop_of_length-le s h)

pub marks_end : (s : List ℕ) (i : ℕ) → length s ≤ i → dropped_marks (drop i s) ≡ []
unfolding dropped_marks
marks_end s i h = ap dropped_marks (drop_of_length-le s h)

pub last_none : (o : Tone) → last_tone o [] ≡ o
unfolding last_tone
last_none o = refl

pub last_more : (o : Tone) (m : ℕ) (ms : List ℕ) → last_tone o (m ∷ ms) ≡ last_tone (mark_tone m) ms
unfolding last_tone
last_more o m ms = refl

-- ── the endings
-- the library's test of two texts with the case ignored is ours, where one of them is in lower case
lower_is : (x : ℕ) → to_ascii_lowercase x ≡ lower x
unfolding lower
lower_is x = by_place (dec_lt x 65) (dec_lt x 91)
  where
    by_place : Dec (x < 65) → Dec (x < 91) → to_ascii_lowercase x ≡ lower x
    by_place (yes a) b = rw (lt-ltb x 65 a) (sym (number_no _ _ _ (within_below 65 90 x a)))
    by_place (no a) (yes b) = rw (le-ltb x 65 (omega arith), lt-ltb x 91 b) (sym (number_yes _ _ _ (within_yes 65 90 x (omega arith) (omega arith))))
    by_place (no a) (no b) = rw (le-ltb x 65 (omega arith), le-ltb x 91 (omega arith)) (sym (number_no _ _ _ (within_above 65 90 x (omega arith))))

lowers_are : (s : List ℕ) → map to_ascii_lowercase s ≡ map lower s
lowers_are [] = refl
lowers_are (x ∷ s) = ap₂ (λ (y : ℕ) (ys : List ℕ). y ∷ ys) (lower_is x) (lowers_are s)

equal_same : (b : Bool) (s e : List ℕ) → (IsTrue b ↔ (s ≡ e)) → b ≡ same s e
equal_same true s e h = sym (ap (same s) (sym (h.0 refl)) ∙ same_itself s)
equal_same false s e h =
    either (same s e) (λ y. absurd (false_true (h.1 (same_equal s e (true_passes (same s e) y))))) (λ n. sym n)

-- the tail, as the part of the text from `at` on
module _ (e s : List ℕ) (low : map lower e ≡ e) (fits : length e ≤ length s) where
  abbrev At : ℕ
  At = length s - length e

  pub ends_ignoring : (b : Bool) → (IsTrue b ↔ (map to_ascii_lowercase (take (length s - At) (drop At s)) ≡ map to_ascii_lowercase e)) → b ≡ ends_in e s
  unfolding ends_in
  ends_ignoring b h =
      let whole = part_is s At in
      let tail = ap (map to_ascii_lowercase) whole ∙ lowers_are (drop At s) in
      equal_same b (map lower (drop At s)) e ((λ y. sym tail ∙ h.0 y ∙ lowers_are e ∙ low), (λ y. h.1 (tail ∙ y ∙ sym (lowers_are e ∙ low))))

-- the last letter of a text
abbrev pub last_letter : List ℕ → ℕ
last_letter s = get_or s (length s - 1) 0

-- a text that ends in an ending is as long, and has its last letter
module _ (e s : List ℕ) (is : map lower (drop (length s - length e) s) ≡ e) where
  abbrev From : ℕ
  From = length s - length e

  size : length s - From ≡ length e
  size = sym (length-drop From s) ∙ sym (length-map (drop From s) lower) ∙ ap length is

  same_letter : 0 < length e → lower (last_letter s) ≡ last_letter e
  same_letter some =
      let i = length e - 1 in
      let inside : i < length (drop From s) = omega (arith, size, length-drop From s) in
      let place : length s - 1 ≡ From + i = omega (arith, size) in
      ap (λ (k : ℕ). lower (get_or s k 0)) place
      ∙ ap lower (sym (get_or-drop From s i 0))
      ∙ sym (get_or-map lower (drop From s) i 0 0 inside)
      ∙ ap (λ (l : List ℕ). get_or l i 0) is

module _ (e s : List ℕ) where
  not_ending : (map lower (drop (length s - length e) s) ≡ e → ⊥) → ends_in e s ≡ false
  unfolding ends_in
  not_ending f = either (ends_in e s) (λ y. absurd (f (same_equal _ e (true_passes (ends_in e s) y)))) (λ n. n)

  pub ends_short : length s < length e → false ≡ ends_in e s
  ends_short h = sym (not_ending (λ is. omega (arith, size e s is)))

  letter_differs : 0 < length e → (lower (last_letter s) ≡ last_letter e → ⊥) → ends_in e s ≡ false
  letter_differs some f = not_ending (λ is. f (same_letter e s is some))

-- ── the tone without a mark
-- the seven endings as the code has them
abbrev pub stop_bytes : List (List ℕ)
stop_bytes =
    (0x68 ∷ []) ∷ (0x70 ∷ []) ∷ (0x74 ∷ []) ∷ (0x6B ∷ []) ∷ (0x68 ∷ 0x6E ∷ 0x6E ∷ []) ∷ (0x68 ∷ 0xE2 ∷ 0x81 ∷ 0xBF ∷ []) ∷ (0x68 ∷ 0xE1 ∷ 0xB4 ∷ 0xBA ∷ []) ∷ []

stop_bytes_law : stop_endings ≡ stop_bytes
unfolding encode bytes_of
stop_bytes_law = refl

abbrev pick_endings : Bool → List (List ℕ) → List (List ℕ) → List (List ℕ)
pick_endings true a b = a
pick_endings false a b = b

-- those of some endings that have this last letter
abbrev pub lettered : ℕ → List (List ℕ) → List (List ℕ)
lettered x [] = []
lettered x (e ∷ es) = pick_endings (eqb x (last_letter e)) (e ∷ lettered x es) (lettered x es)

abbrev Lengthy : List (List ℕ) → Type 0
Lengthy [] = Unit {0}
Lengthy (e ∷ es) = (0 < length e) × Lengthy es

-- a text has no others
by_letter : (x : ℕ) (s : List ℕ) → x ≡ lower (last_letter s) → (es : List (List ℕ)) → Lengthy es → ends_in_any es s ≡ ends_in_any (lettered x es) s
by_letter x s h [] l = refl
by_letter x s h (e ∷ es) l =
    either (eqb x (last_letter e))
    (λ y.
    ap (λ (b : Bool). ends_in e s || b) (by_letter x s h es l.1)
    ∙ sym (ap (λ (b : Bool). ends_in_any (pick_endings b (e ∷ lettered x es) (lettered x es)) s) y))
    (λ n.
    or_no _ _ (letter_differs e s l.0 (λ z. eqb-false x (last_letter e) n (h ∙ z)))
    ∙ by_letter x s h es l.1
    ∙ sym (ap (λ (b : Bool). ends_in_any (pick_endings b (e ∷ lettered x es) (lettered x es)) s) n))

stop_letter : (x : ℕ) (s : List ℕ) → x ≡ lower (last_letter s) → ends_in_any stop_endings s ≡ ends_in_any (lettered x stop_bytes) s
stop_letter x s h =
    ap (λ (es : List (List ℕ)). ends_in_any es s) stop_bytes_law
    ∙ by_letter x s h stop_bytes (omega arith, (omega arith, (omega arith, (omega arith, (omega arith, (omega arith, (omega arith, tt)))))))

-- the only ending with the last letter x
pub stop_one : (x : ℕ) (e s : List ℕ) → lettered x stop_bytes ≡ e ∷ [] → x ≡ lower (last_letter s) → ends_in e s ≡ ends_in_any stop_endings s
stop_one x e s one h = sym (stop_letter x s h ∙ ap (λ (es : List (List ℕ)). ends_in_any es s) one ∙ or_false (ends_in e s))

abbrev pub Unlettered : ℕ → List (List ℕ) → Type 0
Unlettered x [] = Unit {0}
Unlettered x (e ∷ es) = (x ≡ last_letter e → ⊥) × Unlettered x es

none_lettered : (x : ℕ) (es : List (List ℕ)) → Unlettered x es → lettered x es ≡ []
none_lettered x [] h = refl
none_lettered x (e ∷ es) h =
    ap (λ (b : Bool). pick_endings b (e ∷ lettered x es) (lettered x es)) (ne_eqb x (last_letter e) h.0) ∙ none_lettered x es h.1

-- no ending has it
pub stop_none : (x : ℕ) (s : List ℕ) → x ≡ lower (last_letter s) → Unlettered x stop_bytes → false ≡ ends_in_any stop_endings s
stop_none x s h u = sym (stop_letter x s h ∙ ap (λ (es : List (List ℕ)). ends_in_any es s) (none_lettered x stop_bytes u))

-- a text with no last letter is empty, and has none
some_at : (s : List ℕ) (i : ℕ) → i < length s → None' ≡ slice_get s i → ⊥
some_at s i h e = let z : slice_get s i ≡ Some (get_or s i 0) = slice_get-get_or s i 0 h in cc

pub stop_empty : (s : List ℕ) → None' ≡ slice_get s (length s - 1) → false ≡ ends_in_any stop_endings s
unfolding ends_in same encode bytes_of
stop_empty [] e = refl
stop_empty (x ∷ s) e = absurd (some_at (x ∷ s) (length (x ∷ s) - 1) (omega arith) e)

-- of any other the last letter is the one that can be read there
pub last_read : (s : List ℕ) (x n : ℕ) → Some x ≡ slice_get s (length s - 1) → n ≡ lower x → n ≡ lower (last_letter s)
last_read s x n e h = h ∙ ap lower (sym (get_or_from_slice_get s (length s - 1) x 0 (sym e)))

-- once there is a tone, it stays one
last_stays : (s : List ℕ) (o : Tone) → is_tone o ≡ true → is_tone (last_tone o (dropped_marks s)) ≡ true
unfolding dropped_marks last_tone
last_stays [] o h = h
last_stays (c ∷ s) o h =
    either (is_tone_mark c)
    (λ e. ap (λ (ms : List ℕ). is_tone (last_tone o ms)) (text_yes _ _ _ e) ∙ last_stays s (mark_tone c) (sym (mark_is c) ∙ e))
    (λ e. ap (λ (ms : List ℕ). is_tone (last_tone o ms)) (text_no _ _ _ e) ∙ last_stays s o h)

-- the tone of the last mark, found by itself, or else the tone without a mark
pub tone_or_law : (s : List ℕ) (o : Tone) → tone_or (last_tone None (dropped_marks s)) o ≡ last_tone o (dropped_marks s)
unfolding dropped_marks last_tone
tone_or_law [] o = refl
tone_or_law (c ∷ s) o =
    either (is_tone_mark c)
    (λ e. let stays = last_stays s (mark_tone c) (sym (mark_is c) ∙ e) in
    ap (λ (ms : List ℕ). tone_or (last_tone None ms) o) (text_yes _ _ _ e)
    ∙ ap (λ (b : Bool). pick_tone b (last_tone (mark_tone c) (dropped_marks s)) o) stays
    ∙ ap (last_tone o) (sym (text_yes _ _ _ e)))
    (λ e. ap (λ (ms : List ℕ). tone_or (last_tone None ms) o) (text_no _ _ _ e) ∙ tone_or_law s o ∙ ap (last_tone o) (sym (text_no _ _ _ e)))

-- ── the call
-- what is written of a text in NFD
pub stripped_reply_law : (s buffer : List ℕ) → placed (tone_number (tone_or (last_tone None (dropped_marks s)) (unmarked_tone (encode (without_marks s))))) (encode (without_marks s)) buffer ≡ stripped_reply s buffer
unfolding stripped
stripped_reply_law s buffer = ap (λ (o : Tone). placed (tone_number o) (encode (without_marks s)) buffer) (tone_or_law s (unmarked_tone (encode (without_marks s))))

module _ (t : Table) (text buffer : List ℕ) where
  pub strip_refused : (why : Refusal) → check_text t text ≡ bad why → refused why buffer ≡ strip_call t text buffer
  unfolding strip_call
  strip_refused why e = sym (ap (λ (k : Checked). strip_of t k buffer) e)

  -- a text that was decomposed and put in order
  pub strip_good : (s : List ℕ) → check_text t text ≡ good s → stripped_reply (order t (spread t true s)) buffer ≡ strip_call t text buffer
  unfolding strip_call spread nfd
  strip_good s e = sym (ap (λ (k : Checked). strip_of t k buffer) e)

  -- a text of which the rest is told by its bytes, and the tone of its last mark
  pub strip_told : (s : List ℕ) → check_points t (decode text) ≡ good s → length text ≤ 256 → (last : Tone) (rest : List ℕ)
      → last ≡ last_tone None (dropped_marks (nfd t s)) → rest ≡ encode (without_marks (nfd t s))
      → placed (tone_number (tone_or last (unmarked_tone rest))) rest buffer ≡ strip_call t text buffer
  unfolding nfd spread
  strip_told s is short last rest tone left =
      ap₂ (λ (o : Tone) (l : List ℕ). placed (tone_number (tone_or o (unmarked_tone l))) l buffer) tone left
      ∙ stripped_reply_law (nfd t s) buffer
      ∙ strip_good s (check_within_law t text short ∙ is)
