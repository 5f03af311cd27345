-- The keys of a syllable in bytes: the key of the tone is one byte behind the others, and how many they are at most.
use mathlib.Core.Path.{◌≡◌, refl, sym, ap, ap₂, ◌∙◌}
use mathlib.Core.Bool.{Bool, true, false}
use mathlib.Core.List.{List, [], ◌∷◌, ◌++◌, append-nil}
use mathlib.Core.Logic.{◌⊎◌, inl, inr}
use Prim.Native.Nat.{ℕ, zero, suc, ◌+◌, ◌*◌, ◌≤◌, ◌<◌}
use native.Mathlib.Omega.{arith}
use lib.Dec.{T, leb, leb→le}
use lib.ListN.{length, take, drop, get_or, length-append}
use Rattle.ucd.specs.Table.{Table, All, Atom, mapping_in, decomposition}
use Rattle.ucd.specs.Full.{pass, passes, full}
use Rattle.ucd.specs.Unicode16.{unicode16, mappings16}
use Rattle.ucd.proofs.Tests.{each, each_all}
use Rattle.ucd.proofs.Lists.{each_mapping, mapping_passes}
use Rattle.ucd.proofs.Facts.{atom_full}
use Rattle.ji.specs.Text.{replace_all}
use Rattle.ji.specs.Utf8.{bytes_of, encode}
use Rattle.ji.specs.Nfd.{insert, order, nfd, reorderable}
use Rattle.ji.specs.Tone.{tone_number}
use Rattle.ji.specs.Lomaji.Strip.{is_tone_mark, without_marks, stripped, strip}
use Rattle.ji.specs.Lomaji.Keys.{rules_of, respell, tone_keys, keyed, keys}
use Rattle.ji.specs.declared.tone.Tone.{Tone}
use Rattle.ji.specs.declared.tone.Tone.TheVariants.{None, T1, T2, T3, T4, T5, T6, T7, T8, T9}
use Rattle.ji.specs.declared.lomaji.keys.Form.{Form}
use Rattle.ji.specs.declared.lomaji.keys.Form.TheVariants.{Plain, Oo}
use Rattle.ji.specs.declared.lomaji.keys.Kind.{Kind}
use Rattle.ji.specs.declared.lomaji.keys.Kind.TheVariants.{Detoned, Numeric, Telex}
use Rattle.ji.proofs.Bools.{either, false_true, text_yes, text_no}
use Rattle.ji.proofs.Decomposition.{full_nil, full_cons}
use Rattle.ji.proofs.Order.{insert_nil, insert_past, insert_here, order_nil, order_cons}
use Rattle.ji.proofs.text.Laws.{begins_split, replace_nil, replace_hit, replace_miss, replace_induction}
use Rattle.ji.proofs.utf8.Encoding.{bytes_one, encode_nil, encode_cons, encode_append}

-- ── the key of the tone
-- the ten keys of a kind are ASCII
abbrev Ascii : List ℕ → Type 0
Ascii l = T (each (λ c. leb c 0x7F) l)

ascii_at : (l : List ℕ) → Ascii l → (n : ℕ) → get_or l n 0 ≤ 0x7F
ascii_at l h n = go l (each_all (λ c. leb c 0x7F) (λ c. c ≤ 0x7F) (λ c. leb→le c 0x7F) l h) n
  where
    go : (l : List ℕ) → All (λ c. c ≤ 0x7F) l → (n : ℕ) → get_or l n 0 ≤ 0x7F
    go [] h n = omega arith
    go (c ∷ l) h zero = h.0
    go (c ∷ l) h (suc n) = go l h.1 n

take_one : (l : List ℕ) (n : ℕ) → n < length l → take 1 (drop n l) ≡ get_or l n 0 ∷ []
take_one [] n h = absurd (omega arith)
take_one (c ∷ l) zero h = refl
take_one (c ∷ l) (suc n) h = take_one l n (omega arith)

tone_most : (o : Tone) → tone_number o < 10
tone_most None = omega arith
tone_most T1 = omega arith
tone_most T2 = omega arith
tone_most T3 = omega arith
tone_most T4 = omega arith
tone_most T5 = omega arith
tone_most T6 = omega arith
tone_most T7 = omega arith
tone_most T8 = omega arith
tone_most T9 = omega arith

-- the key that a kind adds to the keys of a text
pub added_key : Table → Kind → List ℕ → ℕ
added_key t kind s = get_or (tone_keys kind) (tone_number (strip t s).tone) 0

module _ (t : Table) (form : Form) (s : List ℕ) where
  detoned_is : keys t form Detoned s ≡ respell (rules_of form) (strip t s).rest
  unfolding keys keyed
  detoned_is = nothing (tone_number (strip t s).tone)
    where
      nothing : (n : ℕ) → respell (rules_of form) (strip t s).rest ++ take 1 (drop n []) ≡ respell (rules_of form) (strip t s).rest
      nothing zero = append-nil (respell (rules_of form) (strip t s).rest)
      nothing (suc n) = append-nil (respell (rules_of form) (strip t s).rest)

module _ (t : Table) (form : Form) (kind : Kind) (s : List ℕ) where
  module _ (ten : length (tone_keys kind) ≡ 10) (ascii : Ascii (tone_keys kind)) where
    added : keys t form kind s ≡ keys t form Detoned s ++ (added_key t kind s ∷ [])
    unfolding keys keyed added_key
    added =
        ap (λ (l : List ℕ). respell (rules_of form) (strip t s).rest ++ l) (take_one (tone_keys kind) (tone_number (strip t s).tone) (omega (arith, tone_most (strip t s).tone)))
        ∙ ap (λ (l : List ℕ). l ++ (added_key t kind s ∷ [])) (sym (detoned_is t form s))

    added_byte : encode (keys t form kind s) ≡ encode (keys t form Detoned s) ++ (added_key t kind s ∷ [])
    unfolding added_key
    added_byte =
        let k = added_key t kind s in
        ap encode added
        ∙ encode_append (keys t form Detoned s) (k ∷ [])
        ∙ ap (λ (l : List ℕ). encode (keys t form Detoned s) ++ l) (encode_cons k [] ∙ ap₂ ◌++◌ (bytes_one k (ascii_at (tone_keys kind) ascii (tone_number (strip t s).tone))) encode_nil)

-- keys of this kind end in the key of the tone
abbrev pub is_toned : Kind → Bool
is_toned Detoned = false
is_toned Numeric = true
is_toned Telex = true

-- a toned form is the detoned one and one byte
pub toned_bytes : (t : Table) (form : Form) (kind : Kind) (s : List ℕ) → is_toned kind ≡ true → encode (keys t form kind s) ≡ encode (keys t form Detoned s) ++ (added_key t kind s ∷ [])
toned_bytes t form Detoned s e = absurd (false_true e)
toned_bytes t form Numeric s e = added_byte t form Numeric s refl tt
toned_bytes t form Telex s e = added_byte t form Telex s refl tt

-- ── how many bytes there are at most
bytes : List ℕ → ℕ
bytes s = length (encode s)

bytes_cons : (c : ℕ) (s : List ℕ) → bytes (c ∷ s) ≡ length (bytes_of c) + bytes s
unfolding bytes
bytes_cons c s = ap length (encode_cons c s) ∙ length-append (bytes_of c) (encode s)

bytes_append : (s u : List ℕ) → bytes (s ++ u) ≡ bytes s + bytes u
unfolding bytes
bytes_append s u = ap length (encode_append s u) ∙ length-append (encode s) (encode u)

bytes_nil : bytes [] ≡ 0
unfolding bytes
bytes_nil = ap length encode_nil

-- canonical order keeps them
module _ (t : Table) where
  insert_bytes : (a : ℕ) (s : List ℕ) → bytes (insert t a s) ≡ length (bytes_of a) + bytes s
  insert_bytes a [] = ap bytes (insert_nil t a) ∙ bytes_cons a []
  insert_bytes a (b ∷ s) =
      either (reorderable t a b)
      (λ e. ap bytes (insert_past t a b s e) ∙ bytes_cons b (insert t a s) ∙ omega (arith, insert_bytes a s, bytes_cons b s))
      (λ e. ap bytes (insert_here t a b s e) ∙ bytes_cons a (b ∷ s))

  order_bytes : (s : List ℕ) → bytes (order t s) ≡ bytes s
  order_bytes [] = ap bytes (order_nil t)
  order_bytes (a ∷ s) = ap bytes (order_cons t a s) ∙ insert_bytes a (order t s) ∙ ap (λ (n : ℕ). length (bytes_of a) + n) (order_bytes s) ∙ sym (bytes_cons a s)

-- dropping marks takes some away
without_bytes : (s : List ℕ) → bytes (without_marks s) ≤ bytes s
unfolding without_marks
without_bytes [] = omega arith
without_bytes (c ∷ s) =
    either (is_tone_mark c)
    (λ e. rw (text_yes (is_tone_mark c) (without_marks s) (c ∷ without_marks s) e) (omega (arith, without_bytes s, bytes_cons c s)))
    (λ e. rw (text_no (is_tone_mark c) (without_marks s) (c ∷ without_marks s) e) (omega (arith, without_bytes s, bytes_cons c s, bytes_cons c (without_marks s))))

-- and so does a rule that replaces by fewer bytes
module _ (p r : List ℕ) (some : 0 < length p) (fewer : bytes r ≤ bytes p) where
  replace_bytes : (s : List ℕ) → bytes (replace_all p r s) ≤ bytes s
  replace_bytes =
      replace_induction p some (λ (s : List ℕ). bytes (replace_all p r s) ≤ bytes s) (rw (replace_nil p r) (omega arith))
      (λ x s e ih.
      omega (arith, fewer, ih, ap bytes (replace_hit p r x s some e), bytes_append r (replace_all p r (drop (length p) (x ∷ s))), ap bytes (begins_split p (x ∷ s) e), bytes_append p (drop (length p) (x ∷ s))))
      (λ x s e ih. omega (arith, ih, ap bytes (replace_miss p r x s e), bytes_cons x (replace_all p r s), bytes_cons x s))

abbrev Fewer : List (List ℕ × List ℕ) → Type 0
Fewer [] = Unit {0}
Fewer (r ∷ rs) = (0 < length r.0) × (bytes r.1 ≤ bytes r.0) × Fewer rs

respell_bytes : (rules : List (List ℕ × List ℕ)) → Fewer rules → (s : List ℕ) → bytes (respell rules s) ≤ bytes s
respell_bytes [] h s = omega arith
respell_bytes (r ∷ rs) h s =
    omega (arith, respell_bytes rs h.2 (replace_all r.0 r.1 s), replace_bytes r.0 r.1 h.0 h.1 s)

rules_fewer : (f : Form) → Fewer (rules_of f)
unfolding bytes encode bytes_of
rules_fewer Plain = (omega arith, omega arith, (omega arith, omega arith, (omega arith, omega arith, (omega arith, omega arith, (omega arith, omega arith, (omega arith, omega arith, tt))))))
rules_fewer Oo = (omega arith, omega arith, (omega arith, omega arith, (omega arith, omega arith, (omega arith, omega arith, (omega arith, omega arith, (omega arith, omega arith, tt))))))

-- a code point decomposes to at most five bytes for each two of its own
five_for_two : ℕ → List ℕ → Bool
five_for_two c text = leb (2 * bytes (full unicode16 (c ∷ []))) (5 * length (bytes_of c))

five_for_two_law : T (each_mapping five_for_two mappings16)
unfolding five_for_two bytes encode bytes_of mapping_in decomposition pass passes full unicode16 mappings16
five_for_two_law = tt

five_or_atom : (c : ℕ) → Atom unicode16 c ⊎ T (five_for_two c (decomposition unicode16 c))
unfolding decomposition unicode16
five_or_atom c = mapping_passes five_for_two mappings16 five_for_two_law c

full_bytes_one : (c : ℕ) → 2 * bytes (full unicode16 (c ∷ [])) ≤ 5 * length (bytes_of c)
unfolding five_for_two
full_bytes_one c = go (five_or_atom c)
  where
    go : Atom unicode16 c ⊎ T (five_for_two c (decomposition unicode16 c)) → 2 * bytes (full unicode16 (c ∷ [])) ≤ 5 * length (bytes_of c)
    go (inl e) = rw (atom_full unicode16 c e) (omega (arith, bytes_cons c [], bytes_nil))
    go (inr h) = leb→le (2 * bytes (full unicode16 (c ∷ []))) (5 * length (bytes_of c)) h

full_bytes : (s : List ℕ) → 2 * bytes (full unicode16 s) ≤ 5 * bytes s
full_bytes [] = rw (full_nil unicode16) (omega arith)
full_bytes (c ∷ s) =
    omega (arith, ap bytes (full_cons unicode16 c s), bytes_append (full unicode16 (c ∷ [])) (full unicode16 s), full_bytes_one c, full_bytes s, bytes_cons c s)

detoned_bytes : (form : Form) (s : List ℕ) → 2 * bytes (keys unicode16 form Detoned s) ≤ 5 * bytes s
unfolding stripped nfd
detoned_bytes form s =
    rw (detoned_is unicode16 form s)
    (omega (arith, respell_bytes (rules_of form) (rules_fewer form) (without_marks (nfd unicode16 s)), without_bytes (nfd unicode16 s), order_bytes unicode16 (full unicode16 s), full_bytes s))

-- keys have at most five bytes for each two of the syllable, and one more
pub keys_bytes : (form : Form) (kind : Kind) (s : List ℕ) → 2 * length (encode (keys unicode16 form kind s)) ≤ 5 * length (encode s) + 2
unfolding bytes
keys_bytes form Detoned s = omega (arith, detoned_bytes form s)
keys_bytes form Numeric s = omega (arith, detoned_bytes form s, ap length (toned_bytes unicode16 form Numeric s refl), length-append (encode (keys unicode16 form Detoned s)) (added_key unicode16 Numeric s ∷ []))
keys_bytes form Telex s = omega (arith, detoned_bytes form s, ap length (toned_bytes unicode16 form Telex s refl), length-append (encode (keys unicode16 form Detoned s)) (added_key unicode16 Telex s ∷ []))

-- a stripped text has at most five bytes for each two of the text
pub stripped_bytes : (s : List ℕ) → 2 * length (encode (strip unicode16 s).rest) ≤ 5 * length (encode s)
unfolding bytes stripped nfd
stripped_bytes s = omega (arith, without_bytes (nfd unicode16 s), order_bytes unicode16 (full unicode16 s), full_bytes s)
