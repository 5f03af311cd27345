-- Laws of the six rules by which a syllable is written in keys, and of the key of its tone.
use mathlib.Core.Path.{◌≡◌, refl, sym, ap, ap₂, ◌∙◌}
use mathlib.Core.Bool.{true, false}
use mathlib.Core.List.{List, [], ◌∷◌, ◌++◌}
use Prim.Native.Nat.{ℕ, ◌*◌, ◌≤◌, ◌<◌}
use native.Mathlib.Omega.{arith}
use lib.ListN.{length, take, drop}
use lib.Seq.{take_at}
use Rattle.ucd.specs.Unicode16.{unicode16}
use Rattle.ji.specs.Text.{point, points, replace_from, replace_all, begins, all_ascii}
use Rattle.ji.specs.Utf8.{encode}
use Rattle.ji.specs.Unicode.{members}
use Rattle.ji.specs.Tone.{tone_number}
use Rattle.ji.specs.Lomaji.Strip.{strip}
use Rattle.ji.specs.Lomaji.Keys.{plain_rules, rules_of, respell, tone_keys, keyed, keys, key_text}
use Rattle.ji.specs.declared.tone.Tone.{Tone}
use Rattle.ji.specs.declared.lomaji.keys.Form.{Form}
use Rattle.ji.specs.declared.lomaji.keys.Form.TheVariants.{Plain, Oo}
use Rattle.ji.specs.declared.lomaji.keys.Kind.{Kind}
use Rattle.ji.specs.declared.lomaji.keys.Kind.TheVariants.{Detoned, Numeric, Telex}
use Rattle.ji.proofs.Bools.{either, false_true}
use Rattle.ji.proofs.text.Laws.{begins_split, replace_none, replace_same_length, points_growth}
use Rattle.ji.proofs.utf8.Encoding.{encode_append}
use Rattle.ji.proofs.unicode.Ascii.{ascii_take, ascii_drop, ascii_bytes, ascii_good}
use Rattle.ji.proofs.unicode.Checked.{bytes_good, good_same}
use Rattle.std.specs.Prelude.{Some, Option, None}

-- ── the rules in three parts: o and O with U+0358, U+207F and U+1D3A, o and u with U+0324. The forms differ in the first alone
pub respell_parts : (f : Form) (s : List ℕ) → respell (rules_of f) s ≡ respell (drop 4 plain_rules) (respell (take 2 (drop 2 plain_rules)) (respell (take 2 (rules_of f)) s))
respell_parts Plain s = refl
respell_parts Oo s = refl

-- the second rule of the second part leaves what the first puts in
pub nasals_apart : replace_all (points "ᴺ") (points "NN") (points "nn") ≡ points "nn"
unfolding replace_all replace_from begins
nasals_apart = refl

pub nasals_end : respell (take 2 (drop 2 plain_rules)) [] ≡ []
unfolding replace_all replace_from
nasals_end = refl

-- ── lengths
-- rules whose replacements are as long as their patterns
abbrev Keeping : List (List ℕ × List ℕ) → Type 0
Keeping [] = Unit {0}
Keeping (r ∷ rs) = (0 < length r.0) × (length r.1 ≡ length r.0) × Keeping rs

keeping_length : (rules : List (List ℕ × List ℕ)) → Keeping rules → (s : List ℕ) → length (respell rules s) ≡ length s
keeping_length [] k s = refl
keeping_length (r ∷ rs) k s =
    keeping_length rs k.2 (replace_all r.0 r.1 s) ∙ replace_same_length r.0 r.1 k.0 k.1 s

pub first_length : (f : Form) (s : List ℕ) → length (respell (take 2 (rules_of f)) s) ≡ length s
first_length Plain s = keeping_length (take 2 (rules_of Plain)) (omega arith, refl, (omega arith, refl, tt)) s
first_length Oo s = keeping_length (take 2 (rules_of Oo)) (omega arith, refl, (omega arith, refl, tt)) s

pub last_length : (s : List ℕ) → length (respell (drop 4 plain_rules) s) ≡ length s
last_length s = keeping_length (drop 4 plain_rules) (omega arith, refl, (omega arith, refl, tt)) s

pub nasals_length : (s : List ℕ) → length (respell (take 2 (drop 2 plain_rules)) s) ≤ 2 * length s
nasals_length s =
    points_growth (point "ⁿ") (points "nn") (point "ᴺ") (points "NN") nasals_apart 2 (omega arith) (omega arith) (omega arith) s

-- a text in keys is as long as the second part makes it
pub respell_as_long : (f : Form) (s : List ℕ) → length (respell (rules_of f) s) ≡ length (respell (take 2 (drop 2 plain_rules)) (respell (take 2 (rules_of f)) s))
respell_as_long f s = ap length (respell_parts f s) ∙ last_length (respell (take 2 (drop 2 plain_rules)) (respell (take 2 (rules_of f)) s))

pub respell_length : (f : Form) (s : List ℕ) → length (respell (rules_of f) s) ≤ 2 * length s
respell_length f s = omega (arith, respell_as_long f s, nasals_length (respell (take 2 (rules_of f)) s), first_length f s)

pub key_length : (k : Option ℕ) → length (key_text k) ≤ 1
key_length None = omega arith
key_length (Some k) = omega arith

-- ── the keys of a text: the letters of the stripped text, and the key of its tone
pub keys_are : (f : Form) (k : Kind) (s : List ℕ) (tone : Tone) (key : List ℕ) → tone ≡ (strip unicode16 s).tone → key ≡ take 1 (drop (tone_number tone) (tone_keys k)) → respell (rules_of f) (strip unicode16 s).rest ++ key ≡ keys unicode16 f k s
unfolding keys keyed
keys_are f k s tone key e told =
    ap (λ (l : List ℕ). respell (rules_of f) (strip unicode16 s).rest ++ l) (told ∙ ap (λ (o : Tone). take 1 (drop (tone_number o) (tone_keys k))) e)

-- ── ASCII letters, which no rule acts on
-- a pattern with another code point begins no part of them
foreign : (p r s : List ℕ) → all_ascii p ≡ false → all_ascii s ≡ true → replace_all p r s ≡ s
foreign p r s other h = replace_none p r s (λ i _. either (begins p (drop i s)) (λ y. absurd (false_true (sym other ∙ its_own i y))) (λ n. n))
  where
    its_own : (i : ℕ) → begins p (drop i s) ≡ true → all_ascii p ≡ true
    its_own i y =
        ap all_ascii (sym (ap (take (length p)) (begins_split p (drop i s) y) ∙ take_at p (drop (length p) (drop i s)) (length p) refl))
        ∙ ascii_take (length p) (drop i s) (ascii_drop i s h)

abbrev Foreign : List (List ℕ × List ℕ) → Type 0
Foreign [] = Unit {0}
Foreign (r ∷ rs) = (all_ascii r.0 ≡ false) × Foreign rs

ascii_rules : (rs : List (List ℕ × List ℕ)) → Foreign rs → (s : List ℕ) → all_ascii s ≡ true → respell rs s ≡ s
ascii_rules [] f s h = refl
ascii_rules (r ∷ rs) f s h = ap (respell rs) (foreign r.0 r.1 s f.0 h) ∙ ascii_rules rs f.1 s h

rules_foreign : (f : Form) → Foreign (rules_of f)
unfolding all_ascii
rules_foreign Plain = (refl, (refl, (refl, (refl, (refl, (refl, tt))))))
rules_foreign Oo = (refl, (refl, (refl, (refl, (refl, (refl, tt))))))

tones_ascii : (k : Kind) → all_ascii (tone_keys k) ≡ true
unfolding all_ascii
tones_ascii Detoned = refl
tones_ascii Numeric = refl
tones_ascii Telex = refl

-- the keys of a stripped text whose bytes are ASCII: these, and the key of the tone
pub ascii_keys : (f : Form) (k : Kind) (n : ℕ) (rest bytes key : List ℕ) → members unicode16 rest ≡ true → bytes ≡ encode rest → all_ascii bytes ≡ true → key ≡ take 1 (drop n (tone_keys k)) → bytes ++ key ≡ encode (respell (rules_of f) rest ++ key)
ascii_keys f k n rest bytes key inside is h told =
    let itself : rest ≡ bytes = good_same (sym (bytes_good bytes rest inside is) ∙ ascii_good bytes h) in
    let low : all_ascii key ≡ true = ap all_ascii told ∙ ascii_take 1 (drop n (tone_keys k)) (ascii_drop n (tone_keys k) (tones_ascii k)) in
    ap₂ (λ (a b : List ℕ). a ++ b) is (sym (ascii_bytes key low))
    ∙ sym (encode_append rest key)
    ∙ ap (λ (l : List ℕ). encode (l ++ key)) (sym (ascii_rules (rules_of f) (rules_foreign f) rest (ap all_ascii itself ∙ h)))
