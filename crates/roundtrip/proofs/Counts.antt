-- How many keyings an entry of well-formed syllables has of each kind, and how many of the numeric ones are fully numbered.
use mathlib.Core.Path.{◌≡◌, refl, sym, ap, ap₂, ◌∙◌, subst}
use mathlib.Core.Bool.{Bool, true, false}
use mathlib.Core.List.{List, [], ◌∷◌, ◌++◌, map, append-nil}
use Prim.Native.Nat.{ℕ, suc, ◌+◌, ◌-◌, ◌*◌, ◌^◌, ◌≤◌}
use native.Mathlib.Nat.{mul_assoc, mul_left_comm, one-mul, pow-succ'}
use native.Mathlib.Omega.{arith}
use lib.Dec.{eqb, eqb-suc-suc, eqb-suc-zero}
use lib.ListN.{length, length-append}
use Rattle.ji.specs.Unicode.{unicode16, pick_number}
use Rattle.ji.specs.Text.{all_ascii}
use Rattle.ji.specs.Utf8.{encode}
use Rattle.ji.specs.Lomaji.Keys.{keys}
use Rattle.ji.specs.declared.lomaji.keys.Form.{Form}
use Rattle.ji.specs.declared.lomaji.keys.Form.TheVariants.{Plain, Oo}
use Rattle.ji.specs.declared.lomaji.keys.Kind.{Kind}
use Rattle.ji.specs.declared.lomaji.keys.Kind.TheVariants.{Detoned, Numeric, Telex}
use Rattle.ji.proofs.unicode.Ascii.{ascii_nil, ascii_bytes}
use Rattle.khiin_entries.specs.KeySequence.{pick_texts, each, product, forms, choices, list_of}
use Rattle.khiin_entries.proofs.key_sequence.Product.{size, length_product}
use Rattle.grammar.specs.WellFormed.{Texts, passing, WellFormed, text, Few, dotted, dots}
use Rattle.sweep.proofs.Tests.{Each}
use Rattle.roundtrip.specs.Demand3.{list, several, counted, digits, is_numbered}
use Rattle.roundtrip.proofs.Digits.{passing_all, holds_append, holds_each, numbered_product}
use Rattle.roundtrip.proofs.Keys.{ascii_append, bare, numbered, bare_ascii, numbered_ascii, forms_of, forms_are, forms_numeric, forms_detoned, alone_forms, holds_forms, digits_apart}
use Rattle.roundtrip.proofs.Entries.{keyings_entry}

-- ── all keyings
count_forms : (s : WellFormed) (f : Form → List ℕ) → length (forms_of s f) ≡ pick_number (dotted s) 2 1
count_forms s f = by (dotted s)
  where
    by : (b : Bool) → length (pick_texts b (f Plain ∷ f Oo ∷ []) (f Plain ∷ [])) ≡ pick_number b 2 1
    by true = refl
    by false = refl

length_forms : (kind : Kind) (s : WellFormed) → length (forms unicode16 kind (text s)) ≡ pick_number (dotted s) 2 1
length_forms kind s = ap length (forms_are s kind) ∙ count_forms s (λ form. keys unicode16 form kind (text s))

length_both : (kind : Kind) (s : WellFormed) → length (forms unicode16 kind (text s) ++ forms unicode16 Detoned (text s)) ≡ pick_number (dotted s) 4 2
length_both kind s =
    length-append (forms unicode16 kind (text s)) (forms unicode16 Detoned (text s))
    ∙ ap₂ ◌+◌ (length_forms kind s) (length_forms Detoned s)
    ∙ by (dotted s)
  where
    by : (b : Bool) → pick_number b 2 1 + pick_number b 2 1 ≡ pick_number b 4 2
    by true = refl
    by false = refl

dots_most : (ss : List WellFormed) → dots ss ≤ length ss
dots_most [] = omega arith
dots_most (s ∷ ss) = by (dotted s) (dots_most ss)
  where
    by : (b : Bool) → dots ss ≤ length ss → pick_number b (suc (dots ss)) (dots ss) ≤ suc (length ss)
    by true h = omega arith
    by false h = omega arith

four_or_two : (b : Bool) (n d : ℕ) → d ≤ n → pick_number b 4 2 * (4 ^ d * 2 ^ (n - d)) ≡ 4 ^ pick_number b (suc d) d * 2 ^ (suc n - pick_number b (suc d) d)
four_or_two true n d h = let e : suc n - suc d ≡ n - d = omega arith in rw (e, pow-succ' 4 d) (sym (mul_assoc 4 (4 ^ d) (2 ^ (n - d))))
four_or_two false n d h = let e : suc n - d ≡ suc (n - d) = omega arith in rw (e, pow-succ' 2 (n - d)) (mul_left_comm 2 (4 ^ d) (2 ^ (n - d)))

two_or_one : (b : Bool) (d : ℕ) → pick_number b 2 1 * 2 ^ d ≡ 2 ^ pick_number b (suc d) d
two_or_one true d = sym (pow-succ' 2 d)
two_or_one false d = one-mul (2 ^ d)

abbrev choices_of : Kind → List WellFormed → List Texts
choices_of kind ss = map (choices unicode16 kind) (map text ss)

size_choices : (kind : Kind) (ss : List WellFormed) → size (choices_of kind ss) ≡ several kind (length ss) (dots ss)
size_choices Detoned [] = refl
size_choices Numeric [] = refl
size_choices Telex [] = refl
size_choices Detoned (s ∷ ss) = ap₂ ◌*◌ (length_forms Detoned s) (size_choices Detoned ss) ∙ two_or_one (dotted s) (dots ss)
size_choices Numeric (s ∷ ss) = ap₂ ◌*◌ (length_both Numeric s) (size_choices Numeric ss) ∙ four_or_two (dotted s) (length ss) (dots ss) (dots_most ss)
size_choices Telex (s ∷ ss) = ap₂ ◌*◌ (length_both Telex s) (size_choices Telex ss) ∙ four_or_two (dotted s) (length ss) (dots ss) (dots_most ss)

pub count_list : (kind : Kind) (ss : List WellFormed) → Few ss → length (list_of unicode16 kind (map text ss)) ≡ counted kind (length ss) (dots ss)
count_list kind [] f = absurd (let n = f.some in let q : ⊥ = omega arith in q)
count_list kind (s ∷ []) f = ap length (alone_forms s kind) ∙ length_forms kind s ∙ by (dotted s)
  where
    by : (b : Bool) → pick_number b 2 1 ≡ 1 + pick_number b 1 0
    by true = refl
    by false = refl
count_list kind (s ∷ (r ∷ ss)) f =
    let rs = s ∷ (r ∷ ss) in
    let two : eqb (length rs) 1 ≡ false = eqb-suc-suc (suc (length ss)) 0 ∙ eqb-suc-zero (length ss) in
    length_product (choices_of kind rs) ∙ size_choices kind rs ∙ sym (ap (λ (b : Bool). pick_number b (1 + dots rs) (several kind (length rs) (dots rs))) two)

-- ── the numeric ones
-- the forms of a syllable with its digit, and all its numeric choices
abbrev pub toned : WellFormed → Texts
toned s = forms_of s (numbered s)

abbrev pub all_numeric : WellFormed → Texts
all_numeric s = toned s ++ forms_of s (bare s)

numeric_choices : (ss : List WellFormed) → choices_of Numeric ss ≡ map all_numeric ss
numeric_choices [] = refl
numeric_choices (s ∷ ss) = ap₂ ◌∷◌ (ap₂ ◌++◌ (forms_numeric s) (forms_detoned s)) (numeric_choices ss)

numeric_alone : (s : WellFormed) → list_of unicode16 Numeric (map text (s ∷ [])) ≡ toned s
numeric_alone s = alone_forms s Numeric ∙ forms_numeric s

-- they are ASCII, so that their bytes are their keys
abbrev Ascii : List ℕ → Type 0
Ascii t = all_ascii t ≡ true

ascii_product : (ss : List WellFormed) → Each Ascii (product (map all_numeric ss))
ascii_product [] = (ascii_nil, tt)
ascii_product (s ∷ ss) =
    holds_each Ascii Ascii Ascii ascii_append (all_numeric s) (product (map all_numeric ss))
    (holds_append Ascii (toned s) (forms_of s (bare s)) (holds_forms s Ascii (numbered s) (numbered_ascii s)) (holds_forms s Ascii (bare s) (bare_ascii s)))
    (ascii_product ss)

ascii_list : (ss : List WellFormed) → Each Ascii (list_of unicode16 Numeric (map text ss))
ascii_list [] = tt
ascii_list (s ∷ []) = rw (numeric_alone s) (holds_forms s Ascii (numbered s) (numbered_ascii s))
ascii_list (s ∷ (r ∷ ss)) = subst (λ (cs : List Texts). Each Ascii (product cs)) (sym (numeric_choices (s ∷ (r ∷ ss)))) (ascii_product (s ∷ (r ∷ ss)))

own_bytes : (ts : Texts) → Each Ascii ts → map encode ts ≡ ts
own_bytes [] h = refl
own_bytes (t ∷ ts) h = ap₂ ◌∷◌ (ascii_bytes t h.0) (own_bytes ts h.1)

pub list_numeric : (ss : List WellFormed) → Few ss → list 1 ss ≡ list_of unicode16 Numeric (map text ss)
unfolding list
list_numeric ss f = ap (map encode) (keyings_entry ss f Numeric) ∙ own_bytes (list_of unicode16 Numeric (map text ss)) (ascii_list ss)

-- ── the fully numbered ones are the combinations of the forms with their digits
each_end : (xs : Texts) → each xs ([] ∷ []) ≡ xs
each_end [] = refl
each_end (x ∷ xs) = ap₂ ◌∷◌ (append-nil x) (each_end xs)

one_numbered : (xs : Texts) → Each (λ x. digits x ≡ 1) xs → Each (λ x. is_numbered 1 x ≡ true) xs
one_numbered [] h = tt
one_numbered (x ∷ xs) h = (ap (λ (n : ℕ). eqb n 1) h.0, one_numbered xs h.1)

passing_list : (ss : List WellFormed) → Few ss → passing (is_numbered (length ss)) (list_of unicode16 Numeric (map text ss)) ≡ product (map toned ss)
passing_list [] f = absurd (let n = f.some in let q : ⊥ = omega arith in q)
passing_list (s ∷ []) f =
    ap (passing (is_numbered 1)) (numeric_alone s)
    ∙ passing_all (is_numbered 1) (toned s) (one_numbered (toned s) (digits_apart s).one)
    ∙ sym (each_end (toned s))
passing_list (s ∷ (r ∷ ss)) f =
    let rs = s ∷ (r ∷ ss) in
    ap (λ (cs : List Texts). passing (is_numbered (length rs)) (product cs)) (numeric_choices rs)
    ∙ numbered_product toned (λ (a : WellFormed). forms_of a (bare a)) digits_apart rs

pub numbered_list : (ss : List WellFormed) → Few ss → passing (is_numbered (length ss)) (list 1 ss) ≡ product (map toned ss)
numbered_list ss f = ap (passing (is_numbered (length ss))) (list_numeric ss f) ∙ passing_list ss f

size_toned : (ss : List WellFormed) → size (map toned ss) ≡ 2 ^ dots ss
size_toned [] = refl
size_toned (s ∷ ss) = ap₂ ◌*◌ (count_forms s (numbered s)) (size_toned ss) ∙ two_or_one (dotted s) (dots ss)

pub count_numbered : (ss : List WellFormed) → Few ss → length (passing (is_numbered (length ss)) (list 1 ss)) ≡ 2 ^ dots ss
count_numbered ss f = ap length (numbered_list ss f) ∙ length_product (map toned ss) ∙ size_toned ss
