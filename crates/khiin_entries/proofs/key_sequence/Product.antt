-- Combinations by mixed radix: the combination at a position takes from each list the choice that a digit of the position names. The last
-- list's digit is the lowest.
use mathlib.Core.Path.{◌≡◌, refl, sym, ap, ap₂, ◌∙◌}
use mathlib.Core.List.{List, [], ◌∷◌, ◌++◌, map, append_assoc, append-nil}
use Prim.Native.Nat.{ℕ, zero, suc, ◌+◌, ◌*◌, ◌/◌, ◌%◌, ◌<◌}
use native.Mathlib.Nat.{mul_assoc, mul_comm, div-div-eq-div-mul, zero-mul, suc-mul, mod-lt, div-add-mod', div-lt_iff_lt-mul, mul-add-div_right, mul-add-mod_self_right, mod-eq_of_lt, mul-pos, div-one}
use native.Mathlib.Omega.{arith}
use lib.ListN.{length, get_or, length-append, length-map, get_or-append}
use lib.Seq.{get_or-append-add}
use Rattle.khiin_entries.specs.KeySequence.{each, product}

abbrev Texts : Type 0
Texts = List (List ℕ)

-- how many combinations there are of one choice from each list
abbrev pub size : List Texts → ℕ
size [] = 1
size (xs ∷ xss) = length xs * size xss

-- the combination at a position
abbrev pub place : List Texts → ℕ → List ℕ
place [] pos = []
place (xs ∷ xss) pos = get_or xs (pos / size xss % length xs) [] ++ place xss pos

-- no list of choices is empty
abbrev pub Filled : List Texts → Type 0
Filled [] = Unit {0}
Filled (xs ∷ xss) = (0 < length xs) × Filled xss

length_each : (xs ts : Texts) → length (each xs ts) ≡ length xs * length ts
length_each [] ts = sym (zero-mul (length ts))
length_each (x ∷ xs) ts =
    length-append (map (λ (t : List ℕ). x ++ t) ts) (each xs ts)
    ∙ (rw (length_each xs ts, length-map ts (λ (t : List ℕ). x ++ t), suc-mul) (omega arith))

pub length_product : (xss : List Texts) → length (product xss) ≡ size xss
length_product [] = refl
length_product (xs ∷ xss) = length_each xs (product xss) ∙ ap (λ (n : ℕ). length xs * n) (length_product xss)

pub size_pos : (xss : List Texts) → Filled xss → 0 < size xss
size_pos [] f = omega arith
size_pos (xs ∷ xss) f = mul-pos f.0 (size_pos xss f.1)

get_d_after : (x : List ℕ) (ts : Texts) (r : ℕ) → r < length ts → get_or (map (λ (t : List ℕ). x ++ t) ts) r [] ≡ x ++ get_or ts r []
get_d_after x [] r h = absurd (omega arith)
get_d_after x (t ∷ ts) zero h = refl
get_d_after x (t ∷ ts) (suc r) h = get_d_after x ts r (omega arith)

get_d_each : (xs ts : Texts) (q r : ℕ) → r < length ts → q < length xs → get_or (each xs ts) (q * length ts + r) [] ≡ get_or xs q [] ++ get_or ts r []
get_d_each [] ts q r h k = absurd (omega arith)
get_d_each (x ∷ xs) ts zero r h k =
    let e : 0 * length ts + r ≡ r = rw zero-mul (omega arith) in
    let l : r < length (map (λ (t : List ℕ). x ++ t) ts) = rw length-map h in
    rw e (get_or-append (map (λ (t : List ℕ). x ++ t) ts) (each xs ts) [] r l ∙ get_d_after x ts r h)
get_d_each (x ∷ xs) ts (suc q) r h k =
    let e : suc q * length ts + r ≡ length (map (λ (t : List ℕ). x ++ t) ts) + (q * length ts + r) = rw (suc-mul, length-map) (omega arith) in
    rw e (get_or-append-add (map (λ (t : List ℕ). x ++ t) ts) (each xs ts) (q * length ts + r) [] ∙ get_d_each xs ts q r h (omega arith))

place_skip : (xss : List Texts) → Filled xss → (q r : ℕ) → place xss (q * size xss + r) ≡ place xss r
place_skip [] f q r = refl
place_skip (xs ∷ xss) f q r =
    let s = size xss in
    let l = length xs in
    let e : q * (l * s) ≡ q * l * s = sym (mul_assoc q l s) in
    let d : (q * l * s + r) / s % l ≡ r / s % l = digit q l s r (size_pos xss f.1) in
    rw (e, d, place_skip xss f.1 (q * l) r)
  where
    digit : (q l s r : ℕ) → 0 < s → (q * l * s + r) / s % l ≡ r / s % l
    digit q l s r h = rw (mul-add-div_right h (q * l) r) (mul-add-mod_self_right q l (r / s))

-- the combination at a position is what the position's digits choose
pub product_at : (xss : List Texts) → Filled xss → (pos : ℕ) → pos < size xss → get_or (product xss) pos [] ≡ place xss pos
product_at [] f zero h = refl
product_at [] f (suc pos) h = refl
product_at (xs ∷ xss) f pos h =
    let s = size xss in
    let z : 0 < s = size_pos xss f.1 in
    let q = pos / s in
    let r = pos % s in
    let e : q * s + r ≡ pos = div-add-mod' pos s in
    let hq : q < length xs = (div-lt_iff_lt-mul z).1 h in
    let hr : r < s = mod-lt pos z in
    let m : q % length xs ≡ q = mod-eq_of_lt hq in
    let n : length (product xss) ≡ s = length_product xss in
    let g : get_or (each xs (product xss)) (q * length (product xss) + r) [] ≡ get_or xs q [] ++ get_or (product xss) r [] = get_d_each xs (product xss) q r (rw n hr) hq in
    let g' : get_or (each xs (product xss)) pos [] ≡ get_or xs q [] ++ get_or (product xss) r [] = ap (λ (k : ℕ). get_or (each xs (product xss)) k []) (sym (ap (λ (k : ℕ). q * k + r) n ∙ e)) ∙ g in
    let i : get_or (product xss) r [] ≡ place xss r = product_at xss f.1 r hr in
    let k : place xss r ≡ place xss pos = sym (place_skip xss f.1 q r) ∙ ap (place xss) e in
    g' ∙ (rw (i, k, m))

-- the loops go from the last list to the first: its digit is what is left of the position when its length divides it
pub size_snoc : (xss : List Texts) (xs : Texts) → size (xss ++ (xs ∷ [])) ≡ size xss * length xs
size_snoc [] xs = mul_comm (length xs) 1
size_snoc (ys ∷ xss) xs = ap (λ (n : ℕ). length ys * n) (size_snoc xss xs) ∙ sym (mul_assoc (length ys) (size xss) (length xs))

pub place_snoc : (xss : List Texts) (xs : Texts) (pos : ℕ) → place (xss ++ (xs ∷ [])) pos ≡ place xss (pos / length xs) ++ get_or xs (pos % length xs) []
place_snoc [] xs pos = ap (λ (n : ℕ). get_or xs (n % length xs) [] ++ []) (div-one pos) ∙ append-nil (get_or xs (pos % length xs) [])
place_snoc (ys ∷ xss) xs pos =
    let n : pos / size (xss ++ (xs ∷ [])) ≡ pos / length xs / size xss = ap (λ (m : ℕ). pos / m) (size_snoc xss xs ∙ mul_comm (size xss) (length xs)) ∙ sym (div-div-eq-div-mul pos (length xs) (size xss)) in
    ap₂ (λ (m : ℕ) (l : List ℕ). get_or ys (m % length ys) [] ++ l) n (place_snoc xss xs pos)
    ∙ sym (append_assoc (get_or ys (pos / length xs / size xss % length ys) []) (place xss (pos / length xs)) (get_or xs (pos % length xs) []))
