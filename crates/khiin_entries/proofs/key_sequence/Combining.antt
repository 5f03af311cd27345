-- The list of a kind as combinations: an entry of one part has the same form as one of several, and its keyings in bytes are combinations of
-- choices in bytes.
use mathlib.Core.Path.{◌≡◌, refl, sym, ap, ap₂, ◌∙◌}
use mathlib.Core.Bool.{Bool, true, false}
use mathlib.Core.List.{List, [], ◌∷◌, ◌++◌, map, append-nil}
use Prim.Native.Nat.{ℕ, ◌*◌, ◌/◌, ◌%◌, ◌<◌}
use native.Mathlib.Omega.{arith}
use borrow.Author.Tests.{ne_eqb}
use lib.Dec.{eqb}
use lib.ListN.{length, get_or, length-map}
use Rattle.ji.specs.Unicode.{Table, unicode16, same}
use Rattle.ji.specs.Utf8.{encode}
use Rattle.ji.specs.Lomaji.Keys.{keys}
use Rattle.ji.specs.declared.lomaji.keys.Form.TheVariants.{Plain, Oo}
use Rattle.ji.specs.declared.lomaji.keys.Kind.{Kind}
use Rattle.ji.specs.declared.lomaji.keys.Kind.TheVariants.{Detoned, Numeric, Telex}
use Rattle.ji.proofs.unicode.Bytes.{encode_nil, encode_append}
use Rattle.ji.proofs.unicode.Checked.{Passed}
use Rattle.khiin_entries.specs.KeySequence.{split, pick_texts, holds_dot, each, product, alone, forms, choices, list_of, keyings}
use Rattle.khiin_entries.specs.Choices.{chosen, choices_of, choices_in, Radix}
use Rattle.khiin_entries.proofs.key_sequence.Product.{size, place, Filled, length_product, product_at}
use Rattle.khiin_entries.proofs.key_sequence.Splitting.{some_part, Each, Inside, map_at, points_back, split_members, parts_are}

-- a part has one, two or four choices
pub radix_one : Radix 1
radix_one = (omega arith, omega arith, λ e. omega arith)

pub radix_two : Radix 2
radix_two = (omega arith, omega arith, λ e. omega arith)

pub radix_four : Radix 4
radix_four = (omega arith, omega arith, λ e. omega arith)

module _ (t : Table) where
  few_alone : (kind : Kind) (w : List ℕ) → Radix (length (alone t kind w))
  unfolding alone
  few_alone kind w = go (same (keys t Plain Detoned w) (keys t Oo Detoned w))
    where
      go : (b : Bool) → Radix (length (pick_texts b (keys t Plain kind w ∷ []) (keys t Plain kind w ∷ keys t Oo kind w ∷ [])))
      go true = radix_one
      go false = radix_two

  few_forms : (kind : Kind) (w : List ℕ) → Radix (length (forms t kind w))
  unfolding forms
  few_forms kind w = go (holds_dot w)
    where
      go : (b : Bool) → Radix (length (pick_texts b (keys t Plain kind w ∷ keys t Oo kind w ∷ []) (keys t Plain kind w ∷ [])))
      go true = radix_two
      go false = radix_one

  few_both : (kind other : Kind) (w : List ℕ) → Radix (length (forms t kind w ++ forms t other w))
  unfolding forms
  few_both kind other w = go (holds_dot w)
    where
      go : (b : Bool)
          → Radix (length (pick_texts b (keys t Plain kind w ∷ keys t Oo kind w ∷ []) (keys t Plain kind w ∷ []) ++ pick_texts b (keys t Plain other w ∷ keys t Oo other w ∷ []) (keys t Plain other w ∷ [])))
      go true = radix_four
      go false = radix_two

  few_choices : (kind : Kind) (w : List ℕ) → Radix (length (choices t kind w))
  few_choices Detoned w = few_forms Detoned w
  few_choices Numeric w = few_both Numeric Detoned w
  few_choices Telex w = few_both Telex Detoned w

  pub few_chosen : (single : Bool) (kind : Kind) (w : List ℕ) → Radix (length (chosen t single kind w))
  few_chosen true kind w = few_alone kind w
  few_chosen false kind w = few_choices kind w

  -- no part is without a choice
  filled : (single : Bool) (kind : Kind) (ws : List (List ℕ)) → Filled (map (chosen t single kind) ws)
  filled single kind [] = tt
  filled single kind (w ∷ ws) = ((few_chosen single kind w).0, filled single kind ws)

  -- one part has the same form as several
  each_end : (xs : List (List ℕ)) → each xs ([] ∷ []) ≡ xs
  each_end [] = refl
  each_end (x ∷ xs) = rw (append-nil x, each_end xs)

  list_product : (kind : Kind) (w : List ℕ) (ws : List (List ℕ)) → list_of t kind (w ∷ ws) ≡ product (map (chosen t (eqb (length (w ∷ ws)) 1) kind) (w ∷ ws))
  list_product kind w [] = sym (each_end (alone t kind w))
  list_product kind w (v ∷ ws) =
      ap (λ (b : Bool). product (map (chosen t b kind) (w ∷ (v ∷ ws)))) (sym (ne_eqb (length (w ∷ (v ∷ ws))) 1 (λ e. omega arith)))

  abbrev sets : Kind → List (List ℕ) → List (List (List ℕ))
  sets kind ws = map (chosen t (eqb (length ws) 1) kind) ws

  keyings_product : (kind : Kind) (s : List ℕ) → keyings t kind s ≡ product (sets kind (split s))
  unfolding keyings
  keyings_product kind s = let p = some_part s in rw p.2 (list_product kind p.0 p.1)

-- ── in bytes
bytes_of_all : List (List (List ℕ)) → List (List (List ℕ))
bytes_of_all xss = map (map encode) xss

size_bytes : (xss : List (List (List ℕ))) → size (bytes_of_all xss) ≡ size xss
unfolding bytes_of_all
size_bytes [] = refl
size_bytes (xs ∷ xss) = ap₂ ◌*◌ (length-map xs encode) (size_bytes xss)

place_bytes : (xss : List (List (List ℕ))) (position : ℕ) → place (bytes_of_all xss) position ≡ encode (place xss position)
unfolding bytes_of_all
place_bytes [] position = sym encode_nil
place_bytes (xs ∷ xss) position =
    ap₂ ◌++◌
    (ap₂ (λ (n m : ℕ). get_or (map encode xs) (position / n % m) []) (size_bytes xss) (length-map xs encode) ∙ map_at xs (position / size xss % length xs))
    (place_bytes xss position)
    ∙ sym (encode_append (get_or xs (position / size xss % length xs) []) (place xss position))

chosen_bytes : (single : Bool) (kind : Kind) (ws : List (List ℕ)) → Each (Inside unicode16) ws → map (choices_of unicode16 single kind) (map encode ws) ≡ bytes_of_all (map (chosen unicode16 single kind) ws)
unfolding bytes_of_all choices_of
chosen_bytes single kind [] h = refl
chosen_bytes single kind (w ∷ ws) h =
    ap₂ ◌∷◌ (ap (λ (u : List ℕ). map encode (chosen unicode16 single kind u)) (points_back w h.0)) (chosen_bytes single kind ws h.1)

module _ (entry s : List ℕ) (h : Passed unicode16 1024 entry s) (kind : Kind) where
  choices_are : choices_in unicode16 kind entry ≡ bytes_of_all (sets unicode16 kind (split s))
  unfolding choices_in
  choices_are =
      ap (λ (ps : List (List ℕ)). map (choices_of unicode16 (eqb (length ps) 1) kind) ps) (parts_are entry s h)
      ∙ ap (λ (n : ℕ). map (choices_of unicode16 (eqb n 1) kind) (map encode (split s))) (length-map (split s) encode)
      ∙ chosen_bytes (eqb (length (split s)) 1) kind (split s) (split_members unicode16 s h.inside)

  -- the count
  pub count_is : length (keyings unicode16 kind s) ≡ size (choices_in unicode16 kind entry)
  count_is =
      ap length (keyings_product unicode16 kind s) ∙ length_product (sets unicode16 kind (split s))
      ∙ sym (ap size choices_are ∙ size_bytes (sets unicode16 kind (split s)))

  -- the keying at a position
  pub keying_is : (position : ℕ) → position < size (choices_in unicode16 kind entry) → encode (get_or (keyings unicode16 kind s) position []) ≡ place (choices_in unicode16 kind entry) position
  keying_is position k =
      let xss = sets unicode16 kind (split s) in
      ap (λ (l : List (List ℕ)). encode (get_or l position [])) (keyings_product unicode16 kind s)
      ∙ ap encode (product_at xss (filled unicode16 (eqb (length (split s)) 1) kind (split s)) position (omega (arith, ap size choices_are, size_bytes xss)))
      ∙ sym (ap (λ (l : List (List (List ℕ))). place l position) choices_are ∙ place_bytes xss position)
