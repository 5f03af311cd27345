-- The arrays of an entry: what they give is a combination of choices, how long it is and how many there are.
use mathlib.Core.Path.{◌≡◌, refl, sym, ap, ap₂, ◌∙◌}
use mathlib.Core.List.{List, [], ◌∷◌, ◌++◌}
use mathlib.Core.Logic.{⊎_elim}
use Prim.Native.Nat.{ℕ, zero, suc, ◌+◌, ◌-◌, ◌*◌, ◌/◌, ◌%◌, ◌^◌, ◌≤◌, ◌<◌}
use native.Mathlib.Nat.{mod-lt, mul-le-mul, mul_comm, pow-succ', eq-or-lt_of_le, le_trans, pow-le-pow_right}
use native.Mathlib.Omega.{arith}
use lib.ListN.{length, drop, get_or, length-append, length-drop, get_or-append}
use lib.Seq.{length-take-le, get_or_at}
use Rattle.khiin_entries.specs.Choices.{up_to, choice_at, choices_at, laid_out, Radix, Within, Laid, count_in, length_in, keying_in}
use Rattle.khiin_entries.proofs.key_sequence.Product.{size, place, size_snoc, place_snoc}

-- ── a list by its elements
module _ {ℓ} {A : Type ℓ} where
  pub length_up_to : (f : ℕ → A) (n : ℕ) → length (up_to f n) ≡ n
  length_up_to f zero = refl
  length_up_to f (suc n) = length-append (up_to f n) (f n ∷ []) ∙ omega (arith, length_up_to f n)

  pub up_to_at : (f : ℕ → A) (n i : ℕ) (d : A) → i < n → get_or (up_to f n) i d ≡ f i
  up_to_at f zero i d h = absurd (omega arith)
  up_to_at f (suc n) i d h =
      let k : i ≤ n = omega arith in
      ⊎_elim (λ e. rw e (get_or_at (up_to f n) (f n) [] d n (length_up_to f n)))
      (λ l. get_or-append (up_to f n) (f n ∷ []) d i (omega (arith, length_up_to f n)) ∙ up_to_at f n i d l)
      (eq-or-lt_of_le k)

  pub up_to_same : (f g : ℕ → A) (n : ℕ) → ((i : ℕ) → i < n → f i ≡ g i) → up_to f n ≡ up_to g n
  up_to_same f g zero h = refl
  up_to_same f g (suc n) h = ap₂ (λ (l : List A) (x : A). l ++ (x ∷ [])) (up_to_same f g n (λ i k. h i (omega arith))) (h n (omega arith))

-- ── the count
pub count_laid : (forms : List ℕ) (offsets lengths : List (List ℕ)) (radices : List ℕ) (n : ℕ) → size (laid_out forms offsets lengths radices n) ≡ count_in radices n
unfolding laid_out
count_laid forms offsets lengths radices zero = refl
count_laid forms offsets lengths radices (suc n) =
    size_snoc (laid_out forms offsets lengths radices n) (choices_at forms (get_or offsets n []) (get_or lengths n []) (get_or radices n 0))
    ∙ ap₂ ◌*◌ (count_laid forms offsets lengths radices n) (length_up_to (choice_at forms (get_or offsets n []) (get_or lengths n [])) (get_or radices n 0))

pub count_most : (radices : List ℕ) (n : ℕ) → ((i : ℕ) → i < n → Radix (get_or radices i 0)) → count_in radices n ≤ 4 ^ n
count_most radices zero h = omega arith
count_most radices (suc n) h =
    rw (pow-succ' 4 n, mul_comm 4 (4 ^ n)) (mul-le-mul (count_most radices n (λ i k. h i (omega arith))) ((h n (omega arith)).1))

-- sixteen parts have at most 2 ^ 32
pub count_fits : (radices : List ℕ) (n : ℕ) → n ≤ 16 → ((i : ℕ) → i < n → Radix (get_or radices i 0)) → count_in radices n ≤ 4294967296
count_fits radices n k h = le_trans (count_most radices n h) (pow-le-pow_right four k)
  where
    four : 0 < 4
    four = omega arith

-- ── the keying
-- the digit of a part names one of its choices
pub digit_below : (position radix value : ℕ) → Radix radix → value ≡ position % radix → value < radix
digit_below position radix value h e = rw e (mod-lt position h.0)

-- one part less: the digit of the last part, and what is left of the position
module _ (lengths : List (List ℕ)) (radices : List ℕ) where
  pub length_turn : (i position value rest : ℕ) → 0 < i → value ≡ position % get_or radices (i - 1) 0 → rest ≡ position / get_or radices (i - 1) 0 → length_in lengths radices i position ≡ length_in lengths radices (i - 1) rest + get_or (get_or lengths (i - 1) []) value 0
  unfolding length_in
  length_turn zero position value rest h e f = absurd (omega arith)
  length_turn (suc i) position value rest h e f =
      let z : suc i - 1 ≡ i = omega arith in
      rw (e, f, z)

module _ (offsets lengths : List (List ℕ)) (radices : List ℕ) (used : ℕ) where
  pub digit_inside : (n i position value : ℕ) → Laid offsets lengths radices n used → i < n → value ≡ position % get_or radices i 0 → get_or (get_or offsets i []) value 0 + get_or (get_or lengths i []) value 0 ≤ used
  digit_inside n i position value h k e = (h i k).inside value (digit_below position _ value (h i k).few e)

  module _ (forms : List ℕ) where
    pub keying_turn : (i position value rest : ℕ) → 0 < i → value ≡ position % get_or radices (i - 1) 0 → rest ≡ position / get_or radices (i - 1) 0 → keying_in forms offsets lengths radices i position ≡ keying_in forms offsets lengths radices (i - 1) rest ++ choice_at forms (get_or offsets (i - 1) []) (get_or lengths (i - 1) []) value
    unfolding keying_in
    keying_turn zero position value rest h e f = absurd (omega arith)
    keying_turn (suc i) position value rest h e f =
        let z : suc i - 1 ≡ i = omega arith in
        rw (e, f, z)

    pub keying_none : (position : ℕ) → keying_in forms offsets lengths radices zero position ≡ []
    unfolding keying_in
    keying_none position = refl

    pub keying_laid : (n position : ℕ) → Laid offsets lengths radices n used → keying_in forms offsets lengths radices n position ≡ place (laid_out forms offsets lengths radices n) position
    unfolding keying_in laid_out
    keying_laid zero position h = refl
    keying_laid (suc n) position h =
        let r = get_or radices n 0 in
        let c = choice_at forms (get_or offsets n []) (get_or lengths n []) in
        let some : 0 < r = (h n (omega arith)).few.0 in
        ap₂ ◌++◌ (keying_laid n (position / r) (λ i k. h i (omega arith))) (sym (up_to_at c r (position % r) [] (mod-lt position some)))
        ∙ sym (place_snoc (laid_out forms offsets lengths radices n) (up_to c r) position
        ∙ ap (λ (m : ℕ). place (laid_out forms offsets lengths radices n) (position / m) ++ get_or (up_to c r) (position % m) []) (length_up_to c r))

    module _ (whole : used ≤ length forms) where
      pub choice_length : (o l : List ℕ) (r j : ℕ) → Within o l r used → j < r → length (choice_at forms o l j) ≡ get_or l j 0
      choice_length o l r j h k =
          length-take-le (get_or l j 0) (drop (get_or o j 0) forms) (simp length-drop (omega (arith, h.inside j k)))

      pub keying_length : (n position : ℕ) → Laid offsets lengths radices n used → length (keying_in forms offsets lengths radices n position) ≡ length_in lengths radices n position
      unfolding keying_in length_in
      keying_length zero position h = refl
      keying_length (suc n) position h =
          let r = get_or radices n 0 in
          let some : 0 < r = (h n (omega arith)).few.0 in
          length-append (keying_in forms offsets lengths radices n (position / r)) (choice_at forms (get_or offsets n []) (get_or lengths n []) (position % r))
          ∙ ap₂ ◌+◌ (keying_length n (position / r) (λ i k. h i (omega arith))) (choice_length (get_or offsets n []) (get_or lengths n []) r (position % r) (h n (omega arith)) (mod-lt position some))
