-- The arrays of an entry, filled part by part.
use mathlib.Core.Path.{◌≡◌, refl, sym, ap, ap₂, ◌∙◌, subst}
use mathlib.Core.Bool.{Bool, true, false, ◌&&◌, cond}
use Rattle.std.specs.Prelude.{Some, None}
use mathlib.Core.List.{List, [], ◌∷◌, ◌++◌, map}
use mathlib.Core.Logic.{⊎_elim}
use Prim.Native.Nat.{ℕ, zero, suc, ◌+◌, ◌*◌, ◌≤◌, ◌<◌}
use native.Mathlib.Nat.{eq-or-lt_of_le}
use native.Mathlib.Decide.{ℕ_discrete}
use native.Mathlib.Numerals.{add-one}
use native.Mathlib.Omega.{arith}
use borrow.Author.Tests.{leb-true}
use lib.Dec.{leb, eqb}
use lib.ListN.{length, take, drop, get_or, set, length-set, length-map}
use lib.Seq.{drop-cons, take-suc, take-take, take_all, get_or-set_same, get_or-set_other}
use Rattle.ji.specs.Unicode.{unicode16}
use Rattle.ji.specs.Reply.{good, check_text}
use Rattle.ji.specs.declared.lomaji.keys.Kind.{Kind}
use Rattle.ji.proofs.Bools.{and_left, and_right}
use Rattle.ji.proofs.unicode.Checked.{Passed, check_passed}
use Rattle.khiin_entries.specs.KeySequence.{in_front, split}
use Rattle.khiin_entries.specs.Choices.{points_of, all_short, part_count, Entry, choices_of, choices_in, choice_at, choices_at, laid_out, Within, RowOf, Laid}
use Rattle.khiin_entries.specs.declared.key_sequence.Row.{Row}
use Rattle.khiin_entries.proofs.key_sequence.Splitting.{split_nil, split_space, split_other, short_at, part_good}
use Rattle.khiin_entries.proofs.key_sequence.Laying.{up_to_same}
use Rattle.khiin_entries.proofs.key_sequence.Writing.{cut_front}

-- ── an entry that was found good
module _ {entry : List ℕ} {parts : ℕ} (h : Entry entry parts) where
  pub entry_passed : Passed unicode16 1024 entry (points_of entry)
  entry_passed = check_passed unicode16 1024 entry (points_of entry) h.checked

  counted : (b : Bool) → (leb (length (split entry)) 16 && all_short (split entry)) ≡ b → cond b (Some (length (split entry))) None ≡ Some parts
      → (parts ≡ length (split entry)) × (parts ≤ 16) × (all_short (split entry) ≡ true)
  counted true e c =
      let all : length (split entry) ≡ parts = cc in
      let few = leb-true (length (split entry)) 16 (and_left (leb (length (split entry)) 16) (all_short (split entry)) e) in
      (sym all, omega arith, and_right (leb (length (split entry)) 16) (all_short (split entry)) e)
  counted false e c = cc

  pub entry_parts : (parts ≡ length (split entry)) × (parts ≤ 16) × (all_short (split entry) ≡ true)
  unfolding part_count
  entry_parts = counted (leb (length (split entry)) 16 && all_short (split entry)) refl h.count

  -- each part is the bytes of a good text
  pub entry_part : (i : ℕ) → i < parts → check_text unicode16 (get_or (split entry) i []) ≡ good (points_of (get_or (split entry) i []))
  entry_part i k =
      let l : i < length (split entry) = omega (arith, entry_parts.0) in
      part_good entry (points_of entry) entry_passed i l (short_at (split entry) entry_parts.2 i l)

-- ── what was laid out stays
within_more : {o l : List ℕ} {r u v : ℕ} → Within o l r u → u ≤ v → Within o l r v
within_more h k = record { few = h.few; inside = λ j b. omega (arith, h.inside j b) }

within_as : {o o' l l' : List ℕ} {r r' u : ℕ} → o ≡ o' → l ≡ l' → r ≡ r' → Within o' l' r' u → Within o l r u
within_as p q s h = rw (p, q, s) h

module _ (before after : List ℕ) (used : ℕ) (front : take used after ≡ take used before) where
  same_choice : (a n : ℕ) → a + n ≤ used → take n (drop a after) ≡ take n (drop a before)
  same_choice a n k =
      cut_front n a after
      ∙ ap (drop a) (sym (take-take (a + n) used after k) ∙ ap (take (a + n)) front ∙ take-take (a + n) used before k)
      ∙ sym (cut_front n a before)

  same_choices : (o l : List ℕ) (r : ℕ) → Within o l r used → choices_at after o l r ≡ choices_at before o l r
  same_choices o l r h =
      up_to_same (choice_at after o l) (choice_at before o l) r (λ j k. same_choice (get_or o j 0) (get_or l j 0) (h.inside j k))

-- ── one part more
map_get_d : {A B : Type 0} (f : A → B) (l : List A) (i : ℕ) (d : A) (e : B) → i < length l → get_or (map f l) i e ≡ f (get_or l i d)
map_get_d f [] i d e h = absurd (omega arith)
map_get_d f (x ∷ l) zero d e h = refl
map_get_d f (x ∷ l) (suc i) d e h = map_get_d f l i d e (omega arith)

-- the bytes of parts
abbrev size_of : List (List ℕ) → ℕ
size_of [] = 0
size_of (w ∷ ws) = length w + size_of ws

size_front : (c : ℕ) (ws : List (List ℕ)) → size_of (in_front c ws) ≡ suc (size_of ws)
size_front c [] = refl
size_front c (w ∷ ws) = omega arith

size_more : (c : ℕ) (s : List ℕ) → size_of (split s) ≤ length s → Dec (c ≡ 0x20) → size_of (split (c ∷ s)) ≤ suc (length s)
size_more c s h (yes e) = rw (split_space c s e) (omega arith)
size_more c s h (no ne) = rw (split_other c s ne, size_front c (split s)) (omega arith)

size_split : (s : List ℕ) → size_of (split s) ≤ length s
size_split [] = rw split_nil (omega arith)
size_split (c ∷ s) = size_more c s (size_split s) (ℕ_discrete c 0x20)

-- the first i parts are laid out in the first `used` bytes. For the others there is room: five bytes for each of theirs, and two more for each part
pub record Filling (entry : List ℕ) (kind : Kind) (forms : List ℕ) (offsets lengths : List (List ℕ)) (radices : List ℕ) (i used : ℕ) : Type 0 where
  pub offsets_size : length offsets ≡ 16
  pub lengths_size : length lengths ≡ 16
  pub radices_size : length radices ≡ 16
  pub few : used + 5 * size_of (drop i (split entry)) ≤ 5 * length entry + 2 * i
  pub laid : Laid offsets lengths radices i used
  pub texts : laid_out forms offsets lengths radices i ≡ take i (choices_in unicode16 kind entry)

pub filling_start : (entry : List ℕ) (kind : Kind) (forms : List ℕ) (offsets lengths : List (List ℕ)) (radices : List ℕ) → length offsets ≡ 16 → length lengths ≡ 16 → length radices ≡ 16 → Filling entry kind forms offsets lengths radices 0 0
unfolding laid_out
filling_start entry kind forms offsets lengths radices o l r =
    record {
      offsets_size = o;
      lengths_size = l;
      radices_size = r;
      few = omega (arith, size_split entry);
      laid = λ i k. absurd (omega arith);
      texts = refl;
    }

module _ {entry : List ℕ} {kind : Kind} {parts : ℕ} (e : Entry entry parts) {forms : List ℕ} {offsets lengths : List (List ℕ)} {radices : List ℕ} {i used : ℕ}
    (h : Filling entry kind forms offsets lengths radices i used) (known : i < length (split entry)) where
  abbrev part : List ℕ
  part = get_or (split entry) i []

  size_here : size_of (drop i (split entry)) ≡ length part + size_of (drop (suc i) (split entry))
  size_here = ap size_of (drop-cons (split entry) i [] known)

  -- there is room for the part
  pub filling_room : used + (5 * length part + 2) ≤ 5 * length entry + 32
  filling_room = omega (arith, h.few, size_here, (entry_parts e).0, (entry_parts e).1)

  module _ (forms' : List ℕ) (row : Row) (r : RowOf unicode16 (eqb parts 1) kind part used forms forms' row) where
    abbrev offsets' : List (List ℕ)
    offsets' = set offsets i row.offsets

    abbrev lengths' : List (List ℕ)
    lengths' = set lengths i row.lengths

    abbrev radices' : List ℕ
    radices' = set radices i row.radix

    -- the parts before it are as they were
    earlier : (j : ℕ) → j < i → (get_or offsets' j [] ≡ get_or offsets j []) × (get_or lengths' j [] ≡ get_or lengths j []) × (get_or radices' j 0 ≡ get_or radices j 0)
    earlier j k =
        let ne : j ≡ i → ⊥ = λ q. omega arith in
        (get_or-set_other offsets i j row.offsets [] ne, get_or-set_other lengths i j row.lengths [] ne, get_or-set_other radices i j row.radix 0 ne)

    -- and it stands behind them
    last : (get_or offsets' i [] ≡ row.offsets) × (get_or lengths' i [] ≡ row.lengths) × (get_or radices' i 0 ≡ row.radix)
    last =
        let few : i < 16 = omega (arith, known, entry_parts e) in (
          get_or-set_same offsets i row.offsets [] (omega (arith, h.offsets_size)),
          get_or-set_same lengths i row.lengths [] (omega (arith, h.lengths_size)),
          get_or-set_same radices i row.radix 0 (omega (arith, h.radices_size)),
        )

    laid' : Laid offsets' lengths' radices' (i + 1) row.end
    laid' j k =
        let b : j ≤ i = omega arith in
        ⊎_elim (λ q. subst (λ (n : ℕ). Within (get_or offsets' n []) (get_or lengths' n []) (get_or radices' n 0) row.end) (sym q) (within_as last.0 last.1 last.2 r.within))
        (λ l. let p = earlier j l in within_as p.0 p.1 p.2 (within_more (h.laid j l) r.behind))
        (eq-or-lt_of_le b)

    -- their choices
    abbrev rows : List ℕ → List (List ℕ) → List (List ℕ) → List ℕ → ℕ → List (List ℕ)
    rows f o l q j = choices_at f (get_or o j []) (get_or l j []) (get_or q j 0)

    rows_as : {o o' l l' : List ℕ} {q q' : ℕ} → o ≡ o' → l ≡ l' → q ≡ q' → choices_at forms' o l q ≡ choices_at forms' o' l' q'
    rows_as p q s = rw (p, q, s)

    same_rows : (j : ℕ) → j < i → rows forms' offsets' lengths' radices' j ≡ rows forms offsets lengths radices j
    same_rows j k =
        let p = earlier j k in
        rows_as p.0 p.1 p.2 ∙ same_choices forms forms' used r.front (get_or offsets j []) (get_or lengths j []) (get_or radices j 0) (h.laid j k)

    texts' : laid_out forms' offsets' lengths' radices' (suc i) ≡ take (suc i) (choices_in unicode16 kind entry)
    unfolding laid_out choices_in
    texts' =
        let f = choices_of unicode16 (eqb (length (split entry)) 1) kind in
        let n : eqb parts 1 ≡ eqb (length (split entry)) 1 = ap (λ (m : ℕ). eqb m 1) (entry_parts e).0 in
        ap₂ (λ (x : List (List (List ℕ))) (y : List (List ℕ)). x ++ (y ∷ []))
        (up_to_same (rows forms' offsets' lengths' radices') (rows forms offsets lengths radices) i same_rows ∙ h.texts)
        (rows_as last.0 last.1 last.2 ∙ r.texts ∙ ap (λ (b : Bool). choices_of unicode16 b kind part) n ∙ sym (map_get_d f (split entry) i [] [] known))
        ∙ sym (take-suc (map f (split entry)) i [] (omega (arith, known, length-map (split entry) f)))

    pub filling_next : Filling entry kind forms' offsets' lengths' radices' (i + 1) row.end
    filling_next =
        record {
          offsets_size = length-set offsets i row.offsets ∙ h.offsets_size;
          lengths_size = length-set lengths i row.lengths ∙ h.lengths_size;
          radices_size = length-set radices i row.radix ∙ h.radices_size;
          few = rw (add-one i) (omega (arith, h.few, r.short, size_here));
          laid = laid';
          texts = rw (add-one i) texts';
        }

-- all parts are laid out
pub filling_all : {entry : List ℕ} {kind : Kind} {parts : ℕ} {forms : List ℕ} {offsets lengths : List (List ℕ)} {radices : List ℕ} {i used : ℕ} → Entry entry parts → Filling entry kind forms offsets lengths radices i used → i ≡ parts → laid_out forms offsets lengths radices parts ≡ choices_in unicode16 kind entry
unfolding choices_in
filling_all {entry} {kind} {parts} {forms} {offsets} {lengths} {radices} {i} e h all =
    let f = choices_of unicode16 (eqb (length (split entry)) 1) kind in
    rw (← all) (h.texts ∙ take_all i (map f (split entry)) (omega (arith, (entry_parts e).0, length-map (split entry) f)))

pub filling_laid : {entry : List ℕ} {kind : Kind} {parts n : ℕ} {forms : List ℕ} {offsets lengths : List (List ℕ)} {radices : List ℕ} {i used : ℕ} → Filling entry kind forms offsets lengths radices i used → i ≡ parts → used ≤ n → Laid offsets lengths radices parts n
filling_laid h all k j b = within_more (h.laid j (omega arith)) k
