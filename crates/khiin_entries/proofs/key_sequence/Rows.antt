-- The row of a part: what it says of the buffer are the part's choices.
use mathlib.Core.Path.{◌≡◌, sym, ap, ap₂, ◌∙◌}
use mathlib.Core.Bool.{Bool, true, false}
use mathlib.Core.List.{List, [], ◌∷◌, ◌++◌}
use Prim.Native.Nat.{ℕ, zero, suc, ◌+◌, ◌-◌, ◌*◌, ◌≤◌, ◌<◌}
use native.Mathlib.Omega.{arith}
use lib.ListN.{length, take, drop, get_or, length-append}
use lib.Seq.{paste, take-take}
use Rattle.ji.specs.Unicode.{unicode16}
use Rattle.ji.specs.declared.lomaji.keys.Form.TheVariants.{Plain, Oo}
use Rattle.ji.specs.declared.lomaji.keys.Kind.{Kind}
use Rattle.khiin_entries.specs.Choices.{form_bytes, choices_of, row_one, row_two, RowOf, Room, Within}
use Rattle.khiin_entries.proofs.key_sequence.Writing.{Stands, pasted_length, put_stands, put_front, put_keeps, stands_front}
use Rattle.khiin_entries.proofs.key_sequence.Forms.{form_bytes_law}
use Rattle.khiin_entries.proofs.key_sequence.Combining.{radix_one, radix_two, radix_four}

pub cut : {buffer : List ℕ} {at : ℕ} {s : List ℕ} → Stands buffer at s → (n : ℕ) → n ≡ length s → take n (drop at buffer) ≡ s
cut {buffer} {at} {s} h n e = ap (λ (k : ℕ). take k (drop at buffer)) e ∙ h.text

-- ── the rows of one form and of two, not toned and toned
module _ (single : Bool) (kind : Kind) (part before after : List ℕ) (at : ℕ) (front : take at after ≡ take at before) where
  module _ (p : List ℕ) (first : Stands after at p) (mid : ℕ) (is_mid : mid ≡ at + length p) where
    within_one : Within (at ∷ at ∷ 0 ∷ 0 ∷ []) ((mid - at) ∷ (mid - at - 1) ∷ 0 ∷ 0 ∷ []) 1 mid
    within_one = record { few = radix_one; inside = below }
      where
        below : (j : ℕ) → j < 1 → get_or (at ∷ at ∷ 0 ∷ 0 ∷ []) j 0 + get_or ((mid - at) ∷ (mid - at - 1) ∷ 0 ∷ 0 ∷ []) j 0 ≤ mid
        below zero h = omega arith
        below (suc j) h = absurd (omega arith)

    pub one_row : choices_of unicode16 single kind part ≡ p ∷ [] → mid ≤ at + (5 * length part + 2) → RowOf unicode16 single kind part at before after (row_one at mid false)
    one_row are short =
        record {
          texts = ap (λ (l : List ℕ). l ∷ []) (cut first (mid - at) (omega arith)) ∙ sym are;
          within = within_one;
          front = front;
          behind = omega arith;
          short = short;
        }

    -- p is q and one byte more
    module _ (q : List ℕ) (k : ℕ) (toned : p ≡ q ++ (k ∷ [])) where
      q_length : length p ≡ length q + 1
      q_length = ap length toned ∙ length-append q (k ∷ [])

      q_stands : Stands after at q
      q_stands = stands_front q (k ∷ []) (rw toned at first)

      pub one_toned_row : choices_of unicode16 single kind part ≡ p ∷ q ∷ [] → mid ≤ at + (5 * length part + 2) → RowOf unicode16 single kind part at before after (row_one at mid true)
      one_toned_row are short =
          record {
            texts = ap₂ (λ (x y : List ℕ). x ∷ y ∷ []) (cut first (mid - at) (omega arith)) (cut q_stands (mid - at - 1) (omega (arith, q_length))) ∙ sym are;
            within = record { few = radix_two; inside = below };
            front = front;
            behind = omega arith;
            short = short;
          }
        where
          below : (j : ℕ) → j < 2 → get_or (at ∷ at ∷ 0 ∷ 0 ∷ []) j 0 + get_or ((mid - at) ∷ (mid - at - 1) ∷ 0 ∷ 0 ∷ []) j 0 ≤ mid
          below zero h = omega arith
          below (suc zero) h = omega arith
          below (suc (suc j)) h = absurd (omega arith)

    -- and a second form behind it
    module _ (o : List ℕ) (second : Stands after mid o) (end : ℕ) (is_end : end ≡ mid + length o) where
      pub two_row : choices_of unicode16 single kind part ≡ p ∷ o ∷ [] → end ≤ at + (5 * length part + 2) → RowOf unicode16 single kind part at before after (row_two at mid end false)
      two_row are short =
          record {
            texts = ap₂ (λ (x y : List ℕ). x ∷ y ∷ []) (cut first (mid - at) (omega arith)) (cut second (end - mid) (omega arith)) ∙ sym are;
            within = record { few = radix_two; inside = below };
            front = front;
            behind = omega arith;
            short = short;
          }
        where
          below : (j : ℕ) → j < 2 → get_or (at ∷ mid ∷ at ∷ mid ∷ []) j 0 + get_or ((mid - at) ∷ (end - mid) ∷ (mid - at - 1) ∷ (end - mid - 1) ∷ []) j 0 ≤ end
          below zero h = omega arith
          below (suc zero) h = omega arith
          below (suc (suc j)) h = absurd (omega arith)

      pub two_toned_row : (q u : List ℕ) (k : ℕ) → p ≡ q ++ (k ∷ []) → o ≡ u ++ (k ∷ []) → choices_of unicode16 single kind part ≡ p ∷ o ∷ q ∷ u ∷ [] → end ≤ at + (5 * length part + 2) → RowOf unicode16 single kind part at before after (row_two at mid end true)
      two_toned_row q u k p_toned o_toned are short =
          let n : length p ≡ length q + 1 = ap length p_toned ∙ length-append q (k ∷ []) in
          let m : length o ≡ length u + 1 = ap length o_toned ∙ length-append u (k ∷ []) in
          let q_stands = stands_front q (k ∷ []) (rw p_toned at first) in
          let u_stands = stands_front u (k ∷ []) (rw o_toned at second) in
          let whole : ◌≡◌ {A = List (List ℕ)} (take (mid - at) (drop at after) ∷ take (end - mid) (drop mid after) ∷ []) (p ∷ o ∷ []) = ap₂ (λ (x y : List ℕ). x ∷ y ∷ []) (cut first (mid - at) (omega arith)) (cut second (end - mid) (omega arith)) in
          let bare : ◌≡◌ {A = List (List ℕ)} (take (mid - at - 1) (drop at after) ∷ take (end - mid - 1) (drop mid after) ∷ []) (q ∷ u ∷ []) = ap₂ (λ (x y : List ℕ). x ∷ y ∷ []) (cut q_stands (mid - at - 1) (omega arith)) (cut u_stands (end - mid - 1) (omega arith)) in
          record {
            texts = ap₂ (λ (x y : List (List ℕ)). x ++ y) whole bare ∙ sym are;
            within = record { few = radix_four; inside = below };
            front = front;
            behind = omega arith;
            short = short;
          }
        where
          below : (j : ℕ) → j < 4 → get_or (at ∷ mid ∷ at ∷ mid ∷ []) j 0 + get_or ((mid - at) ∷ (end - mid) ∷ (mid - at - 1) ∷ (end - mid - 1) ∷ []) j 0 ≤ end
          below zero h = omega arith
          below (suc zero) h = omega arith
          below (suc (suc zero)) h = omega arith
          below (suc (suc (suc zero))) h = omega arith
          below (suc (suc (suc (suc j)))) h = absurd (omega arith)

-- ── what the calls that put forms into the buffer leave there
module _ (kind : Kind) (part before : List ℕ) (at : ℕ) where
  abbrev p : List ℕ
  p = form_bytes unicode16 Plain kind part

  abbrev o : List ℕ
  o = form_bytes unicode16 Oo kind part

  pub first_room : Room part before at → at + length p ≤ length before
  first_room h = omega (arith, form_bytes_law part h.0 Plain kind, h.1)

  -- the plain form is put
  pub record OnePut (mid : ℕ) (after : List ℕ) : Type 0 where
    pub room : Room part before at
    pub ends : mid ≡ at + length p
    pub put : after ≡ paste before at p (length p)

  module _ {mid : ℕ} {after : List ℕ} (h : OnePut mid after) where
    pub one_length : length after ≡ length before
    one_length = ap length h.put ∙ pasted_length before at p (first_room h.room)

    pub one_stands : Stands after at p
    one_stands = rw h.put (put_stands before at p (first_room h.room))

    pub one_front : take at after ≡ take at before
    one_front = ap (take at) h.put ∙ put_front before at p (first_room h.room)

    -- it has at most half of the room, so another one goes in
    pub one_short : (mid ≤ at + (5 * length part + 2)) × (mid + length o ≤ length after) × (mid ≤ 65535)
    one_short =
        let bytes = form_bytes_law part h.room.0 Plain kind in
        (omega (arith, h.ends), omega (arith, h.ends, h.room.1, form_bytes_law part h.room.0 Oo kind, one_length), omega (arith, h.ends, h.room.1, h.room.2))

  -- the other form is put behind it
  pub record TwoPut (mid end : ℕ) (after : List ℕ) : Type 0 where
    pub middle : List ℕ
    pub one : OnePut mid middle
    pub ends : end ≡ mid + length o
    pub put : after ≡ paste middle mid o (length o)

  module _ {mid end : ℕ} {after : List ℕ} (h : TwoPut mid end after) where
    second_room : mid + length o ≤ length h.middle
    second_room = (one_short h.one).1

    pub two_length : length after ≡ length before
    two_length = ap length h.put ∙ pasted_length h.middle mid o second_room ∙ one_length h.one

    pub two_first : Stands after at p
    two_first = rw h.put (put_keeps h.middle mid o second_room at p (one_stands h.one) (omega (arith, h.one.ends)))

    pub two_second : Stands after mid o
    two_second = rw h.put (put_stands h.middle mid o second_room)

    pub two_front : take at after ≡ take at before
    two_front =
        let l : at ≤ mid = omega (arith, h.one.ends) in
        sym (take-take at mid after l) ∙ ap (take at) (ap (take mid) h.put ∙ put_front h.middle mid o second_room) ∙ take-take at mid h.middle l ∙ one_front h.one

    pub two_short : (mid ≤ end) × (end ≤ at + (5 * length part + 2)) × (end ≤ length before) × (end ≤ 65535)
    two_short =
        let bytes = form_bytes_law part h.one.room.0 Plain kind in (
          omega (arith, h.ends),
          omega (arith, h.ends, h.one.ends, form_bytes_law part h.one.room.0 Oo kind),
          omega (arith, h.ends, second_room, one_length h.one),
          omega (arith, h.ends, second_room, one_length h.one, h.one.room.2),
        )
