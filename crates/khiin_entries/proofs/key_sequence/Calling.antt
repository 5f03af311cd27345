-- The call for a keying: what it replies in each case.
use mathlib.Core.Path.{◌≡◌, refl, sym, ap, ap₂, ◌∙◌}
use mathlib.Core.Bool.{Bool, true, false, ◌&&◌}
use mathlib.Core.List.{List, [], ◌++◌}
use Prim.Native.Nat.{ℕ, ◌-◌, ◌≤◌, ◌<◌}
use native.Mathlib.Nat.{sub_self, zero-add}
use native.Mathlib.Omega.{arith}
use borrow.Author.Tests.{lt-ltb, le-ltb, ltb-true, le-leb, lt-leb}
use lib.Dec.{ltb, leb}
use lib.ListN.{length, drop, get_or}
use lib.Seq.{paste, take-length}
use Rattle.ji.specs.Unicode.{unicode16}
use Rattle.ji.specs.Utf8.{encode}
use Rattle.ji.specs.Reply.{Reply, refused, over, pick_reply, Checked, good, bad, pick_checked, check_within, verdict_of}
use Rattle.ji.specs.declared.reply.Refusal.{Refusal}
use Rattle.ji.specs.declared.reply.Refusal.TheVariants.{Parts, Position, NoRoom}
use Rattle.ji.specs.declared.lomaji.keys.Kind.{Kind}
use Rattle.ji.proofs.Bools.{either, and_yes}
use Rattle.ji.proofs.unicode.Checked.{Passed, check_passed}
use Rattle.khiin_entries.specs.KeySequence.{split, keyings, parts_fit, check_parts, check_entry, keyed, placed_keying, keying_at, keying_of, keying_call}
use Rattle.khiin_entries.specs.Choices.{points_of, all_short, part_count, Entry, choices_in, laid_out, Laid, count_in, keying_in, laid_reply}
use Rattle.khiin_entries.proofs.key_sequence.Splitting.{points_back, parts_are, parts_count, short_bytes}
use Rattle.khiin_entries.proofs.key_sequence.Combining.{count_is, keying_is}
use Rattle.khiin_entries.proofs.key_sequence.Product.{size, place}
use Rattle.khiin_entries.proofs.key_sequence.Laying.{count_laid, keying_laid}
use Rattle.khiin_entries.proofs.key_sequence.Filling.{entry_passed, entry_parts}
use Rattle.std.specs.Prelude.{Option as Found, Some, None, Result, Ok, Err, ok_or, cond, ⊤}

-- ── the reply from the arrays
module _ (count : ℕ) (output : List ℕ) (position : ℕ) (buffer : List ℕ) where
  pub laid_position : count ≤ position → refused Position buffer ≡ laid_reply count output position buffer
  laid_position h = sym (ap (λ (b : Bool). pick_reply b (placed_keying unicode16 count output buffer) (refused Position buffer)) (le-ltb position count h))

  module _ (h : position < count) where
    placed_here : placed_keying unicode16 count output buffer ≡ laid_reply count output position buffer
    placed_here = sym (ap (λ (b : Bool). pick_reply b (placed_keying unicode16 count output buffer) (refused Position buffer)) (lt-ltb position count h))

    pub laid_no_room : length buffer < length output → refused NoRoom buffer ≡ laid_reply count output position buffer
    laid_no_room k = sym (ap (λ (b : Bool). pick_reply b (keyed unicode16 count output buffer) (refused NoRoom buffer)) (lt-leb (length output) (length buffer) k)) ∙ placed_here

    -- the keying was written so that it ends at its length
    pub laid_done : (n : ℕ) (after : List ℕ) → length output ≡ n → n ≤ length buffer → after ≡ paste buffer (n - n) output n
        → ◌≡◌ {A = Reply} (record { code = 0; length = n; count = count; body = 0; tone = 0; khin = 0; position = 0; buffer = after }) (laid_reply count output position buffer)
    laid_done n after e k put =
        let whole : after ≡ over output buffer = put ∙ ap (λ (m : ℕ). paste buffer m output n) (sub_self n) ∙ front n e in
        rw (whole, ← e) (sym (ap (λ (b : Bool). pick_reply b (keyed unicode16 count output buffer) (refused NoRoom buffer)) (le-leb (length output) (length buffer) (rw e k))) ∙ placed_here)
      where
        front : (n : ℕ) → length output ≡ n → paste buffer 0 output n ≡ over output buffer
        front n e = rw (zero-add n, ← e) (ap (λ (l : List ℕ). l ++ drop (length output) buffer) (take-length output))

-- ── a good entry
module _ {entry : List ℕ} {parts : ℕ} (h : Entry entry parts) (kind : Kind) (position : ℕ) (buffer : List ℕ) where
  abbrev s : List ℕ
  s = points_of entry

  pub checked_good : check_entry unicode16 entry ≡ good s
  unfolding check_entry
  checked_good =
      let p = entry_passed h in
      let q = entry_parts h in
      let few : length (split s) ≤ 16 = omega (arith, q.0, q.1, parts_count entry s p) in
      let short : parts_fit unicode16 (split s) ≡ true = sym (short_bytes unicode16 (split s)) ∙ ap all_short (sym (parts_are entry s p)) ∙ q.2 in
      ap (check_parts unicode16) h.checked
      ∙ ap (λ (b : Bool). pick_checked b (good s) (bad Parts)) (and_yes (leb (length (split s)) 16) (parts_fit unicode16 (split s)) (le-leb (length (split s)) 16 few) ∙ short)

  call_good : keying_call unicode16 entry kind position buffer ≡ keying_at unicode16 (keyings unicode16 kind s) position buffer
  unfolding keying_call
  call_good = ap (λ (c : Checked). keying_of unicode16 kind c position buffer) checked_good

  module _ (forms : List ℕ) (offsets lengths : List (List ℕ)) (radices : List ℕ) (used : ℕ)
      (laid : Laid offsets lengths radices parts used) (texts : laid_out forms offsets lengths radices parts ≡ choices_in unicode16 kind entry) where
    pub laid_count : count_in radices parts ≡ length (keyings unicode16 kind s)
    laid_count = sym (count_laid forms offsets lengths radices parts) ∙ ap size texts ∙ sym (count_is entry s (entry_passed h) kind)

    pub laid_keying : position < count_in radices parts → keying_in forms offsets lengths radices parts position ≡ encode (get_or (keyings unicode16 kind s) position [])
    laid_keying k =
        keying_laid offsets lengths radices used forms parts position laid
        ∙ ap (λ (xss : List (List (List ℕ))). place xss position) texts
        ∙ sym (keying_is entry s (entry_passed h) kind position (omega (arith, count_laid forms offsets lengths radices parts, ap size texts)))

    -- the arrays give what the call replies
    pub laid_call : laid_reply (count_in radices parts) (keying_in forms offsets lengths radices parts position) position buffer ≡ keying_call unicode16 entry kind position buffer
    laid_call =
        let n = count_in radices parts in
        let k = keying_in forms offsets lengths radices parts position in
        let e = encode (get_or (keyings unicode16 kind s) position []) in
        either (ltb position n)
        (λ b. ap (λ (l : List ℕ). laid_reply n l position buffer) (laid_keying (ltb-true position n b)))
        (λ b. ap (λ (x : Bool). pick_reply x (placed_keying unicode16 n k buffer) (refused Position buffer)) b ∙ sym (ap (λ (x : Bool). pick_reply x (placed_keying unicode16 n e buffer) (refused Position buffer)) b))
        ∙ ap (λ (m : ℕ). laid_reply m e position buffer) laid_count
        ∙ sym call_good

-- ── any entry
-- what a verdict says of the check
verdict_good : (c : Checked) → verdict_of c ≡ Ok tt → (s : List ℕ) × (c ≡ good s)
verdict_good (good s) e = (s, refl)
verdict_good (bad why) e = absurd (let z : ◌≡◌ {A = ℕ} 0 1 = cc in omega arith)

verdict_bad : (c : Checked) (why : Refusal) → verdict_of c ≡ Err why → c ≡ bad why
verdict_bad (good s) why e = absurd (let z : ◌≡◌ {A = ℕ} 0 1 = cc in omega arith)
verdict_bad (bad w) why e = cc

module _ (entry : List ℕ) (answer : Result ⊤ Refusal) (says : answer ≡ verdict_of (check_within unicode16 1024 entry)) where
  pub entry_refused : (why : Refusal) → answer ≡ Err why → check_entry unicode16 entry ≡ bad why
  unfolding check_entry
  entry_refused why e = ap (check_parts unicode16) (verdict_bad (check_within unicode16 1024 entry) why (sym says ∙ e))

  -- the entry is good
  module _ (e : answer ≡ Ok tt) where
    text : List ℕ
    text = (verdict_good (check_within unicode16 1024 entry) (sym says ∙ e)).0

    check_is : check_within unicode16 1024 entry ≡ good text
    unfolding text
    check_is = (verdict_good (check_within unicode16 1024 entry) (sym says ∙ e)).1

    passed : Passed unicode16 1024 entry text
    passed = check_passed unicode16 1024 entry text check_is

    text_is : points_of entry ≡ text
    text_is = ap points_of (sym passed.written) ∙ points_back text passed.inside

    entry_good : (parts : ℕ) → part_count entry ≡ Some parts → Entry entry parts
    entry_good parts c = record { checked = check_is ∙ ap good (sym text_is); count = c }

    -- but its parts do not fit
    fits_same : (leb (length (split text)) 16 && parts_fit unicode16 (split text)) ≡ (leb (length (split entry)) 16 && all_short (split entry))
    fits_same =
        ap₂ (λ (n : ℕ) (b : Bool). leb n 16 && b) (sym (parts_count entry text passed)) (sym (ap all_short (parts_are entry text passed) ∙ short_bytes unicode16 (split text)))

    not_counted : part_count entry ≡ None → (leb (length (split entry)) 16 && all_short (split entry)) ≡ false
    unfolding part_count
    not_counted none =
        let test = leb (length (split entry)) 16 && all_short (split entry) in
        either test (λ b. let some = sym (ap (λ (x : Bool). cond x (Some (length (split entry))) None) b) ∙ none in cc) (λ b. b)

    none_refused : part_count entry ≡ None → check_entry unicode16 entry ≡ bad Parts
    unfolding check_entry
    none_refused none =
        ap (check_parts unicode16) check_is ∙ ap (λ (b : Bool). pick_checked b (good text) (bad Parts)) (fits_same ∙ not_counted none)

    pub parts_refused : (found : Found ℕ) → found ≡ part_count entry → (why : Refusal) → ok_or found Parts ≡ Err why → check_entry unicode16 entry ≡ bad why
    parts_refused None c why e = let w : Parts ≡ why = cc in none_refused (sym c) ∙ ap bad w
    parts_refused (Some parts) c why e = absurd (let z : ◌≡◌ {A = ℕ} 0 1 = cc in omega arith)

    pub parts_good : (found : Found ℕ) → found ≡ part_count entry → (parts : ℕ) → ok_or found Parts ≡ Ok parts → Entry entry parts
    parts_good None c parts e = absurd (let z : ◌≡◌ {A = ℕ} 0 1 = cc in omega arith)
    parts_good (Some n) c parts e = let w : n ≡ parts = cc in entry_good parts (sym c ∙ ap Some w)

pub call_refused : (entry : List ℕ) (kind : Kind) (position : ℕ) (buffer : List ℕ) (why : Refusal) → check_entry unicode16 entry ≡ bad why → refused why buffer ≡ keying_call unicode16 entry kind position buffer
unfolding keying_call
call_refused entry kind position buffer why e = sym (ap (λ (c : Checked). keying_of unicode16 kind c position buffer) e)
