-- The listing by its sections: the lines of each kind from its arrays, one kind behind the other, and the whole.
use mathlib.Core.Path.{◌≡◌, refl, sym, ap, ap₂, ◌∙◌}
use mathlib.Core.Bool.{Bool}
use mathlib.Core.List.{List, [], ◌∷◌, ◌++◌, map, append_assoc}
use Prim.Native.Nat.{ℕ, zero, suc, ◌+◌, ◌-◌, ◌≤◌, ◌<◌}
use native.Mathlib.Nat.{add-zero, zero-add, add-sub_cancel_left}
use native.Mathlib.Omega.{arith}
use lib.ListN.{length, drop, get_or, length-append, length-drop}
use lib.Seq.{ext_get_or}
use Rattle.ji.specs.Unicode.{unicode16, pick_number}
use Rattle.ji.specs.Utf8.{encode, bytes_of}
use Rattle.ji.specs.Reply.{bad, over}
use Rattle.ji.specs.declared.reply.Refusal.{Refusal}
use Rattle.ji.specs.declared.lomaji.keys.Kind.{Kind}
use Rattle.ji.specs.declared.lomaji.keys.Kind.TheVariants.{Detoned, Numeric, Telex}
use Rattle.khiin_entries.specs.KeySequence.{split, keyings, check_entry}
use Rattle.khiin_entries.specs.Choices.{points_of, Entry, choices_in, laid_out, count_in, keying_in}
use Rattle.khiin_entries.specs.Listing.{decimal, dotted, keying_line, keying_lines, header, listing_of, listing, together, going_in, shown}
use Rattle.khiin_entries.specs.Lines.{number_then, header_line, refusal_line, dotted_in, letter_of, line_in, lines_in, shown_text, Shown, Following, kind_lines, Reached}
use Rattle.khiin_entries.specs.declared.layout.Layout.{Layout}
use Rattle.khiin_entries.proofs.key_sequence.Splitting.{parts_are, parts_count, dot_bytes}
use Rattle.khiin_entries.proofs.key_sequence.Laying.{length_up_to, up_to_at}
use Rattle.khiin_entries.proofs.key_sequence.Filling.{entry_passed, entry_parts}
use Rattle.khiin_entries.proofs.key_sequence.Calling.{checked_good, laid_count, laid_keying}
use Rattle.khiin_entries.proofs.listing.Fitting.{fit_most, going_count}
use Rattle.khiin_entries.proofs.listing.Putting.{following}

-- ── the lines of a kind
pub lines_count : (kind : Kind) (at : ℕ) (ks : List (List ℕ)) → length (keying_lines kind at ks) ≡ length ks
unfolding keying_lines
lines_count kind at [] = refl
lines_count kind at (k ∷ ks) = ap suc (lines_count kind (suc at) ks)

lines_at : (kind : Kind) (at : ℕ) (ks : List (List ℕ)) (i : ℕ) → i < length ks → get_or (keying_lines kind at ks) i [] ≡ keying_line kind (at + i) (get_or ks i [])
unfolding keying_lines
lines_at kind at [] i h = absurd (omega arith)
lines_at kind at (k ∷ ks) zero h = rw (add-zero at)
lines_at kind at (k ∷ ks) (suc i) h =
    let z : suc at + i ≡ at + suc i = omega arith in
    lines_at kind (suc at) ks i (omega arith) ∙ ap (λ (m : ℕ). keying_line kind m (get_or ks i [])) z

-- one line, by the letter of its kind
module _ (layout : Layout) (position : ℕ) (k : List ℕ) (e : keying_in layout.forms.now layout.choices.now.offsets layout.choices.now.lengths layout.choices.now.radices layout.parts position ≡ encode k) where
  behind : number_then position 0x20 ++ (keying_in layout.forms.now layout.choices.now.offsets layout.choices.now.lengths layout.choices.now.radices layout.parts position ++ (0x0A ∷ [])) ≡ decimal position ++ (0x20 ∷ (encode k ++ (0x0A ∷ [])))
  unfolding number_then
  behind =
      append_assoc (decimal position) (0x20 ∷ []) (keying_in layout.forms.now layout.choices.now.offsets layout.choices.now.lengths layout.choices.now.radices layout.parts position ++ (0x0A ∷ []))
      ∙ ap (λ (l : List ℕ). decimal position ++ (0x20 ∷ (l ++ (0x0A ∷ [])))) e

  line_is : (kind : Kind) → line_in (letter_of kind) layout position ≡ keying_line kind position k
  unfolding line_in keying_line encode bytes_of
  line_is Numeric = ap (λ (l : List ℕ). 0x4E ∷ 0x20 ∷ l) behind
  line_is Telex = ap (λ (l : List ℕ). 0x54 ∷ 0x20 ∷ l) behind
  line_is Detoned = ap (λ (l : List ℕ). 0x44 ∷ 0x20 ∷ l) behind

-- the layout of an entry gives the definition's lines
module _ {entry : List ℕ} (kind : Kind) (layout : Layout) (h : Entry entry layout.parts) (texts : laid_out layout.forms.now layout.choices.now.offsets layout.choices.now.lengths layout.choices.now.radices layout.parts ≡ choices_in unicode16 kind entry) where
  abbrev ks : List (List ℕ)
  ks = keyings unicode16 kind (points_of entry)

  pub counted : count_in layout.choices.now.radices layout.parts ≡ length ks
  counted = laid_count h kind 0 [] layout.forms.now layout.choices.now.offsets layout.choices.now.lengths layout.choices.now.radices _ layout.laid texts

  pub lines_are : lines_in (letter_of kind) layout ≡ kind_lines kind entry
  unfolding lines_in kind_lines
  lines_are =
      let line = line_in (letter_of kind) layout in
      let count = count_in layout.choices.now.radices layout.parts in
      let n = length_up_to line count in
      ext_get_or [] _ _ (n ∙ counted ∙ sym (lines_count kind 0 ks))
      (λ i k. let b : i < count = omega (arith, n, k) in
      up_to_at line count i [] b
      ∙ line_is layout i (get_or ks i []) (laid_keying h kind i [] layout.forms.now layout.choices.now.offsets layout.choices.now.lengths layout.choices.now.radices _ layout.laid texts b) kind
      ∙ ap (λ (m : ℕ). keying_line kind m (get_or ks i [])) (sym (zero-add i))
      ∙ sym (lines_at kind 0 ks i (omega (arith, counted))))

-- ── one section behind another
pub shown_most : {ls : List (List ℕ)} {from at : ℕ} {before after : List ℕ} {next end : ℕ} → Shown ls from at before after next end → next ≤ from + (length ls - from)
shown_most {ls} {from} {at} {before} h = omega (arith, h.count, fit_most (drop from ls) (length before - at), length-drop from ls)

module _ (ls : List (List ℕ)) (first next at : ℕ) (before : List ℕ) where
  -- a line before them did not go in, or none is left before them
  pub following_early : next < first → Following ls first next at before before next at
  following_early h = record { early = λ k. (refl, refl, refl); late = λ k. absurd (omega arith) }

  pub following_some : {after : List ℕ} {more end : ℕ} → first ≤ next → Shown ls (next - first) at before after more end → Following ls first next at before after (first + more) end
  following_some {after} {more} {end} h s = record { early = λ l. absurd (omega arith); late = λ l. (omega arith, rw (add-sub_cancel_left first more) s) }

-- ── the whole
dotted_bytes : (ws : List (List ℕ)) → dotted_in (map encode ws) ≡ dotted ws
unfolding dotted_in
dotted_bytes [] = refl
dotted_bytes (w ∷ ws) = ap₂ (λ (b : Bool) (n : ℕ). pick_number b 1 0 + n) (dot_bytes w) (dotted_bytes ws)

abbrev count_of : Kind → List ℕ → ℕ
count_of kind entry = length (keyings unicode16 kind (points_of entry))

-- one kind more
module _ {entry : List ℕ} (kind : Kind) (layout : Layout) (h : Entry entry layout.parts) (texts : laid_out layout.forms.now layout.choices.now.offsets layout.choices.now.lengths layout.choices.now.radices layout.parts ≡ choices_in unicode16 kind entry) where
  pub section_reached : (ls : List (List ℕ)) {from : ℕ} {before mid after : List ℕ} {next end lines next' end' : ℕ} → Reached ls from before mid next end lines
      → Following (lines_in (letter_of kind) layout) lines next end mid after next' end' → Reached (ls ++ kind_lines kind entry) from before after next' end' (lines + count_in layout.choices.now.radices layout.parts)
  unfolding kind_lines
  section_reached ls r f =
      record {
        written = following ls (kind_lines kind entry) _ _ _ _ _ _ _ _ _ r.written (rw (lines_are kind layout h texts, r.count) at f);
        count = omega (arith, r.count, counted kind layout h texts, length-append ls (kind_lines kind entry), lines_count kind 0 (keyings unicode16 kind (points_of entry)));
      }

module _ {entry : List ℕ} {parts : ℕ} (h : Entry entry parts) where
  abbrev s : List ℕ
  s = points_of entry

  abbrev counts : List ℕ
  counts = parts ∷ dotted_in (split entry) ∷ count_of Numeric entry ∷ count_of Telex entry ∷ count_of Detoned entry ∷ []

  header_is : header_line counts ≡ header unicode16 s
  unfolding header header_line
  header_is =
      let p : parts ≡ length (split s) = (entry_parts h).0 ∙ parts_count entry s (entry_passed h) in
      let d : dotted_in (split entry) ≡ dotted (split s) = ap dotted_in (parts_are entry s (entry_passed h)) ∙ dotted_bytes (split s) in
      rw (p, d)

  -- the header, and all kinds: the listing
  pub listing_is : (header_line counts ∷ []) ++ kind_lines Numeric entry ++ kind_lines Telex entry ++ kind_lines Detoned entry ≡ listing unicode16 entry
  unfolding listing kind_lines
  listing_is =
      append_assoc ((header_line counts ∷ []) ++ kind_lines Numeric entry) (kind_lines Telex entry) (kind_lines Detoned entry)
      ∙ ap (λ (l : List ℕ). l ∷ (kind_lines Numeric entry ++ (kind_lines Telex entry ++ kind_lines Detoned entry))) header_is
      ∙ sym (ap (listing_of unicode16) (checked_good h Numeric 0 []))

pub head_reached : {entry : List ℕ} {parts dots numeric telex detoned : ℕ} (h : Entry entry parts) → dots ≡ dotted_in (split entry) → numeric ≡ count_of Numeric entry → telex ≡ count_of Telex entry → detoned ≡ count_of Detoned entry
    → {from : ℕ} {before after : List ℕ} {next end : ℕ} → Shown (header_line (parts ∷ dots ∷ numeric ∷ telex ∷ detoned ∷ []) ∷ []) from 0 before after next end → Reached (header_line (counts h) ∷ []) from before after next end 1
head_reached h e n t d s = record { written = rw (← e, ← n, ← t, ← d) s; count = refl }

-- ── an entry that is refused
pub listing_refused : (entry : List ℕ) (why : Refusal) → check_entry unicode16 entry ≡ bad why → listing unicode16 entry ≡ refusal_line why ∷ []
unfolding listing refusal_line
listing_refused entry why e = ap (listing_of unicode16) e

-- ── what the caller is told
pub told : (entry : List ℕ) (ls : List (List ℕ)) (from : ℕ) (before after : List ℕ) (next end : ℕ) → listing unicode16 entry ≡ ls → Shown ls from 0 before after next end
    → (next ≡ from + length (shown unicode16 entry from (length before))) × (end ≡ length (together (shown unicode16 entry from (length before)))) × (after ≡ over (together (shown unicode16 entry from (length before))) before)
unfolding shown shown_text
told entry ls from before after next end is h =
    let room : length before - 0 ≡ length before = omega arith in
    let lines : going_in (drop from ls) (length before - 0) ≡ going_in (drop from (listing unicode16 entry)) (length before) = ap₂ (λ (l : List (List ℕ)) (r : ℕ). going_in (drop from l) r) (sym is) room in
    let text = ap together lines in
    let ends : end ≡ length (together (going_in (drop from (listing unicode16 entry)) (length before))) = h.text.ends ∙ zero-add _ ∙ ap length text in (
      h.count ∙ ap (λ (k : ℕ). from + k) (sym (going_count (drop from ls) (length before - 0)) ∙ ap length lines),
      ends,
      h.text.is ∙ ap₂ (λ (t : List ℕ) (n : ℕ). t ++ drop n before) text ends,
    )
