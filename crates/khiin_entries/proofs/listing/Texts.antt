-- One line: what the calls that write it leave in the buffer.
use mathlib.Core.Path.{◌≡◌, refl, sym, ap, ap₂, ◌∙◌}
use mathlib.Core.List.{List, [], ◌∷◌, ◌++◌, append_assoc, append-nil}
use Prim.Native.Nat.{ℕ, ◌+◌, ◌-◌, ◌≤◌, ◌<◌}
use native.Mathlib.Nat.{zero-add}
use native.Mathlib.Numerals.{add-one}
use native.Mathlib.Omega.{arith}
use lib.ListN.{length, take, drop, get_or, set, length-append, length-set}
use lib.Seq.{take-suc, set-append_seam, take_at, paste, length-paste}
use Rattle.ji.specs.Utf8.{encode, bytes_of}
use Rattle.ji.specs.Reply.{refusal_number}
use Rattle.ji.specs.declared.reply.Refusal.{Refusal}
use Rattle.ji.proofs.Writing.{stores_2}
use Rattle.khiin_entries.specs.declared.layout.Layout.{Layout}
use Rattle.khiin_entries.specs.Choices.{count_in, length_in, keying_in}
use Rattle.khiin_entries.specs.Listing.{decimal, spaced}
use Rattle.khiin_entries.specs.Lines.{number_then, header_line, refusal_line, line_in, lines_in, Put, Shown}
use Rattle.khiin_entries.proofs.key_sequence.Laying.{keying_length, length_up_to, up_to_at}
use Rattle.khiin_entries.proofs.listing.Fitting.{fit_none}
use Rattle.khiin_entries.proofs.listing.Putting.{put_start, put_as, put_length, put_byte, put_run, put_then, showing_start, showing_next, showing_end, showing_all, shown_none}

-- ── a number and a byte behind it
pub number_put : (before after : List ℕ) (at n last : ℕ) → at + length (decimal n) < length before → after ≡ paste before at (decimal n) (length (decimal n))
    → Put before (set after (at + length (decimal n)) last) at (number_then n last) (at + length (decimal n) + 1)
unfolding number_then
number_put before after at n last room is =
    let h = put_run (put_start before at (omega arith)) (decimal n) (omega arith) in
    rw is (put_byte h last (omega arith))

pub number_length : (n last : ℕ) → length (number_then n last) ≡ length (decimal n) + 1
unfolding number_then
number_length n last = length-append (decimal n) (last ∷ [])

-- ── the line of a keying
pub numbered_length : (before : List ℕ) (at letter : ℕ) {numbered text : List ℕ} {mid : ℕ} → Put (set (set before at letter) (at + 1) 0x20) numbered (at + 2) text mid → length numbered ≡ length before
numbered_length before at letter h = put_length h ∙ length-set (set before at letter) (at + 1) 0x20 ∙ length-set before at letter

module _ (layout : Layout) (position : ℕ) where
  abbrev key : List ℕ
  key = keying_in layout.forms.now layout.choices.now.offsets layout.choices.now.lengths layout.choices.now.radices layout.parts position

  abbrev size : ℕ
  size = length_in layout.choices.now.lengths layout.choices.now.radices layout.parts position

  key_length : length key ≡ size
  key_length = keying_length layout.choices.now.offsets layout.choices.now.lengths layout.choices.now.radices (length layout.forms.now) layout.forms.now (omega arith) layout.parts position layout.laid

  pub keyed_length : (numbered written : List ℕ) (end : ℕ) → size ≤ end → end ≤ length numbered → written ≡ paste numbered (end - size) key size → length written ≡ length numbered
  keyed_length numbered written end h k is =
      ap length is ∙ length-paste numbered (end - size) key size (omega arith) (omega (arith, key_length))

  module _ (letter : ℕ) where
    pub line_length : length (line_in letter layout position) ≡ length (decimal position) + size + 4
    unfolding line_in
    line_length =
        omega (arith, length-append (letter ∷ 0x20 ∷ []) (number_then position 0x20 ++ (key ++ (0x0A ∷ []))), length-append (number_then position 0x20) (key ++ (0x0A ∷ [])), length-append key (0x0A ∷ []), number_length position 0x20, key_length)

    -- letter and space, number and space, keying, newline
    pub line_put : (before numbered written : List ℕ) (at mid n : ℕ) → n ≡ size → at + 2 ≤ length before → mid + n < length before
        → Put (set (set before at letter) (at + 1) 0x20) numbered (at + 2) (number_then position 0x20) mid
        → written ≡ paste numbered (mid + n - size) key size
        → Put before (set written (mid + n) 0x0A) at (line_in letter layout position) (mid + n + 1)
    unfolding line_in
    line_put before numbered written at mid n e room more g is =
        let start : Put before (set (set before at letter) (at + 1) 0x20) at (letter ∷ 0x20 ∷ []) (at + 2) = rw (stores_2 before at letter 0x20 room) (put_run (put_start before at (omega arith)) (letter ∷ 0x20 ∷ []) room) in
        let head : Put before numbered at ((letter ∷ 0x20 ∷ []) ++ number_then position 0x20) mid = put_then start g in
        let l : n ≡ length key = e ∙ sym key_length in
        let back : mid + n - size ≡ mid = omega arith in
        let keyed : Put before written at ((letter ∷ 0x20 ∷ []) ++ number_then position 0x20 ++ key) (mid + n) = rw (is, back, ← e, l) (put_run head key (omega arith)) in
        put_as {text = (letter ∷ 0x20 ∷ []) ++ number_then position 0x20 ++ key ++ (0x0A ∷ [])} (append_assoc ((letter ∷ 0x20 ∷ []) ++ number_then position 0x20) key (0x0A ∷ []) ∙ append_assoc (letter ∷ 0x20 ∷ []) (number_then position 0x20) (key ++ (0x0A ∷ [])))
        (put_byte keyed 0x0A more)

-- ── the lines of a kind
module _ (letter : ℕ) (layout : Layout) where
  pub lines_length : length (lines_in letter layout) ≡ count_in layout.choices.now.radices layout.parts
  unfolding lines_in
  lines_length = length_up_to (line_in letter layout) (count_in layout.choices.now.radices layout.parts)

  pub lines_line : (i : ℕ) → i < count_in layout.choices.now.radices layout.parts → get_or (lines_in letter layout) i [] ≡ line_in letter layout i
  unfolding lines_in
  lines_line i h = up_to_at (line_in letter layout) (count_in layout.choices.now.radices layout.parts) i [] h

-- ── a line that is put together in a buffer of its own
cut : {before after : List ℕ} {text : List ℕ} {end : ℕ} → Put before after 0 text end → take end after ≡ text
cut {before} {after} {text} {end} h =
    let e : length text ≡ end = omega (arith, h.ends) in
    ap (take end) h.is ∙ take_at text (drop end before) end e

-- the same line
pub line_as : {line line' : List ℕ} {from at : ℕ} {before after : List ℕ} {next end : ℕ} → line ≡ line' → Shown (line ∷ []) from at before after next end → Shown (line' ∷ []) from at before after next end
line_as e h = rw (← e) h

-- the header's: numbers with a space behind each, the last of which becomes a newline
abbrev pub numbered : List ℕ → List ℕ
numbered [] = []
numbered (n ∷ ns) = number_then n 0x20 ++ numbered ns

numbered_append : (ns ms : List ℕ) → numbered (ns ++ ms) ≡ numbered ns ++ numbered ms
numbered_append [] ms = refl
numbered_append (n ∷ ns) ms = ap (λ (l : List ℕ). number_then n 0x20 ++ l) (numbered_append ns ms) ∙ sym (append_assoc (number_then n 0x20) (numbered ns) (numbered ms))

pub numbered_next : (ns : List ℕ) (i : ℕ) → i < length ns → {x y z : List ℕ} {end end' : ℕ} → Put x y 0 (numbered (take i ns)) end → Put y z end (number_then (get_or ns i 0) 0x20) end' → Put x z 0 (numbered (take (i + 1) ns)) end'
numbered_next ns i h p q =
    let n = get_or ns i 0 in
    put_as
    (ap (λ (l : List ℕ). numbered (take i ns) ++ l) (sym (append-nil (number_then n 0x20))) ∙ sym (numbered_append (take i ns) (n ∷ [])) ∙ ap numbered (sym (take-suc ns i 0 h)) ∙ ap (λ (k : ℕ). numbered (take k ns)) (sym (add-one i)))
    (put_then p q)

spaced_numbered : (n : ℕ) (ns : List ℕ) → numbered (n ∷ ns) ≡ spaced (n ∷ ns) ++ (0x20 ∷ [])
unfolding number_then encode bytes_of
spaced_numbered n [] = append-nil (decimal n ++ (0x20 ∷ []))
spaced_numbered n (m ∷ ns) = ap (λ (l : List ℕ). decimal n ++ (0x20 ∷ []) ++ l) (spaced_numbered m ns) ∙ simp append_assoc

last_set : {before after : List ℕ} (text : List ℕ) {end : ℕ} (x y : ℕ) → Put before after 0 (text ++ (x ∷ [])) end → Put before (set after (end - 1) y) 0 (text ++ (y ∷ [])) end
last_set {before} {after} text {end} x y h =
    let size : end - 1 ≡ length text = omega (arith, h.ends, length-append text (x ∷ [])) in
    let rest = drop end before in
    record {
      is = ap₂ (λ (l : List ℕ) (n : ℕ). set l n y) (h.is ∙ append_assoc text (x ∷ []) rest) size ∙ set-append_seam text x rest y ∙ sym (append_assoc text (y ∷ []) rest);
      ends = omega (arith, h.ends, length-append text (x ∷ []), length-append text (y ∷ []));
      fits = h.fits;
    }

header_of : {x y : List ℕ} {end : ℕ} (n : ℕ) (ns : List ℕ) → Put x y 0 (spaced (n ∷ ns) ++ (0x20 ∷ [])) end → take end (set y (end - 1) 0x0A) ≡ header_line (n ∷ ns)
unfolding header_line encode bytes_of
header_of n ns h = cut (last_set (spaced (n ∷ ns)) 0x20 0x0A h)

pub header_cut : {x y : List ℕ} {end : ℕ} (counts : List ℕ) → length counts ≡ 5 → Put x y 0 (numbered counts) end → take end (set y (end - 1) 0x0A) ≡ header_line counts
header_cut [] five h = absurd (omega arith)
header_cut {x} {y} {end} (n ∷ ns) five h = header_of n ns (put_as (spaced_numbered n ns) h)

-- a refusal's
abbrev word : List ℕ
word = 0x72 ∷ 0x65 ∷ 0x66 ∷ 0x75 ∷ 0x73 ∷ 0x65 ∷ 0x64 ∷ 0x20 ∷ []

pub refusal_cut : (copy rest : List ℕ) {after : List ℕ} {end : ℕ} (why : Refusal) (number : ℕ) → copy ≡ word → number ≡ refusal_number why → Put (copy ++ rest) after 8 (number_then number 0x0A) end → take end after ≡ refusal_line why
unfolding refusal_line number_then encode bytes_of
refusal_cut copy rest why number is n h =
    let start : Put (copy ++ rest) (copy ++ rest) 0 word 8 = rw is (record { is = refl; ends = refl; fits = omega arith }) in
    cut (put_then start h) ∙ ap (λ (k : ℕ). word ++ (decimal k ++ (0x0A ∷ []))) n

-- ── the first line of a listing
module _ (line : List ℕ) (from : ℕ) (before : List ℕ) where
  pub first_passed : 0 < from → Shown (line ∷ []) from 0 before before from 0
  first_passed h = shown_none (line ∷ []) from 0 before (omega arith) (omega arith)

  module _ (none : from ≤ 0) where
    is_zero : from ≡ 0
    is_zero = omega arith

    pub first_over : length before < length line → Shown (line ∷ []) from 0 before before from 0
    first_over h = rw is_zero (showing_end (showing_start (line ∷ []) 0 0 before (omega arith)) (fit_none line [] (length before - 0) (omega arith)))

    pub first_put : (copy : List ℕ) → copy ≡ line → length line ≤ length before → Shown (line ∷ []) from 0 before (copy ++ drop (length line) before) 1 (length line)
    first_put copy is room =
        let put : Put before (copy ++ drop (length line) before) 0 line (length line) = rw is (record { is = refl; ends = sym (zero-add (length line)); fits = room }) in
        rw is_zero (showing_all (showing_next (showing_start (line ∷ []) 0 0 before (omega arith)) (omega arith) line refl _ (length line) put) (omega arith))
