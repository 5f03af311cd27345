-- Blocks of lines: each has no more lines than are left, and starts where the one before it ends.
use Rattle.std.proofs.Common.{Bool, true, false, ltb, Option, Some, None, IfSome, unwrap_or, ◌≡◌, ℕ, ◌+◌, ◌-◌, ◌<◌, ◌≤◌, List, [], ◌++◌, length, take, drop, sym, ap, subst, ◌∙◌, arith, length-append, length-drop, length-take-le, take-append-drop, take-add, append-nil}
use Rattle.std.specs.Bool.{then_some}
use Rattle.std.proofs.lemmas.Bool.{ltb-true, ltb-false}
use Rattle.std.proofs.Math.Seq.{take-append-add}
use Rattle.std.proofs.lemmas.List.{take-append-le}
use Rattle.std.specs.Io.KnownBytes.{Consumes}
use Rattle.std.proofs.KnownBytes.{Consumes-trans}
use Rattle.ji.specs.Unicode.{unicode16}
use Rattle.ji.specs.Reply.{over}
use Rattle.khiin_entries.specs.Listing.{listing, together, fitting, going_in, shown}
use Rattle.khiin_entries.proofs.listing.Fitting.{together_append, fit_most, going_count}
use Rattle.lister.proofs.Short.{short_drop, listing_short, none_left}

-- a text that stands in the buffer is no longer than it
pub block_inside : (text before after : List ℕ) (len : ℕ) → len ≡ length text → after ≡ over text before → length after ≡ length before → len ≤ length after
block_inside text before after len l is same = omega (arith, ap length is, length-append text (drop (length text) before), length-drop (length text) before)

pub next_inside : (entry : List ℕ) (from room next : ℕ) → next ≡ from + length (shown unicode16 entry from room) → (from ≤ next) × (next ≤ from + (length (listing unicode16 entry) - from))
unfolding shown
next_inside entry from room next e =
    let left = drop from (listing unicode16 entry) in
    (omega arith, omega (arith, e, going_count left room, fit_most left room, length-drop from (listing unicode16 entry)))

-- the same, where the next number is told only if a line was written
pub next_told : (entry : List ℕ) (from room next : ℕ) → next ≡ from + length (shown unicode16 entry from room) → (b : Bool) → b ≡ ltb from next
    → IfSome (then_some b next) (λ n. (from < n) × (n ≤ from + (length (listing unicode16 entry) - from))) × (from + length (shown unicode16 entry from room) ≡ unwrap_or (then_some b next) from)
next_told entry from room next e true t = ((ltb-true from next (sym t), (next_inside entry from room next e).1), sym e)
next_told entry from room next e false t = (tt, omega (arith, (next_inside entry from room next e).0, ltb-false from next (sym t)))

module _ (entry : List ℕ) where
  abbrev ls : List (List ℕ)
  ls = listing unicode16 entry

  -- a block is known by its size
  pub next_sized : (from next size room : ℕ) → size ≡ room → next ≡ from + length (shown unicode16 entry from size) → next ≡ from + length (shown unicode16 entry from room)
  next_sized from next size room s e = e ∙ ap (λ (n : ℕ). from + length (shown unicode16 entry from n)) s

  -- the lines of a block, behind those that were printed before it
  pub printed_further : (from room next : ℕ) → next ≡ from + length (shown unicode16 entry from room) → together (take from ls) ++ together (shown unicode16 entry from room) ≡ together (take next ls)
  unfolding shown going_in
  printed_further from room next e =
      let k = fitting (drop from ls) room in
      let n : next ≡ from + k = e ∙ ap (λ (m : ℕ). from + m) (going_count (drop from ls) room) in
      sym (ap (λ (m : ℕ). together (take m ls)) n ∙ ap together (take-add from k ls) ∙ together_append (take from ls) (take k (drop from ls)))

  -- where a block has no line, all were printed
  pub printed_all : (from : ℕ) → from + length (shown unicode16 entry from 65536) ≡ from → together (take from ls) ≡ together ls
  unfolding shown
  printed_all from e =
      let none : drop from ls ≡ [] = none_left (drop from ls) 65536 (short_drop 65536 from ls (listing_short entry)) (omega (arith, e, going_count (drop from ls) 65536)) in
      ap together (sym (append-nil (take from ls)) ∙ ap (λ (l : List (List ℕ)). take from ls ++ l) (sym none) ∙ take-append-drop from ls)

-- ── what is read
-- bytes that are read behind the first n stay in the buffer
pub read_inside : (text buf rest : List ℕ) (n k : ℕ) → n ≤ length text → k ≤ length buf → n + k ≤ length (take n text ++ (buf ++ rest))
read_inside text buf rest n k inside fits =
    omega (arith, fits, length-append (take n text) (buf ++ rest), length-append buf rest, length-take-le n text inside)

-- and with the first n are all that the reader gave
pub read_further : (a b c : Option (List ℕ)) (text buf rest : List ℕ) (n k : ℕ) → n ≤ length text → k ≤ length buf → Consumes a b (take n text) → Consumes b c (take k buf)
    → Consumes a c (take (n + k) (take n text ++ (buf ++ rest)))
read_further a b c text buf rest n k inside fits first second =
    let front : length (take n text) ≡ n = length-take-le n text inside in
    let joined : take (n + k) (take n text ++ (buf ++ rest)) ≡ take n text ++ take k buf =
    ap (λ (m : ℕ). take (m + k) (take n text ++ (buf ++ rest))) (sym front) ∙ take-append-add (take n text) (buf ++ rest) k
    ∙ ap (λ (l : List ℕ). take n text ++ l) (take-append-le k buf rest fits) in
    subst (Consumes a c) (sym joined) (Consumes-trans a b c (take n text) (take k buf) first second)

-- what was read of a reader whose bytes are known, where the buffer has m bytes
pub read_front : (known : Option (List ℕ)) (text : List ℕ) (n m : ℕ) → length text ≡ m → IfSome known (λ input. take n text ≡ take (length text) input)
    → IfSome known (λ input. take n text ≡ take m input)
read_front None text n m e h = tt
read_front (Some input) text n m e h = h ∙ ap (λ (k : ℕ). take k input) e
