-- A tone mark put into a text that stands at the front of a buffer: behind a letter, or in one with it.
use mathlib.Core.Path.{◌≡◌, sym, ap, ◌∙◌}
use mathlib.Core.Bool.{true}
use mathlib.Core.List.{List, ◌∷◌, ◌++◌}
use mathlib.Core.Logic.{inl}
use Prim.Native.Nat.{ℕ, ◌+◌, ◌≤◌, ◌<◌}
use native.Mathlib.Numerals.{add-one}
use native.Mathlib.Omega.{arith}
use lib.ListN.{length, take, drop, get_or, set}
use lib.Seq.{length-take-le, take_at, take-set-lt, set_split}
use Rattle.ji.specs.Unicode.{unicode16}
use Rattle.ji.specs.declared.tone.Tone.{Tone}
use Rattle.khiin.specs.Syllable.{mark_of, encoded}
use Rattle.khiin.specs.Compose.{mark_text, inserted, settled_from, MakeOne, MakeNone}
use Rattle.khiin.proofs.syllable.compose.Laws.{inserted_is}
use Rattle.khiin.proofs.syllable.marking.Settled.{listed_mark}
use Rattle.khiin.proofs.syllable.marking.Marked.{marked_one, marked_none}
use Rattle.std.specs.Prelude.{Option}

-- the mark of a tone, as the answer has it
pub mark_told : (tone : Tone) {m x : Option ℕ} → m ≡ x → mark_text m ≡ mark_of tone → mark_text x ≡ mark_of tone
mark_told tone e h = ap mark_text (sym e) ∙ h

-- the first n code points of s, with x behind the first k of them
abbrev pub with_mark : List ℕ → ℕ → ℕ → ℕ → List ℕ
with_mark s n k x = take k (take n s) ++ (x ∷ drop k (take n s))

-- the text with the mark, at the front of the buffer that it was put into
pub marked_part : (s : List ℕ) (n k x : ℕ) → n < length s → k ≤ n → {part : List ℕ} → part ≡ inserted k x (take (n + 1) s) → length part ≡ length (take (n + 1) s) → (rest : List ℕ) → take (n + 1) (part ++ rest) ≡ with_mark s n k x
marked_part s n k x h l {part} e kept rest =
    take_at part rest (n + 1) (kept ∙ length-take-le (n + 1) s (omega arith)) ∙ e ∙ inserted_is s n k x h l

-- a settled text and a letter of it
module _ (s : List ℕ) (n k mark : ℕ) (h : k < n) (room : n < length s) (settled : settled_from 0 (take n s) ≡ true) where
  within : k < length (take n s)
  within = rw (length-take-le n s (omega arith)) h

  -- the letter gave way to the composite
  pub joined_text : (c : ℕ) → MakeOne (get_or (take n s) k 0) mark c → take n (set s k c) ≡ encoded unicode16 (with_mark s n (k + 1) mark)
  joined_text c j =
      take-set-lt n s k c h
      ∙ rw (add-one k) (set_split (take n s) k c within)
      ∙ sym (marked_one (take n s) k mark settled within (omega (arith, j.letter)) (listed_mark mark j.tone) c j.one j.small.1)

  -- 030D stays behind it
  pub line_text : MakeNone (get_or (take n s) k 0) mark → mark ≡ 0x030D → with_mark s n (k + 1) mark ≡ encoded unicode16 (with_mark s n (k + 1) mark)
  line_text j line = sym (marked_none (take n s) k mark settled within (omega (arith, j.letter)) (listed_mark mark j.tone) (inl line) j.apart)
