-- Stripping an ASCII text: all of it is kept.
use mathlib.Core.Path.{◌≡◌, ap, ap₂, ◌∙◌}
use mathlib.Core.Bool.{true}
use mathlib.Core.List.{List, [], ◌∷◌}
use mathlib.Core.Logic.{inl}
use Prim.Native.Nat.{ℕ}
use Rattle.ucd.specs.Table.{All}
use Rattle.ucd.specs.Unicode16.{unicode16}
use Rattle.ji.specs.Text.{all_ascii}
use Rattle.ji.specs.Utf8.{encode}
use Rattle.ji.specs.Lomaji.Strip.{last_tone, unmarked_tone, stripped, strip}
use Rattle.ji.specs.Lomaji.Single.{Kept}
use Rattle.ji.specs.declared.tone.Tone.{Tone}
use Rattle.ji.proofs.unicode.Ascii.{ascii_low, ascii_rest, ascii_bytes}
use Rattle.ji.proofs.lomaji.strip.Laws.{last_none}
use Rattle.ji.proofs.lomaji.single.Laws.{kept_rest, kept_marks}

ascii_kept : (s : List ℕ) → all_ascii s ≡ true → All Kept s
ascii_kept [] h = tt
ascii_kept (x ∷ s) h = (inl (ascii_low x s h), ascii_kept s (ascii_rest x s h))

pub ascii_stripped : (s : List ℕ) → all_ascii s ≡ true → (strip unicode16 s).rest ≡ s
unfolding stripped
ascii_stripped s h = kept_rest s (ascii_kept s h)

pub ascii_tone : (s : List ℕ) → all_ascii s ≡ true → (strip unicode16 s).tone ≡ unmarked_tone s
unfolding stripped
ascii_tone s h =
    ap₂ (λ (o : Tone) (ms : List ℕ). last_tone o ms) (ap (λ (u : List ℕ). unmarked_tone (encode u)) (ascii_stripped s h) ∙ ap unmarked_tone (ascii_bytes s h)) (kept_marks s (ascii_kept s h))
    ∙ last_none (unmarked_tone s)
