-- The quick way to strip a text, in one walk: what holds while it goes on, and what it gives.
use Rattle.std.specs.Prelude.{◌≡◌, true, List, [], ◌∷◌, ◌++◌, ℕ, ◌<◌, ◌≤◌, ◌⊎◌}
use Rattle.ucd.specs.Table.{member, decomposition, combining_class}
use Rattle.ucd.specs.Unicode16.{unicode16}
use Rattle.ji.specs.Written.{Written}
use Rattle.ji.specs.Utf8.{decode, encode}
use Rattle.ji.specs.Nfd.{Ordered, nfd}
use Rattle.ji.specs.Reply.{good, check_points}
use Rattle.ji.specs.Lomaji.Strip.{mark_tone, is_tone_mark, without_marks, dropped_marks, last_tone}
use Rattle.ji.specs.declared.tone.Tone.TheVariants.{None}
use Rattle.ji.specs.declared.lomaji.quick.MarkedLetter.{MarkedLetter}
use Rattle.ji.specs.declared.lomaji.quick.Marks.{Marks}
use Rattle.std.specs.Prelude.{Option, Some}
use Rattle.ji.specs.declared.tone.Tone.{Tone}
use Rattle.ji.specs.declared.unicode.ByteLen.{ByteLen}

-- c, of the table, decomposes to this ASCII character and the mark of this tone
abbrev pub IsLetter : ℕ → MarkedLetter → Type 0
IsLetter c letter =
    (mark : ℕ) × (decomposition unicode16 c ≡ letter.ascii ∷ mark ∷ []) × (letter.ascii < 0x80) × (is_tone_mark mark ≡ true) × (mark_tone mark ≡ letter.tone) × (member unicode16 c ≡ true)

-- the code points s, which decompose no further, are stripped: n bytes are written, and this is known of the marks. While they are sorted, the rest is in order, and stays so with any
-- code point behind it that is a starter or whose class is not below that of the last one
pub record Stripping (before after : List ℕ) (n : ℕ) (marks : Marks) (s : List ℕ) : Type 0 where
  pub written : Written before after n (encode (without_marks s))
  pub tone : marks.tone ≡ last_tone None (dropped_marks s)
  pub order : marks.sorted ≡ true → (c : ℕ) → (combining_class unicode16 c ≡ 0) ⊎ (marks.class ≤ combining_class unicode16 c) → Ordered unicode16 (without_marks s ++ (c ∷ []))

-- a step takes the code points u, whatever was taken before: from n bytes to m, and from one state of the marks to another
abbrev pub Further : ℕ → Marks → ℕ → Marks → List ℕ → List ℕ → List ℕ → Type 0
Further n p m q entry exit u = (before s : List ℕ) → Stripping before entry n p s → Stripping before exit m q (s ++ u)

-- the text is good, and the buffer holds the bytes of its NFD without the marks
abbrev pub Walked : List ℕ → List ℕ → List ℕ → Option (ByteLen × Tone) → Type 0
Walked text before after (Some walk) =
    (u : List ℕ) × (check_points unicode16 (decode text) ≡ good u) × Written before after walk.0.0 (encode (without_marks (nfd unicode16 u)))
    × (walk.1 ≡ last_tone None (dropped_marks (nfd unicode16 u)))
Walked text before after _ = Unit {0}
