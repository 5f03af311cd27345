use mathlib.Core.Path.{◌≡◌, ◌∙◌, subst}
use mathlib.Core.List.{List}
use Prim.Native.Nat.{ℕ, ◌≤◌}
use lib.ListN.{length, take}
use Rattle.ucd.specs.Unicode16.{unicode16}
use Rattle.ji.specs.Utf8.{encode}
use Rattle.ji.specs.Nfd.{nfd}
use Rattle.ji.specs.Tone.{tone_number}
use Rattle.ji.specs.Reply.{placed}
use Rattle.ji.specs.Lomaji.Strip.{without_marks, tone_or, unmarked_tone, strip_call}
use Rattle.ji.specs.Lomaji.Quick.{Walked}
use Rattle.ji.specs.declared.tone.Tone.{Tone}
use Rattle.ji.specs.declared.unicode.ByteLen.{ByteLen}
use Rattle.std.specs.Prelude.{Option, Some}
use Rattle.ji.proofs.Writing.{written_take}
use Rattle.ji.proofs.lomaji.strip.Laws.{strip_told}
use Rattle.ji.proofs.lomaji.strip.strip_with.Goals as goal

-- what the walk says of the answer that it gave
told : (s before after : List ℕ) (answer x : Option (ByteLen × Tone)) → answer ≡ x → Walked s before after answer → Walked s before after x
told s before after answer x e h = subst (Walked s before after) e h

-- the bytes that it wrote, and the tone, are the stripped text's
module _ (s before after : List ℕ) (len : ByteLen) (last : Tone) (h : Walked s before after (Some (len, last))) (short : length s ≤ 256) (out : List ℕ) where
  abbrev rest : List ℕ
  rest = take len.0 after

  front : rest ≡ encode (without_marks (nfd unicode16 h.0))
  front = written_take h.2

  whole : placed (tone_number (tone_or last (unmarked_tone rest))) rest out ≡ strip_call unicode16 s out
  whole = strip_told unicode16 s out h.0 h.1 short last rest h.3 front

pub returns-in-Some : goal.returns-in-Some
returns-in-Some g c =
    let w = c.walk in
    c.place_bytes.ensures ∙ whole c.args.text.now _ w.new.out _ _ (told _ _ _ _ _ c.in-Some.is w.ensures) c.requires.0 c.args.out.now
