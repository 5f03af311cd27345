-- The telex step as the code takes it: which branch a key takes, and what each branch makes of the stripped text alone.
use Rattle.std.specs.Prelude.{Bool, true, false, not, ◌&&◌, ◌||◌, List, [], ◌∷◌, ◌++◌, ◌≡◌, ℕ, ◌<◌, eqb, length, take}
use Rattle.ji.specs.Unicode.{Table, unicode16, members, pick_text}
use Rattle.ji.specs.Utf8.{encode}
use Rattle.ji.specs.Text.{point, lower, but_last}
use Rattle.ji.specs.Tone.{is_tone}
use Rattle.ji.specs.Lomaji.Strip.{strip}
use Rattle.ji.specs.Lomaji.ToneLetter.{tone_letter, is_some}
use Rattle.ji.specs.declared.tone.Tone.{Tone}
use Rattle.khiin.specs.Converter.{key_to_tone, repeats_tone, opens_nasal, opens_dot, opens_o, opens_u, e_like, is_first, toned, joined, bare, step}
use Rattle.khiin.specs.declared.converter.ToneKeys.{ToneKeys}
use Rattle.khiin.specs.declared.converter.Edit.{Edit}
use Rattle.khiin.specs.declared.converter.Edit.TheVariants.{Behind, Last, LastTwo, Compose}

abbrev pub pick_edit : Bool → Edit → Edit → Edit
pick_edit true a b = a
pick_edit false a b = b

-- ── which branch it is, of those that the text as given decides
-- by numbers: the key in lower case, the last code point but one in lower case, and the last
abbrev pub nasal_by : ℕ → ℕ → Bool
nasal_by low end = eqb low (point "n") && (eqb end (point "ⁿ") || eqb end (point "ᴺ"))

abbrev pub dot_by : ℕ → ℕ → ℕ → Bool
dot_by low before end = (eqb low (point "u") || eqb low (point "o")) && (eqb end 0x0358 && eqb before (point "o"))

abbrev pub o_by : ℕ → ℕ → ℕ → Bool
o_by low before end = eqb low (point "o") && (eqb end 0x0324 && eqb before (point "o"))

abbrev pub u_by : ℕ → ℕ → Bool
u_by low end = eqb low (point "u") && (eqb end 0x1E73 || eqb end 0x1E72)

unfoldable pub edit_by : ℕ → ℕ → ℕ → Edit
edit_by low before end =
    pick_edit (nasal_by low end || dot_by low before end) Last (pick_edit (o_by low before end || u_by low end) LastTwo Compose)

-- by the key and the text
unfoldable pub edit_at : ℕ → List ℕ → Edit
edit_at key given =
    pick_edit (opens_nasal key given || opens_dot key given) Last (pick_edit (opens_o key given || opens_u key given) LastTwo Compose)

-- of all: a repeated tone key goes before them
unfoldable pub edit_of : ToneKeys → ℕ → Tone → List ℕ → Edit
edit_of k key tone given = pick_edit (repeats_tone k key tone) Behind (edit_at key given)

-- ── what it makes of the stripped text
unfoldable pub composed_of : Table → ToneKeys → ℕ → Tone → List ℕ → List ℕ
composed_of t k key tone rest =
    pick_text (not (is_first tone) || is_some (tone_letter rest))
    (pick_text (is_tone (key_to_tone k (lower key))) (toned t k key rest) (joined t k key tone rest))
    (bare t key rest)

abbrev pub edited : Table → ToneKeys → Edit → ℕ → Tone → List ℕ → List ℕ
edited t k Behind key _ rest = rest ++ (key ∷ [])
edited t k Last key _ rest = but_last 1 rest ++ (key ∷ [])
edited t k LastTwo key _ rest = but_last 2 rest ++ (e_like key ∷ key ∷ [])
edited t k Compose key tone rest = composed_of t k key tone rest

-- the step with the keys that the mode leaves
unfoldable pub step_of : Table → ToneKeys → ℕ → List ℕ → List ℕ
step_of t k key given = step t k key given (strip t given).tone (strip t given).rest

-- a stripped text stands in the first n bytes of a buffer
pub record RestIn (bytes : List ℕ) (n : ℕ) : Type 0 where
  pub rest : List ℕ
  pub inside : members unicode16 rest ≡ true
  pub few : length rest < 400
  pub written : take n bytes ≡ encode rest
