-- The telex step (document 01, "khiin: the telex step"): `convert_to_telex`, its text only. Each branch is a definition, in the order of 003.
use Rattle.std.specs.Prelude.{Bool, not, ◌&&◌, ◌||◌, List, [], ◌∷◌, ◌++◌, map, ℕ, ◌-◌, eqb, length, drop}
use Rattle.ji.specs.Unicode.{Table, pick_text, pick_number, listed, same}
use Rattle.ji.specs.Text.{points, marked, point, within, lower, but_last, last}
use Rattle.ji.specs.Tone.{tone_number, pick_tone, is_tone}
use Rattle.ji.specs.Reply.{Reply, refused, pick_reply, text_call}
use Rattle.ji.specs.Lomaji.Strip.{tone_in, strip}
use Rattle.ji.specs.Lomaji.ToneLetter.{has_tone_letter}
use Rattle.ji.specs.Lomaji.Keys.{respell}
use Rattle.ji.specs.declared.reply.Refusal.TheVariants.{Argument}
use Rattle.ji.specs.declared.tone.Tone.{Tone}
use Rattle.ji.specs.declared.tone.Tone.TheVariants.{None, T1, T2, T3, T4, T5, T6, T7, T8, T9}
use Rattle.ji.specs.declared.lomaji.khin.Khin.TheVariants.{No}
use Rattle.khiin.specs.Syllable.{compose}
use Rattle.khiin.specs.declared.converter.ToneKeys.{ToneKeys}
use Rattle.khiin.specs.declared.converter.ToneMode.{ToneMode}
use Rattle.khiin.specs.declared.converter.ToneMode.TheVariants.{Numeric, Telex}

-- "mode 0 fixes them to 2 3 5 6 7 8 9"
abbrev pub numeric_keys : ToneKeys
numeric_keys =
    record { t2 = point "2"; t3 = point "3"; t5 = point "5"; t6 = point "6"; t7 = point "7"; t8 = point "8"; t9 = point "9" }

abbrev pub keys_in : ToneMode → ToneKeys → ToneKeys
keys_in Numeric k = numeric_keys
keys_in Telex k = k

-- "tone keys are tried t2 t3 t5 t6 t7 t9 t8"
abbrev pub tried : ToneKeys → List (ℕ × Tone)
tried k = (k.t2, T2) ∷ (k.t3, T3) ∷ (k.t5, T5) ∷ (k.t6, T6) ∷ (k.t7, T7) ∷ (k.t9, T9) ∷ (k.t8, T8) ∷ []

-- `char_to_tone`: the tone of a key, None of any other
unfoldable pub key_to_tone : ToneKeys → ℕ → Tone
key_to_tone k key = tone_in (tried k) key

-- `tone_to_char`: the key of a tone, and a space where it has none
abbrev pub tone_to_key : ToneKeys → Tone → ℕ
tone_to_key k None = point " "
tone_to_key k T1 = point " "
tone_to_key k T2 = k.t2
tone_to_key k T3 = k.t3
tone_to_key k T4 = point " "
tone_to_key k T5 = k.t5
tone_to_key k T6 = k.t6
tone_to_key k T7 = k.t7
tone_to_key k T8 = k.t8
tone_to_key k T9 = k.t9

-- `get_shared_t8_tone`: the tone that the key of tone 8 has first, T8 where it is that tone's alone
unfoldable pub shared_tone : ToneKeys → Tone
shared_tone k = key_to_tone k k.t8

-- a text ends in this one
unfoldable pub ends_with : List ℕ → List ℕ → Bool
ends_with e s = same (drop (length s - length e) s) e

-- ── the branches; `given` is the text, `rest` its stripped text, and branches test the first and edit the second
-- the key of the text's tone is typed again
unfoldable pub repeats_tone : ToneKeys → ℕ → Tone → Bool
repeats_tone k key tone = not (eqb (tone_to_key k tone) (point " ")) && eqb (tone_to_key k tone) (lower key)

-- n behind ⁿ or ᴺ
unfoldable pub opens_nasal : ℕ → List ℕ → Bool
opens_nasal key given = eqb (lower key) (point "n") && (ends_with (points "ⁿ") given || ends_with (points "ᴺ") given)

-- u or o behind o+0358
unfoldable pub opens_dot : ℕ → List ℕ → Bool
opens_dot key given =
    (eqb (lower key) (point "u") || eqb (lower key) (point "o")) && (ends_with (marked "o" 0x0358) given || ends_with (marked "O" 0x0358) given)

-- o behind o+0324
unfoldable pub opens_o : ℕ → List ℕ → Bool
opens_o key given = eqb (lower key) (point "o") && (ends_with (marked "o" 0x0324) given || ends_with (marked "O" 0x0324) given)

-- u behind ṳ: "only the single code points 1E73 and 1E72 take the ṳ branch"
unfoldable pub opens_u : ℕ → List ℕ → Bool
opens_u key given = eqb (lower key) (point "u") && (ends_with (0x1E73 ∷ []) given || ends_with (0x1E72 ∷ []) given)

-- e, in the case of the key
abbrev pub e_like : ℕ → ℕ
e_like key = pick_number (eqb (lower key) key) (point "e") (point "E")

-- "key 20 is never put into the body"
abbrev pub grown : ℕ → List ℕ → List ℕ
grown key rest = pick_text (eqb key (point " ")) rest (rest ++ (key ∷ []))

-- the body ends in p, t, k or h, whatever stands behind it of ⁿ, ᴺ and nn
abbrev pub nasal_signs : List (List ℕ × List ℕ)
nasal_signs = (points "ⁿ", []) ∷ (points "ᴺ", []) ∷ (points "nn", []) ∷ []

unfoldable pub ends_in_stop : List ℕ → Bool
ends_in_stop body = listed (points "ptkh") (last (respell nasal_signs (map lower body)))

-- the tone of a body whose tone has the key `tone_key`: the key of tone 8 may be shared
unfoldable pub shared_or : ToneKeys → ℕ → Tone → List ℕ → Tone
shared_or k tone_key tone body = pick_tone (eqb tone_key k.t8) (pick_tone (ends_in_stop body) T8 (shared_tone k)) tone

-- a tone key: the body stays, and takes that tone
abbrev pub toned : Table → ToneKeys → ℕ → List ℕ → List ℕ
toned t k key rest = compose t (rest ++ (key ∷ [])) rest (shared_or k (lower key) (key_to_tone k (lower key)) rest) No

-- any other key joins the body, which keeps its tone
abbrev pub joined : Table → ToneKeys → ℕ → Tone → List ℕ → List ℕ
joined t k key tone rest = compose t (rest ++ (key ∷ [])) (grown key rest) (shared_or k (tone_to_key k tone) tone (grown key rest)) No

-- in a text of tone 1 without a tone letter each key joins the body, and there is no tone
abbrev pub bare : Table → ℕ → List ℕ → List ℕ
bare t key rest = compose t (rest ++ (key ∷ [])) (grown key rest) None No

abbrev pub is_first : Tone → Bool
is_first tone = eqb (tone_number tone) 1

unfoldable pub composed_step : Table → ToneKeys → ℕ → List ℕ → Tone → List ℕ → List ℕ
composed_step t k key given tone rest =
    pick_text (not (is_first tone) || has_tone_letter t given)
    (pick_text (is_tone (key_to_tone k (lower key))) (toned t k key rest) (joined t k key tone rest))
    (bare t key rest)

unfoldable pub step : Table → ToneKeys → ℕ → List ℕ → Tone → List ℕ → List ℕ
step t k key given tone rest =
    pick_text (repeats_tone k key tone) (rest ++ (key ∷ []))
    (pick_text (opens_nasal key given) (but_last 1 rest ++ (key ∷ []))
    (pick_text (opens_dot key given) (but_last 1 rest ++ (key ∷ []))
    (pick_text (opens_o key given) (but_last 2 rest ++ (e_like key ∷ key ∷ []))
    (pick_text (opens_u key given) (but_last 2 rest ++ (e_like key ∷ key ∷ []))
    (composed_step t k key given tone rest)))))

-- `convert_to_telex`
unfoldable pub telex : Table → ToneMode → ToneKeys → ℕ → List ℕ → List ℕ
telex t mode k key given = step t (keys_in mode k) key given (strip t given).tone (strip t given).rest

-- ── the call
-- "1: .. telex key outside 20–7E; tone-key setting outside 21–7E, in mode 0 too"
abbrev pub is_setting : ℕ → Bool
is_setting x = within 0x21 0x7E x

unfoldable pub settings_fit : ToneKeys → Bool
settings_fit k = is_setting k.t2 && is_setting k.t3 && is_setting k.t5 && is_setting k.t6 && is_setting k.t7 && is_setting k.t8 && is_setting k.t9

unfoldable pub telex_call : Table → ToneMode → ToneKeys → ℕ → List ℕ → List ℕ → Reply
telex_call t mode k key text buffer =
    pick_reply (within 0x20 0x7E key && settings_fit k) (text_call t (telex t mode k key) text buffer) (refused Argument buffer)
