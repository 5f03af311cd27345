-- The numbers that a caller passes (document 01, "Replies", 1), and the calls that take such numbers.
use Rattle.std.specs.Prelude.{Bool, true, false, ◌&&◌, List, [], ◌∷◌, ℕ, leb, eqb, get_or}
use Rattle.ji.specs.Unicode.{unicode16}
use Rattle.ji.specs.Reply.{Reply, refused, pick_reply}
use Rattle.ji.specs.Lomaji.Khin.{pick_khin}
use Rattle.ji.specs.declared.reply.Refusal.TheVariants.{Argument}
use Rattle.ji.specs.declared.tone.Tone.{Tone}
use Rattle.ji.specs.declared.tone.Tone.TheVariants.{None, T1, T2, T3, T4, T5, T6, T7, T8, T9}
use Rattle.ji.specs.declared.lomaji.khin.Khin.{Khin}
use Rattle.ji.specs.declared.lomaji.khin.Khin.TheVariants.{No, Yes}
use Rattle.ji.specs.declared.lomaji.keys.Kind.{Kind}
use Rattle.ji.specs.declared.lomaji.keys.Kind.TheVariants.{Detoned, Numeric, Telex}
use Rattle.khiin.specs.Syllable.{compose_call}
use Rattle.khiin_entries.specs.KeySequence.{keying_call}
use Rattle.khiin.specs.Converter.{telex_call}
use Rattle.khiin.specs.declared.converter.ToneKeys.{ToneKeys}
use Rattle.khiin.specs.declared.converter.ToneMode.{ToneMode}

-- "Tone numbers are 0 (None) to 9"
abbrev pub tone_in : List Tone → ℕ → Tone
tone_in ts n = get_or ts n None

unfoldable pub tone_of : ℕ → Tone
tone_of n = tone_in (None ∷ T1 ∷ T2 ∷ T3 ∷ T4 ∷ T5 ∷ T6 ∷ T7 ∷ T8 ∷ T9 ∷ []) n

-- "khin flag .. 0 or 1"
abbrev pub khin_of : ℕ → Khin
khin_of n = pick_khin (eqb n 0) No Yes

-- "0 (detoned), 1 (numeric), 2 (telex)"
abbrev pub pick_kind : Bool → Kind → Kind → Kind
pick_kind true a b = a
pick_kind false a b = b

abbrev pub kind_of : ℕ → Kind
kind_of n = pick_kind (eqb n 0) Detoned (pick_kind (eqb n 1) Numeric Telex)

-- "0 (numeric) or 1 (telex)"
abbrev pub pick_mode : Bool → ToneMode → ToneMode → ToneMode
pick_mode true a b = a
pick_mode false a b = b

abbrev pub mode_of : ℕ → ToneMode
mode_of n = pick_mode (eqb n 0) ToneMode.Numeric ToneMode.Telex

-- the seven keys of a setting, in the order t2 t3 t5 t6 t7 t8 t9
abbrev pub keys_of : List ℕ → ToneKeys
keys_of s =
    record {
      t2 = get_or s 0 0;
      t3 = get_or s 1 0;
      t5 = get_or s 2 0;
      t6 = get_or s 3 0;
      t7 = get_or s 4 0;
      t8 = get_or s 5 0;
      t9 = get_or s 6 0;
    }

-- "1: .. tone not 0 to 9; khin flag not 0 or 1"
abbrev pub compose_numbered : List ℕ → List ℕ → ℕ → ℕ → List ℕ → Reply
compose_numbered raw_input body tone khin buffer =
    pick_reply (leb tone 9 && leb khin 1) (compose_call unicode16 raw_input body (tone_of tone) (khin_of khin) buffer) (refused Argument buffer)

-- "1: .. kind not 0 (detoned), 1 (numeric), 2 (telex)"
abbrev pub keying_numbered : List ℕ → ℕ → ℕ → List ℕ → Reply
keying_numbered entry kind position buffer =
    pick_reply (leb kind 2) (keying_call unicode16 entry (kind_of kind) position buffer) (refused Argument buffer)

-- "1: mode not 0 (numeric) or 1 (telex)"; the key and the settings are the telex step's own to check
abbrev pub telex_numbered : List ℕ → ℕ → ℕ → List ℕ → List ℕ → Reply
telex_numbered text key mode keys buffer =
    pick_reply (leb mode 1) (telex_call unicode16 (mode_of mode) (keys_of keys) key text buffer) (refused Argument buffer)
