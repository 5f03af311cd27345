-- Tones (document 01, "ji: strip_tone_diacritic"): "Tone numbers are 0 (None) to 9".
use Rattle.std.specs.Prelude.{Bool, true, false, ℕ}
use Rattle.ji.specs.declared.tone.Tone.{Tone}
use Rattle.ji.specs.declared.tone.Tone.TheVariants.{None, T1, T2, T3, T4, T5, T6, T7, T8, T9}

abbrev pub tone_number : Tone → ℕ
tone_number None = 0
tone_number T1 = 1
tone_number T2 = 2
tone_number T3 = 3
tone_number T4 = 4
tone_number T5 = 5
tone_number T6 = 6
tone_number T7 = 7
tone_number T8 = 8
tone_number T9 = 9

abbrev pub pick_tone : Bool → Tone → Tone → Tone
pick_tone true a b = a
pick_tone false a b = b

-- a tone other than None
abbrev pub is_tone : Tone → Bool
is_tone None = false
is_tone T1 = true
is_tone T2 = true
is_tone T3 = true
is_tone T4 = true
is_tone T5 = true
is_tone T6 = true
is_tone T7 = true
is_tone T8 = true
is_tone T9 = true
