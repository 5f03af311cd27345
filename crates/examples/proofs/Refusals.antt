-- Examples of refusals (document 01, "Replies, by who causes them"), computed.
use mathlib.Core.Path.{◌≡◌, refl}
use mathlib.Core.List.{[], ◌∷◌}
use Rattle.ji.specs.Unicode.{unicode16}
use Rattle.ji.specs.Text.{points, point}
use Rattle.ji.specs.Utf8.{width_at, point_at, decode_from, decode, bytes}
use Rattle.ji.specs.Reply.{check_within, check_text, text_call}
use Rattle.ji.specs.declared.tone.Tone.TheVariants.{T2}
use Rattle.ji.specs.declared.lomaji.khin.Khin.TheVariants.{No}
use Rattle.khiin.specs.Syllable.{compose_call}
use Rattle.khiin.specs.Converter.{settings_fit, telex_call}
use Rattle.khiin.specs.declared.converter.ToneMode.TheVariants.{Telex}
use Rattle.examples.specs.Telex.{usual}
use Rattle.examples.specs.Refusals.{both_bad, lent_back}

both_bad_law : compose_call unicode16 (0xFF ∷ []) (bytes "漢") T2 No [] ≡ both_bad
unfolding compose_call check_text check_within decode decode_from width_at point_at
both_bad_law = refl

lent_back_law : telex_call unicode16 Telex usual (point "s") (0xFF ∷ []) (points "x") ≡ lent_back
unfolding telex_call settings_fit text_call check_text check_within decode decode_from width_at point_at
lent_back_law = refl
