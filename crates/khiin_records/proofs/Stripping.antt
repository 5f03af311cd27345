-- A text that was stripped: what stands behind khin, and what its raw input ends in.
use mathlib.Core.Path.{◌≡◌, sym, ap, ◌∙◌}
use mathlib.Core.Bool.{true}
use mathlib.Core.List.{List}
use Prim.Native.Nat.{ℕ, ◌≤◌}
use native.Mathlib.Omega.{arith}
use lib.ListN.{length, take}
use Rattle.ji.specs.Unicode.{unicode16}
use Rattle.ji.specs.Utf8.{encode}
use Rattle.ji.specs.Tone.{is_tone}
use Rattle.ji.specs.Lomaji.Strip.{strip}
use Rattle.ji.specs.Lomaji.Khin.{after_khin, khin_of, without_khin, khin_in}
use Rattle.ji.specs.declared.lomaji.khin.Khin.{Khin}
use Rattle.ji.specs.declared.lomaji.strip.StripResult.{StripResult}
use Rattle.ji.proofs.Writing.{written_take}
use Rattle.ji.proofs.lomaji.khin.Laws.{after_khin_length, after_points, khin_points}
use Rattle.ji.proofs.lomaji.strip.Answers.{Stripping}
use Rattle.khiin_records.proofs.Candidates.{tone_some}

module _ (text before after : List ℕ) (r : StripResult) (h : Stripping text before after r) where
  abbrev stripped : List ℕ
  stripped = (strip unicode16 h.points).rest

  pub toned : is_tone r.tone ≡ true
  toned = ap is_tone h.tone ∙ tone_some unicode16 h.points

  pub within : r.len.0 ≡ length (take r.len.0 after)
  within = sym (ap length (written_take h.written) ∙ h.written.size)

  module _ (rest : List ℕ) (is : rest ≡ after_khin (take r.len.0 after)) where
    pub rest_short : length rest ≤ length before
    rest_short =
        omega (arith, ap length is, after_khin_length (take r.len.0 after), ap length (written_take h.written), h.written.size, h.written.fits)

    pub rest_is : rest ≡ encode (without_khin stripped)
    rest_is = is ∙ ap after_khin (written_take h.written) ∙ after_points stripped

  pub khin_is : (khin : Khin) → khin ≡ khin_of (take r.len.0 after) → khin ≡ khin_in stripped
  khin_is khin is = is ∙ ap khin_of (written_take h.written) ∙ khin_points stripped
