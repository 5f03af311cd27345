-- The text of a syllable says what its onset, rime, case and tone are. So those that the grammar counts are as many different syllables.
use mathlib.Core.Path.{◌≡◌, refl, sym, ap, ◌∙◌}
use mathlib.Core.Bool.{Bool, true, false, ◌&&◌, ◌||◌, beq}
use mathlib.Core.List.Memᴰ
use mathlib.Core.List.{List, [], ◌∷◌, ◌++◌, map, append_cancel_left, Memᴰ}
use mathlib.Core.Logic.{◌⊎◌, inl, inr}
use Prim.Native.Nat.{ℕ}
use lib.Dec.{T}
use lib.ListN.{length, drop, get_or}
use lib.Seq.{drop-append_seam}
use Rattle.ucd.proofs.Tests.{both_left, both_right}
use Rattle.ji.specs.Unicode.{unicode16, same}
use Rattle.ji.specs.Text.{point, within, lower, begins, last}
use Rattle.ji.specs.Lomaji.Strip.{Stripped, strip}
use Rattle.ji.proofs.Bools.{or_yes}
use Rattle.ji.proofs.text.Laws.{begins_own}
use Rattle.ji.proofs.unicode.Bytes.{same_equal, same_itself}
use Rattle.grammar.specs.WellFormed.{Texts, onsets, rimes, cased, WellFormed, unmarked, text}
use Rattle.sweep.proofs.Tests.{each, each_passes, beq_equal, case_in}
use Rattle.sweep.proofs.Syllables.{syllable_text}

-- ── the test
abbrev choose : Bool → Bool → Bool → Bool
choose true a b = a
choose false a b = b

abbrev is_one_of : Texts → List ℕ → Bool
is_one_of [] s = false
is_one_of (x ∷ xs) s = same x s || is_one_of xs s

-- a text is this onset and a rime
abbrev reads : List ℕ → List ℕ → Bool
reads s onset = let rest : Bool = is_one_of rimes (drop (length onset) s) in choose (begins onset s) rest false

-- where it is another onset and a rime too, the two onsets are the same
abbrev reads_once : List ℕ → List ℕ → List ℕ → Bool
reads_once onset rime other = let is : Bool = same other onset in choose (reads (onset ++ rime) other) is true

-- in either case its letters say what stands there in lower case, and its first letter which case it is
abbrev shows_case : List ℕ → Bool → Bool
shows_case s capital = same (map lower (cased capital s)) s && beq (within (point "A") (point "Z") (get_or (cased capital s) 0 0)) capital

unfoldable pub is_different : List ℕ → List ℕ → Bool
is_different onset rime = each (reads_once onset rime) onsets && each (shows_case (onset ++ rime)) (false ∷ true ∷ [])

unfoldable pub are_different : List ℕ → Bool
are_different onset = each (is_different onset) rimes

every_onset : T (each are_different onsets)
unfolding same lower begins last rimes is_different are_different
every_onset = tt

-- ── what it says
is_one : (xs : Texts) (s : List ℕ) → Memᴰ s xs → is_one_of xs s ≡ true
is_one [] s m = absurd (Memᴰ.not-nil m)
is_one (x ∷ xs) s m = by (Memᴰ.cases_cons m) (λ k. is_one xs s k)
  where
    by : (s ≡ x) ⊎ Memᴰ s xs → (Memᴰ s xs → is_one_of xs s ≡ true) → (same x s || is_one_of xs s) ≡ true
    by (inl e) later = or_yes (same x s) (is_one_of xs s) (ap (same x) e ∙ same_itself x)
    by (inr k) later = ap (λ (b : Bool). same x s || b) (later k) ∙ or_true (same x s)
      where
        or_true : (b : Bool) → (b || true) ≡ true
        or_true true = refl
        or_true false = refl

reads_own : (onset rime : List ℕ) → Memᴰ rime rimes → reads (onset ++ rime) onset ≡ true
reads_own onset rime m = rw (begins_own onset rime, drop-append_seam onset rime) (is_one rimes rime m)

module _ (onset rime : List ℕ) (o : Memᴰ onset onsets) (r : Memᴰ rime rimes) where
  passes : T (is_different onset rime)
  unfolding are_different
  passes = each_passes (is_different onset) rimes (each_passes are_different onsets every_onset onset o) rime r

  one_onset : (other rest : List ℕ) → Memᴰ other onsets → Memᴰ rest rimes → onset ++ rime ≡ other ++ rest → other ≡ onset
  unfolding is_different
  one_onset other rest p q e =
      let once : T (reads_once onset rime other) = each_passes (reads_once onset rime) onsets (both_left (each (reads_once onset rime) onsets) _ passes) other p in
      let hit : reads (onset ++ rime) other ≡ true = ap (λ (s : List ℕ). reads s other) e ∙ reads_own other rest q in
      same_equal other onset (rw hit at once)

  module _ (capital : Bool) where
    shown : T (shows_case (onset ++ rime) capital)
    unfolding is_different
    shown = each_passes (shows_case (onset ++ rime)) (false ∷ true ∷ []) (both_right (each (reads_once onset rime) onsets) _ passes) capital (case_in capital)

    lower_again : map lower (cased capital (onset ++ rime)) ≡ onset ++ rime
    lower_again = same_equal _ _ (both_left (same (map lower (cased capital (onset ++ rime))) (onset ++ rime)) _ shown)

    case_again : within (point "A") (point "Z") (get_or (cased capital (onset ++ rime)) 0 0) ≡ capital
    case_again = beq_equal _ _ (both_right (same (map lower (cased capital (onset ++ rime))) (onset ++ rime)) _ shown)

pub record SameParts (s r : WellFormed) : Type 0 where
  pub onset : s.onset ≡ r.onset
  pub rime : s.rime ≡ r.rime
  pub capital : s.capital ≡ r.capital
  pub tone : s.tone ≡ r.tone

pub same_parts : (s r : WellFormed) → text s ≡ text r → SameParts s r
unfolding unmarked
same_parts s r e =
    let stripped : strip unicode16 (text s) ≡ strip unicode16 (text r) = ap (strip unicode16) e in
    let rest : unmarked s ≡ unmarked r = rw ((syllable_text s).stripping, (syllable_text r).stripping) at (ap (λ (x : Stripped). x.rest) stripped) in
    let letters : s.onset ++ s.rime ≡ r.onset ++ r.rime = sym (lower_again s.onset s.rime s.onset_in s.rime_in s.capital) ∙ ap (map lower) rest ∙ lower_again r.onset r.rime r.onset_in r.rime_in r.capital in
    let onset : r.onset ≡ s.onset = one_onset s.onset s.rime s.onset_in s.rime_in r.onset r.rime r.onset_in r.rime_in letters in
    record {
      onset = sym onset;
      rime = append_cancel_left s.onset s.rime r.rime (letters ∙ ap (λ (o : List ℕ). o ++ r.rime) onset);
      capital = sym (case_again s.onset s.rime s.onset_in s.rime_in s.capital)
          ∙ ap (λ (u : List ℕ). within (point "A") (point "Z") (get_or u 0 0)) rest
          ∙ case_again r.onset r.rime r.onset_in r.rime_in r.capital;
      tone = rw ((syllable_text s).stripping, (syllable_text r).stripping) at (ap (λ (x : Stripped). x.tone) stripped);
    }
