-- `from_conversion_alignment` (document 01, "khiin: Syllable"): how many of the raw keys were typed for the syllable `target`.
use Rattle.std.specs.Prelude.{Bool, ◌&&◌, List, [], ◌∷◌, ℕ, suc, ◌+◌, leb, eqb, take, drop}
use Rattle.ji.specs.Unicode.{Table, pick_number, same}
use Rattle.ji.specs.Text.{lower}
use Rattle.ji.specs.Tone.{is_tone}
use Rattle.ji.specs.Reply.{Reply, refused, Checked, good, bad, check_text}
use Rattle.khiin_records.specs.Syllable.{Syllable, pick_syllable, raw, default, from_raw, tone_digit, from_composed, placed_record, check_keys}

-- how many keys two texts share at their beginning, "ASCII case ignored"
unfoldable pub shared_prefix : List ℕ → List ℕ → ℕ
shared_prefix [] s = 0
shared_prefix (k ∷ keys) [] = 0
shared_prefix (k ∷ keys) (c ∷ s) = pick_number (eqb (lower k) (lower c)) (suc (shared_prefix keys s)) 0

-- "the longer shared prefix .., ties to the later candidate"
unfoldable pub longer : List ℕ → Syllable → Syllable → Syllable
longer keys earlier later = pick_syllable (leb (shared_prefix keys (raw earlier)) (shared_prefix keys (raw later))) later earlier

unfoldable pub nearest : List ℕ → Syllable → List Syllable → Syllable
nearest keys first [] = first
nearest keys first (s ∷ ss) = nearest keys (longer keys first s) ss

abbrev pub nearest_of : List ℕ → List Syllable → Syllable
nearest_of keys [] = default
nearest_of keys (s ∷ ss) = nearest keys s ss

-- "If the candidate's tone is not None and the raw key at index prefix + 1 (from 0) is that tone's digit, the length grows by one"
unfoldable pub grows : List ℕ → ℕ → Syllable → Bool
grows keys prefix s = is_tone s.tone && same (take 1 (drop (prefix + 1) keys)) (tone_digit s.tone)

-- "0 is "no alignment""
unfoldable pub aligned_with : List ℕ → Syllable → ℕ
aligned_with keys s =
    let prefix : ℕ = shared_prefix keys (raw s) in
    pick_number (eqb prefix 0) 0 (pick_number (grows keys prefix s) (prefix + 1) prefix)

unfoldable pub aligned : Table → List ℕ → List ℕ → ℕ
aligned t keys target = aligned_with keys (nearest_of keys (from_composed t target))

-- ── the call
-- "The answer is length and `from_raw` of that many keys"; "alignment [takes] the raw keys, then the target"
abbrev pub align_of : Table → Checked → Checked → List ℕ → Reply
align_of t (good keys) (good target) buffer = placed_record 0 (from_raw (take (aligned t keys target) keys)) buffer
align_of t (good keys) (bad why) buffer = refused why buffer
align_of t (bad why) target buffer = refused why buffer

unfoldable pub align_call : Table → List ℕ → List ℕ → List ℕ → Reply
align_call t keys target buffer = align_of t (check_keys keys) (check_text t target) buffer
