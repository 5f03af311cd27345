-- What the calls say of a piece and its syllable.
use mathlib.Core.Path.{◌≡◌, refl, sym, ap, ap₂, ◌∙◌, subst}
use mathlib.Core.Bool.{Bool, true, false, not, ◌&&◌}
use mathlib.Core.List.{List, [], ◌∷◌, ◌++◌}
use mathlib.Core.Option.{Option, some}
use Prim.Native.Nat.{ℕ, ◌+◌, ◌-◌, ◌≤◌, ◌<◌}
use native.Mathlib.Omega.{arith}
use borrow.Author.Tests.{le-leb}
use lib.Dec.{T}
use lib.ListN.{length, take, drop, length-append, take-append-drop}
use lib.Seq.{take-length, take-append_seam, get_or_at, take_at}
use Rattle.ji.specs.Unicode.{unicode16, pass, passes, full, listed}
use Rattle.ji.specs.Text.{last, but_last, all_ascii}
use Rattle.ji.specs.Utf8.{encode}
use Rattle.ji.specs.Nfd.{order, nfd}
use Rattle.ji.specs.Tone.{tone_number, is_tone, pick_tone}
use Rattle.ji.specs.Reply.{Reply, refused, answered, pick_reply, placed, Checked, good, check_text}
use Rattle.ji.specs.Lomaji.Strip.{without_marks, Stripped, stripped, strip}
use Rattle.ji.specs.Lomaji.Khin.{without_khin, khin_in}
use Rattle.ji.specs.Lomaji.ToneLetter.{tone_letter}
use Rattle.ji.specs.declared.reply.Refusal.TheVariants.{Argument, NoRoom}
use Rattle.ji.specs.declared.tone.Tone.{Tone}
use Rattle.ji.specs.declared.tone.Tone.TheVariants.{None, T1, T2, T3, T4, T5, T6, T7, T8, T9}
use Rattle.ji.specs.declared.lomaji.khin.Khin.TheVariants.{No}
use Rattle.ji.specs.declared.lomaji.keys.Form.{Form}
use Rattle.ji.specs.declared.lomaji.keys.Form.TheVariants.{Plain, Oo}
use Rattle.ji.proofs.Bools.{text_yes}
use Rattle.ji.proofs.Replies.{check_within_law}
use Rattle.ji.proofs.unicode.Ascii.{ascii_bytes, ascii_good}
use Rattle.ji.proofs.unicode.Bytes.{same_equal}
use Rattle.ji.proofs.unicode.Checked.{check_passes}
use Rattle.khiin_records.specs.Syllable.{Syllable, raw, key_tone, from_raw, candidate, pick_syllables, candidates_of, from_composed, recorded, placed_record, check_keys, from_raw_of, from_raw_call}
use Rattle.khiin_records.specs.Alignment.{nearest, nearest_of, aligned_with, aligned, align_of, align_call, shared_prefix}
use Rattle.khiin.specs.Syllable.{encoded, mark_of, composed_at, composed_with, compose, compose_of, compose_call}
use Rattle.robinflint.specs.Arguments.{tone_of, compose_numbered}
use Rattle.grammar.specs.WellFormed.{WellFormed, stopped, tones_of, unmarked, with_mark, text}
use Rattle.sweep.proofs.Tests.{each_holds}
use Rattle.sweep.proofs.Unmarked.{vowel_of}
use Rattle.sweep.proofs.Syllables.{syllable_text, unmarked_sound}
use Rattle.roundtrip.specs.Demand3.{syllable_bytes, output, composed, Returns}
use Rattle.roundtrip.proofs.Keys.{digit_of, tone_most, bare, numbered, bare_ascii, numbered_ascii, numbered_short}
use Rattle.roundtrip.proofs.Alignment.{HasAll, shared_itself, longer_earlier, longer_later, aligned_all}

-- ── tones
stop_tone : (b : Bool) → is_tone (pick_tone b T4 T1) ≡ true
stop_tone true = refl
stop_tone false = refl

some_tone : (s : WellFormed) → is_tone s.tone ≡ true
some_tone s =
    each_holds (λ t. is_tone t ≡ true) (tones_of s.rime) (stop_tone (stopped s.rime), (refl, (refl, (refl, (refl, (refl, (refl, (refl, tt)))))))) s.tone s.tone_in

key_tone_law : (tone : Tone) → key_tone (digit_of tone) ≡ tone
unfolding key_tone
key_tone_law None = refl
key_tone_law T1 = refl
key_tone_law T2 = refl
key_tone_law T3 = refl
key_tone_law T4 = refl
key_tone_law T5 = refl
key_tone_law T6 = refl
key_tone_law T7 = refl
key_tone_law T8 = refl
key_tone_law T9 = refl

tone_of_law : (tone : Tone) → tone_of (tone_number tone) ≡ tone
unfolding tone_of
tone_of_law None = refl
tone_of_law T1 = refl
tone_of_law T2 = refl
tone_of_law T3 = refl
tone_of_law T4 = refl
tone_of_law T5 = refl
tone_of_law T6 = refl
tone_of_law T7 = refl
tone_of_law T8 = refl
tone_of_law T9 = refl

-- ── keys and one more behind them
snoc_length : (s : List ℕ) (d : ℕ) → length s ≡ length (s ++ (d ∷ [])) - 1
snoc_length s d = omega (arith, length-append s (d ∷ []))

pub last_snoc : (s : List ℕ) (d : ℕ) → last (s ++ (d ∷ [])) ≡ d
unfolding last
last_snoc s d = get_or_at s d [] 0 (length (s ++ (d ∷ [])) - 1) (snoc_length s d)

but_last_snoc : (s : List ℕ) (d : ℕ) → but_last 1 (s ++ (d ∷ [])) ≡ s
unfolding but_last
but_last_snoc s d = take_at s (d ∷ []) (length (s ++ (d ∷ [])) - 1) (snoc_length s d)

-- ── compose
with_mark_law : (raw s mark : List ℕ) (k : ℕ) → tone_letter s ≡ some k → composed_with unicode16 raw s mark ≡ encoded unicode16 (with_mark s mark (tone_letter s))
with_mark_law raw s [] k e = ap (encoded unicode16) (sym (take-append-drop (k + 1) s) ∙ ap (with_mark s []) (sym e))
with_mark_law raw s (m ∷ ms) k e = ap (composed_at unicode16 raw s (m ∷ ms)) e ∙ ap (λ (o : Option ℕ). encoded unicode16 (with_mark s (m ∷ ms) o)) (sym e)

pub compose_text : (raw : List ℕ) (s : WellFormed) (form : Form) → compose unicode16 raw (bare s form) s.tone No ≡ text s
unfolding compose text
compose_text raw s form =
    ap (λ (u : List ℕ). composed_with unicode16 raw u (mark_of s.tone)) ((unmarked_sound s).spelling form)
    ∙ with_mark_law raw (unmarked s) (mark_of s.tone) (unmarked_sound s).place (unmarked_sound s).letter

-- ── from_composed
some_points : (w : List ℕ) → 0 < length (strip unicode16 w).rest → 0 < length w
unfolding stripped without_marks nfd order full passes pass unicode16
some_points [] h = h
some_points (c ∷ w) h = omega arith

candidates_of_law : (w : List ℕ) → 0 < length w → from_composed unicode16 w ≡ candidates_of (strip unicode16 w).tone (khin_in (strip unicode16 w).rest) (without_khin (strip unicode16 w).rest)
unfolding from_composed
candidates_of_law [] h = absurd (omega arith)
candidates_of_law (c ∷ w) h = refl

module _ (s : WellFormed) where
  candidates_are : from_composed unicode16 (text s) ≡ candidates_of s.tone No (unmarked s)
  candidates_are =
      let some : 0 < length (strip unicode16 (text s)).rest = rw (syllable_text s).stripping (omega (arith, (unmarked_sound s).inside)) in
      candidates_of_law (text s) (some_points (text s) some)
      ∙ ap (λ (r : Stripped). candidates_of r.tone (khin_in r.rest) (without_khin r.rest)) (syllable_text s).stripping
      ∙ ap₂ (candidates_of s.tone) (unmarked_sound s).khin (unmarked_sound s).rest

  abbrev candidate_in : Form → Syllable
  candidate_in form = candidate s.tone No (unmarked s) (vowel_of form)

  candidate_raw : (form : Form) → raw (candidate_in form) ≡ numbered s form
  candidate_raw form =
      ap₂ (λ (u v : List ℕ). u ++ (v ++ [])) ((unmarked_sound s).candidate form) (text_yes (is_tone s.tone) (digit_of s.tone ∷ []) [] (some_tone s))

  has_all : (form : Form) → HasAll (numbered s form) (candidate_in form)
  has_all form = ap (shared_prefix (numbered s form)) (candidate_raw form) ∙ shared_itself (numbered s form)

  -- the forms of a text without 0358 are one
  one_form : listed (unmarked s) 0x0358 ≡ false → numbered s Oo ≡ numbered s Plain
  one_form e =
      ap (λ (u : List ℕ). u ++ (digit_of s.tone ∷ []))
      (sym (same_equal (bare s Plain) (bare s Oo) (subst T (sym ((unmarked_sound s).differ ∙ ap not e)) tt)))

  nearest_has_all : (form : Form) (b : Bool) → listed (unmarked s) 0x0358 ≡ b
      → HasAll (numbered s form) (nearest_of (numbered s form) (pick_syllables b (candidate_in Plain ∷ candidate_in Oo ∷ []) (candidate_in Plain ∷ [])))
  unfolding nearest
  nearest_has_all Plain true e = longer_earlier (numbered s Plain) (candidate_in Plain) (candidate_in Oo) (has_all Plain)
  nearest_has_all Oo true e = longer_later (numbered s Oo) (candidate_in Plain) (candidate_in Oo) (has_all Oo)
  nearest_has_all Plain false e = has_all Plain
  nearest_has_all Oo false e = subst (λ (p : List ℕ). HasAll p (candidate_in Plain)) (sym (one_form e)) (has_all Plain)

  pub aligned_whole : (form : Form) → aligned unicode16 (numbered s form) (text s) ≡ length (numbered s form)
  unfolding aligned
  aligned_whole form =
      let p = numbered s form in
      ap (λ (cs : List Syllable). aligned_with p (nearest_of p cs)) candidates_are
      ∙ aligned_all p _ (omega (arith, length-append (bare s form) (digit_of s.tone ∷ []))) (nearest_has_all form (listed (unmarked s) 0x0358) refl)

-- ── the replies
module _ (s : WellFormed) (form : Form) where
  abbrev piece : List ℕ
  piece = numbered s form

  -- the record that from_raw makes of it
  abbrev its : Syllable
  its = record { body = bare s form; keys = digit_of s.tone ∷ []; tone = s.tone; khin = No }

  pub from_raw_law : from_raw piece ≡ its
  unfolding from_raw
  from_raw_law =
      rw (but_last_snoc (bare s form) (digit_of s.tone), last_snoc (bare s form) (digit_of s.tone), key_tone_law s.tone, some_tone s)

  keys_good : check_keys piece ≡ good piece
  unfolding check_keys
  keys_good = rw (le-leb (length piece) 256 (numbered_short s form), numbered_ascii s form)

  text_good : (u : List ℕ) → all_ascii u ≡ true → length u ≤ 256 → check_text unicode16 u ≡ good u
  text_good u h k = check_within_law unicode16 u k ∙ ascii_good u h

  target_good : check_text unicode16 (syllable_bytes s) ≡ good (text s)
  unfolding check_text
  target_good = let k = (syllable_text s).short in check_passes 256 (text s) (syllable_text s).inside (omega arith)

  piece_bytes : encode piece ≡ piece
  piece_bytes = ascii_bytes piece (numbered_ascii s form)

  module _ (keys out : List ℕ) (room : length piece ≤ length keys) (fits : length (syllable_bytes s) ≤ length out) where
    read_reply : placed_record 0 (from_raw piece) keys ≡ recorded 0 its keys
    read_reply =
        ap (λ (r : Syllable). placed_record 0 r keys) from_raw_law
        ∙ ap (λ (b : Bool). pick_reply b (recorded 0 its keys) (refused NoRoom keys)) (le-leb (length (encode piece)) (length keys) (rw piece_bytes room))

    raw_reply : from_raw_call piece keys ≡ recorded 0 its keys
    unfolding from_raw_call
    raw_reply = ap (λ (c : Checked). from_raw_of c keys) keys_good ∙ read_reply

    align_reply : align_call unicode16 piece (syllable_bytes s) keys ≡ recorded 0 its keys
    unfolding align_call
    align_reply =
        ap₂ (λ (c d : Checked). align_of unicode16 c d keys) keys_good target_good
        ∙ ap (λ (n : ℕ). placed_record 0 (from_raw (take n piece)) keys) (aligned_whole s form)
        ∙ ap (λ (u : List ℕ). placed_record 0 (from_raw u) keys) (take-length piece)
        ∙ read_reply

    output_piece : output (recorded 0 its keys) ≡ piece
    output_piece = take-append_seam (encode piece) (drop (length (encode piece)) keys) ∙ piece_bytes

    output_body : take (length (encode (bare s form))) piece ≡ bare s form
    output_body = rw (ascii_bytes (bare s form) (bare_ascii s form)) (take-append_seam (bare s form) (digit_of s.tone ∷ []))

    compose_reply : compose_numbered piece (bare s form) (tone_number s.tone) 0 out ≡ answered 0 (syllable_bytes s) out
    unfolding compose_call
    compose_reply =
        let short : length (bare s form) ≤ 256 = omega (arith, (unmarked_sound s).short_keys form) in
        ap (λ (b : Bool). pick_reply (b && true) (compose_call unicode16 piece (bare s form) (tone_of (tone_number s.tone)) No out) (refused Argument out)) (le-leb (tone_number s.tone) 9 (tone_most s.tone))
        ∙ ap (λ (t : Tone). compose_call unicode16 piece (bare s form) t No out) (tone_of_law s.tone)
        ∙ ap₂ (λ (c d : Checked). compose_of unicode16 s.tone No c d out) (text_good piece (numbered_ascii s form) (numbered_short s form)) (text_good (bare s form) (bare_ascii s form) short)
        ∙ ap (λ (u : List ℕ). placed 0 (encode u) out) (compose_text piece s form)
        ∙ ap (λ (b : Bool). pick_reply b (answered 0 (syllable_bytes s) out) (refused NoRoom out)) (le-leb (length (syllable_bytes s)) (length out) fits)

    pub returns : Returns piece s keys out
    returns =
        record {
          reads = ap (λ (r : Reply). r.code) raw_reply;
          composes =
              ap (λ (r : Reply). composed r out) raw_reply
              ∙ ap (λ (u : List ℕ). compose_numbered u (take (length (encode (bare s form))) u) (tone_number s.tone) 0 out) output_piece
              ∙ ap (λ (u : List ℕ). compose_numbered piece u (tone_number s.tone) 0 out) output_body
              ∙ compose_reply;
          aligns = ap (λ (r : Reply). r.code) align_reply;
          whole = ap (λ (r : Reply). r.length) align_reply ∙ ap length piece_bytes;
          digit = last_snoc (bare s form) (digit_of s.tone);
        }
