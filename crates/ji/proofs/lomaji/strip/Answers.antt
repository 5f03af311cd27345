-- What the answer of `strip_tone_diacritic` says of a text and of the buffer, for the crates above, and what a stripped text is like: it is a text
-- of the table, and has at most three code points for each two bytes of the text.
use mathlib.Core.Path.{◌≡◌, refl, sym, ap, ◌∙◌}
use mathlib.Core.Bool.{Bool, true, false}
use mathlib.Core.List.{List, [], ◌∷◌, ◌++◌}
use Prim.Native.Nat.{ℕ, ◌*◌, ◌≤◌}
use native.Mathlib.Omega.{arith}
use borrow.Author.Tests.{leb-true, leb-false}
use lib.Dec.{T, leb}
use lib.ListN.{length, drop, get_or, length-append}
use Rattle.ucd.specs.Table.{Table, All, member}
use Rattle.ucd.specs.Full.{full}
use Rattle.ucd.specs.Unicode16.{unicode16}
use Rattle.ucd.proofs.Tests.{true_passes, passes_true}
use Rattle.ji.specs.Written.{Written}
use Rattle.ji.specs.Utf8.{bytes_of, encode}
use Rattle.ji.specs.Unicode.{members}
use Rattle.ji.specs.Nfd.{nfd}
use Rattle.ji.specs.Tone.{tone_number}
use Rattle.ji.specs.Reply.{Reply, refusal_number, refused, answered, pick_reply, Checked, good, bad, check_text}
use Rattle.ji.specs.Lomaji.Strip.{is_tone_mark, without_marks, stripped, strip, strip_of, strip_call, strip_reply}
use Rattle.ji.specs.declared.reply.Refusal.{Refusal}
use Rattle.ji.specs.declared.reply.Refusal.TheVariants.{Argument, TooLong, IllFormed, OutsideTable, Parts, Position, NoRoom}
use Rattle.ji.specs.declared.tone.Tone.{Tone}
use Rattle.ji.specs.declared.tone.Tone.TheVariants.{None, T1, T2, T3, T4, T5, T6, T7, T8, T9}
use Rattle.ji.specs.declared.lomaji.strip.StripResult.{StripResult}
use Rattle.ji.proofs.Bools.{either, and_yes}
use Rattle.ji.proofs.Replies.{refusal_some}
use Rattle.ji.proofs.Closure.{Inside, nfd_inside_16}
use Rattle.ji.proofs.Decomposition.{full_nil, full_cons}
use Rattle.ji.proofs.Order.{order_length}
use Rattle.ji.proofs.unicode.Laws.{members_all, spread_full}
use Rattle.ji.proofs.unicode.Reader.{spread_bytes}
use Rattle.ji.proofs.unicode.Checked.{check_passed}
use Rattle.ji.proofs.utf8.Encoding.{encode_cons}
use Rattle.ji.proofs.lomaji.strip.Commuting.{without_mark, without_other}
use Rattle.ji.proofs.lomaji.keys.Bytes.{stripped_bytes}
use Rattle.std.specs.Prelude.{Ok, Err}

-- ── a stripped text is one of the table
all_members : (t : Table) (s : List ℕ) → Inside t s → members t s ≡ true
unfolding members
all_members t [] h = refl
all_members t (c ∷ s) h = and_yes _ _ (passes_true (member t c) h.0) ∙ all_members t s h.1

without_all : (P : ℕ → Type 0) (s : List ℕ) → All P s → All P (without_marks s)
unfolding without_marks
without_all P [] h = tt
without_all P (c ∷ s) h =
    either (is_tone_mark c)
    (λ e. rw (without_mark c s e) (without_all P s h.1))
    (λ e. rw (without_other c s e) (h.0, without_all P s h.1))

pub stripped_inside : (s : List ℕ) → members unicode16 s ≡ true → members unicode16 (strip unicode16 s).rest ≡ true
unfolding stripped
stripped_inside s h =
    all_members unicode16 (without_marks (nfd unicode16 s))
    (without_all (λ c. T (member unicode16 c)) (nfd unicode16 s)
    (nfd_inside_16 s (members_all unicode16 (λ c. T (member unicode16 c)) (λ c m. true_passes (member unicode16 c) m) s h)))

-- ── how many code points it has
without_length : (s : List ℕ) → length (without_marks s) ≤ length s
unfolding without_marks
without_length [] = omega arith
without_length (c ∷ s) =
    either (is_tone_mark c)
    (λ e. rw (without_mark c s e) (omega (arith, without_length s)))
    (λ e. rw (without_other c s e) (omega (arith, without_length s)))

full_points : (s : List ℕ) → 2 * length (full unicode16 s) ≤ 3 * length (encode s)
full_points [] = rw (full_nil unicode16) (omega arith)
full_points (c ∷ s) =
    omega (arith, ap length (full_cons unicode16 c s), length-append (full unicode16 (c ∷ [])) (full unicode16 s), ap length (spread_full unicode16 (c ∷ [])), spread_bytes true c, full_points s, ap length (encode_cons c s), length-append (bytes_of c) (encode s))

pub stripped_points : (s : List ℕ) → 2 * length (strip unicode16 s).rest ≤ 3 * length (encode s)
unfolding stripped nfd
stripped_points s = omega (arith, without_length (nfd unicode16 s), order_length unicode16 (full unicode16 s), full_points s)

-- ── numbers stand for one refusal, and for one tone
abbrev refusals : List Refusal
refusals = Argument ∷ Argument ∷ TooLong ∷ IllFormed ∷ OutsideTable ∷ Parts ∷ Position ∷ NoRoom ∷ []

by_number : (why : Refusal) → get_or refusals (refusal_number why) Argument ≡ why
by_number Argument = refl
by_number TooLong = refl
by_number IllFormed = refl
by_number OutsideTable = refl
by_number Parts = refl
by_number Position = refl
by_number NoRoom = refl

pub same_refusal : (why other : Refusal) → refusal_number why ≡ refusal_number other → why ≡ other
same_refusal why other e = sym (by_number why) ∙ ap (λ (n : ℕ). get_or refusals n Argument) e ∙ by_number other

abbrev tones : List Tone
tones = None ∷ T1 ∷ T2 ∷ T3 ∷ T4 ∷ T5 ∷ T6 ∷ T7 ∷ T8 ∷ T9 ∷ []

tone_by_number : (o : Tone) → get_or tones (tone_number o) None ≡ o
tone_by_number None = refl
tone_by_number T1 = refl
tone_by_number T2 = refl
tone_by_number T3 = refl
tone_by_number T4 = refl
tone_by_number T5 = refl
tone_by_number T6 = refl
tone_by_number T7 = refl
tone_by_number T8 = refl
tone_by_number T9 = refl

pub same_tone : (o p : Tone) → tone_number o ≡ tone_number p → o ≡ p
same_tone o p e = sym (tone_by_number o) ∙ ap (λ (n : ℕ). get_or tones n None) e ∙ tone_by_number p

-- ── what the answer says
-- a text was stripped: it is good, the stripped text stands in the buffer, and the tone is its tone
pub record Stripping (text before after : List ℕ) (r : StripResult) : Type 0 where
  pub points : List ℕ
  pub good : check_text unicode16 text ≡ good points
  pub written : Written before after r.len.0 (encode (strip unicode16 points).rest)
  pub tone : r.tone ≡ (strip unicode16 points).tone

module _ (text before after : List ℕ) where
  module _ (r : StripResult) where
    done_placed : (s : List ℕ) → check_text unicode16 text ≡ good s → (b : Bool) → leb (length (encode (strip unicode16 s).rest)) (length before) ≡ b
        → strip_reply (Ok r) after ≡ pick_reply b (answered (tone_number (strip unicode16 s).tone) (encode (strip unicode16 s).rest) before) (refused NoRoom before)
        → Stripping text before after r
    done_placed s g true l e =
        let out = encode (strip unicode16 s).rest in
        let n : r.len.0 ≡ length out = ap (λ (q : Reply). q.length) e in
        record {
          points = s;
          good = g;
          written = record {
            is = ap (λ (q : Reply). q.buffer) e ∙ ap (λ (k : ℕ). out ++ drop k before) (sym n);
            size = sym n;
            fits = omega (arith, leb-true (length out) (length before) l, n);
          };
          tone = same_tone r.tone (strip unicode16 s).tone (ap (λ (q : Reply). q.tone) e);
        }
    done_placed s g false l e = let z : ◌≡◌ {A = ℕ} 0 7 = ap (λ (q : Reply). q.code) e in absurd (omega arith)

    done_checked : (k : Checked) → check_text unicode16 text ≡ k → strip_reply (Ok r) after ≡ strip_of unicode16 k before → Stripping text before after r
    done_checked (good s) g e = done_placed s g (leb (length (encode (strip unicode16 s).rest)) (length before)) refl e
    done_checked (bad why) g e =
        let z : 0 ≡ refusal_number why = ap (λ (q : Reply). q.code) e in absurd (omega (arith, refusal_some why))

    pub strip_done : strip_reply (Ok r) after ≡ strip_call unicode16 text before → Stripping text before after r
    unfolding strip_call
    strip_done e = done_checked (check_text unicode16 text) refl e

  -- a text was refused, and not for want of room, where the buffer has five bytes for each two
  module _ (why : Refusal) (room : 5 * length text ≤ 2 * length before) where
    refused_placed : (s : List ℕ) → check_text unicode16 text ≡ good s → (b : Bool) → leb (length (encode (strip unicode16 s).rest)) (length before) ≡ b
        → strip_reply (Err why) after ≡ pick_reply b (answered (tone_number (strip unicode16 s).tone) (encode (strip unicode16 s).rest) before) (refused NoRoom before)
        → check_text unicode16 text ≡ bad why
    unfolding check_text
    refused_placed s g true l e = let z : refusal_number why ≡ 0 = ap (λ (q : Reply). q.code) e in absurd (omega (arith, refusal_some why))
    refused_placed s g false l e =
        let p = check_passed unicode16 256 text s g in
        absurd (omega (arith, leb-false (length (encode (strip unicode16 s).rest)) (length before) l, stripped_bytes s, ap length p.written, room))

    refused_checked : (k : Checked) → check_text unicode16 text ≡ k → strip_reply (Err why) after ≡ strip_of unicode16 k before → check_text unicode16 text ≡ bad why
    refused_checked (good s) g e = refused_placed s g (leb (length (encode (strip unicode16 s).rest)) (length before)) refl e
    refused_checked (bad other) g e = g ∙ ap bad (sym (same_refusal why other (ap (λ (q : Reply). q.code) e)))

    pub strip_not : strip_reply (Err why) after ≡ strip_call unicode16 text before → check_text unicode16 text ≡ bad why
    unfolding strip_call
    strip_not e = refused_checked (check_text unicode16 text) refl e
