-- The quick walk, one code point at a time: what each of its steps keeps, and what holds at its end.
use mathlib.Core.Path.{◌≡◌, refl, sym, ap, ◌∙◌}
use mathlib.Core.Bool.{Bool, true, false, ◌&&◌}
use mathlib.Core.List.{List, [], ◌∷◌, ◌++◌, append_assoc, append-nil}
use mathlib.Core.Logic.{◌⊎◌, inl, inr}
use Prim.Native.Nat.{ℕ, ◌+◌, ◌-◌, ◌≤◌, ◌<◌}
use native.Mathlib.Omega.{arith}
use lib.Dec.{T, leb, ltb, leb→le, ltb→lt}
use lib.ListN.{length, drop, set}
use lib.Seq.{paste}
use Rattle.ucd.specs.Table.{Table, same, member, decomposition, combining_class, class_in}
use Rattle.ucd.specs.Full.{full}
use Rattle.ucd.specs.Unicode16.{unicode16, classes16}
use Rattle.ucd.proofs.Tests.{passes_true, both_left, both_right, same_equal}
use Rattle.ucd.proofs.Lists.{each_class, class_passes}
use Rattle.ucd.proofs.Unicode16.{low_atom, low_starter, full_itself, full_two}
use Rattle.ji.specs.Written.{Written}
use Rattle.ji.specs.Utf8.{width_at, point_at, SequenceOf, bytes_of, encode}
use Rattle.ji.specs.Tone.{is_tone}
use Rattle.ji.specs.Nfd.{Reorderable, NoPair, Ordered, nfd}
use Rattle.ji.specs.Lomaji.Strip.{mark_tone, is_tone_mark, without_marks, dropped_marks, last_tone}
use Rattle.ji.specs.Lomaji.Quick.{IsLetter, Stripping, Further, Walked}
use Rattle.ji.specs.declared.tone.Tone.{Tone}
use Rattle.ji.specs.declared.tone.Tone.TheVariants.{None}
use Rattle.ji.specs.declared.lomaji.quick.MarkedLetter.{MarkedLetter}
use Rattle.ji.specs.declared.lomaji.quick.Marks.{Marks}
use Rattle.std.specs.Prelude.{Some}
use Rattle.ji.proofs.Bools.{either}
use Rattle.ji.proofs.Writing.{written_none, written_one, written_run, written_length}
use Rattle.ji.proofs.Decomposition.{full_nil, full_append}
use Rattle.ji.proofs.unicode.Reader.{width_within, Taken, taken_start, taken_more, taken_end}
use Rattle.ji.proofs.utf8.Encoding.{bytes_one, encode_more}
use Rattle.ji.proofs.lomaji.strip.Laws.{mark_is, no_mark}
use Rattle.ji.proofs.lomaji.strip.Commuting.{without_mark, without_other, dropped_mark, dropped_other, nfd_without, nfd_dropped}

-- ── order, with one code point more at the end
module _ (t : Table) where
  no_pair_behind : (b : ℕ) (s : List ℕ) (a c : ℕ) → NoPair t b (s ++ (a ∷ [])) → NoPair t b ((s ++ (a ∷ [])) ++ (c ∷ []))
  no_pair_behind b [] a c f = f
  no_pair_behind b (x ∷ s) a c f = f

  ordered_behind : (s : List ℕ) (a c : ℕ) → Ordered t (s ++ (a ∷ [])) → (Reorderable t a c → ⊥) → Ordered t ((s ++ (a ∷ [])) ++ (c ∷ []))
  ordered_behind [] a c h f = (f, (tt, tt))
  ordered_behind (b ∷ s) a c h f = (no_pair_behind b s a c h.0, ordered_behind s a c h.1 f)

  no_pair_before : (b : ℕ) (s : List ℕ) (c : ℕ) → NoPair t b (s ++ (c ∷ [])) → NoPair t b s
  no_pair_before b [] c f = tt
  no_pair_before b (x ∷ s) c f = f

  ordered_before : (s : List ℕ) (c : ℕ) → Ordered t (s ++ (c ∷ [])) → Ordered t s
  ordered_before [] c h = tt
  ordered_before (b ∷ s) c h = (no_pair_before b s c h.0, ordered_before s c h.1)

-- a code point is not moved before another where it is a starter or its class is not below
stays : (a b class : ℕ) → class ≡ combining_class unicode16 a → (combining_class unicode16 b ≡ 0) ⊎ (class ≤ combining_class unicode16 b) → Reorderable unicode16 a b → ⊥
stays a b class is (inl k) r = omega (arith, r.1)
stays a b class is (inr k) r = omega (arith, r.0)

-- a code point with a class lies at 036F or below
low_class : ℕ → ℕ → Bool
low_class c class = leb c 0x036F

classes_low : T (each_class low_class classes16)
unfolding low_class classes16
classes_low = tt

-- what lies above 036F is a starter
pub high_starter : (c : ℕ) → 0x036F < c → combining_class unicode16 c ≡ 0
unfolding combining_class unicode16 low_class
high_starter c high = go (class_passes low_class classes16 classes_low c)
  where
    go : (class_in classes16 c ≡ 0) ⊎ T (leb c 0x036F) → class_in classes16 c ≡ 0
    go (inl e) = e
    go (inr h) = absurd (let low : c ≤ 0x036F = leb→le c 0x036F h in let z : ⊥ = omega arith in z)

-- ── stripping, with one code point more at the end
pub without_append : (s u : List ℕ) → without_marks (s ++ u) ≡ without_marks s ++ without_marks u
unfolding without_marks
without_append [] u = refl
without_append (c ∷ s) u =
    either (is_tone_mark c)
    (λ e. without_mark c (s ++ u) e ∙ without_append s u ∙ ap (λ (l : List ℕ). l ++ without_marks u) (sym (without_mark c s e)))
    (λ e. without_other c (s ++ u) e ∙ ap (λ (l : List ℕ). c ∷ l) (without_append s u) ∙ ap (λ (l : List ℕ). l ++ without_marks u) (sym (without_other c s e)))

pub dropped_append : (s u : List ℕ) → dropped_marks (s ++ u) ≡ dropped_marks s ++ dropped_marks u
unfolding dropped_marks
dropped_append [] u = refl
dropped_append (c ∷ s) u =
    either (is_tone_mark c)
    (λ e. dropped_mark c (s ++ u) e ∙ ap (λ (l : List ℕ). c ∷ l) (dropped_append s u) ∙ ap (λ (l : List ℕ). l ++ dropped_marks u) (sym (dropped_mark c s e)))
    (λ e. dropped_other c (s ++ u) e ∙ dropped_append s u ∙ ap (λ (l : List ℕ). l ++ dropped_marks u) (sym (dropped_other c s e)))

last_append : (o : Tone) (ms : List ℕ) (m : ℕ) → last_tone o (ms ++ (m ∷ [])) ≡ mark_tone m
unfolding last_tone
last_append o [] m = refl
last_append o (x ∷ ms) m = last_append (mark_tone x) ms m

pub nil_without : without_marks [] ≡ []
unfolding without_marks
nil_without = refl

pub nil_dropped : dropped_marks [] ≡ []
unfolding dropped_marks
nil_dropped = refl

module _ (s : List ℕ) (x : ℕ) where
  without_last_mark : is_tone_mark x ≡ true → without_marks (s ++ (x ∷ [])) ≡ without_marks s
  without_last_mark e = without_append s (x ∷ []) ∙ ap (λ (l : List ℕ). without_marks s ++ l) (without_mark x [] e ∙ nil_without) ∙ append-nil (without_marks s)

  without_last : is_tone_mark x ≡ false → without_marks (s ++ (x ∷ [])) ≡ without_marks s ++ (x ∷ [])
  without_last e = without_append s (x ∷ []) ∙ ap (λ (l : List ℕ). without_marks s ++ l) (without_other x [] e ∙ ap (λ (l : List ℕ). x ∷ l) nil_without)

  dropped_last_mark : is_tone_mark x ≡ true → last_tone None (dropped_marks (s ++ (x ∷ []))) ≡ mark_tone x
  dropped_last_mark e =
      ap (last_tone None) (dropped_append s (x ∷ []) ∙ ap (λ (l : List ℕ). dropped_marks s ++ l) (dropped_mark x [] e ∙ ap (λ (l : List ℕ). x ∷ l) nil_dropped)) ∙ last_append None (dropped_marks s) x

  dropped_last : is_tone_mark x ≡ false → dropped_marks (s ++ (x ∷ [])) ≡ dropped_marks s
  dropped_last e = dropped_append s (x ∷ []) ∙ ap (λ (l : List ℕ). dropped_marks s ++ l) (dropped_other x [] e ∙ nil_dropped) ∙ append-nil (dropped_marks s)

-- what lies below 0300 is no tone mark
pub low_no_mark : (x : ℕ) → x < 0x0300 → is_tone_mark x ≡ false
low_no_mark x h =
    let differs : (m : ℕ) → 0x0300 ≤ m → x ≡ m → ⊥ = λ m k e. omega arith in
    mark_is x ∙ ap is_tone (sym (no_mark x (differs 0x0301 (omega arith), (differs 0x0300 (omega arith), (differs 0x0302 (omega arith), (differs 0x0303 (omega arith), (differs 0x0304 (omega arith), (differs 0x030D (omega arith), (differs 0x0306 (omega arith), tt)))))))))

-- ── the steps
pub stripping_start : (before : List ℕ) → Stripping before before 0 (record { tone = None; class = 0; sorted = true }) []
unfolding without_marks dropped_marks last_tone encode
stripping_start before = record { written = written_none before; tone = refl; order = λ e c f. (tt, tt) }

module _ (before after : List ℕ) (n : ℕ) (p : Marks) (s : List ℕ) (h : Stripping before after n p s) (x : ℕ) where
  -- a tone mark is only remembered
  pub stripping_mark : is_tone_mark x ≡ true → (tone : Tone) → tone ≡ mark_tone x → Stripping before after n (record p { tone = tone }) (s ++ (x ∷ []))
  stripping_mark e tone is =
      record {
        written = rw (without_last_mark s x e) h.written;
        tone = is ∙ sym (dropped_last_mark s x e);
        order = λ z c f. rw (without_last_mark s x e) (h.order z c f);
      }

  -- anything else is written
  module _ (e : is_tone_mark x ≡ false) (after' : List ℕ) (n' : ℕ) (w : Written before after' n' (encode (without_marks s ++ (x ∷ [])))) where
    kept : Written before after' n' (encode (without_marks (s ++ (x ∷ []))))
    kept = rw (without_last s x e) w

    tone_stays : p.tone ≡ last_tone None (dropped_marks (s ++ (x ∷ [])))
    tone_stays = h.tone ∙ ap (last_tone None) (sym (dropped_last s x e))

    -- in order if the text is still sorted
    pub stripping_behind : (class : ℕ) → class ≡ combining_class unicode16 x → (sorted : Bool) → (sorted ≡ true → (p.sorted ≡ true) × ((class ≡ 0) ⊎ (p.class ≤ class)))
        → Stripping before after' n' (record p { class = class; sorted = sorted }) (s ++ (x ∷ []))
    stripping_behind class is sorted k =
        record {
          written = kept;
          tone = tone_stays;
          order = λ z c f. rw (without_last s x e) (ordered_behind unicode16 (without_marks s) x c (h.order (k z).0 x (rw (← is) (k z).1)) (stays x c class is f));
        }

  -- the bytes of one more code point, and of an ASCII character
  pub written_point : n + length (bytes_of x) ≤ length before → Written before (paste after n (bytes_of x) (length (bytes_of x))) (n + length (bytes_of x)) (encode (without_marks s ++ (x ∷ [])))
  written_point room = rw (encode_more (without_marks s) x) (written_run h.written (bytes_of x) room)

  pub written_ascii : x ≤ 0x7F → n < length before → Written before (set after n x) (n + 1) (encode (without_marks s ++ (x ∷ [])))
  written_ascii k room = rw (encode_more (without_marks s) x, bytes_one x k) (written_one h.written x room)

  -- an ASCII character
  pub stripping_ascii : x < 0x80 → n < length after → Stripping before (set after n x) (n + 1) (record p { class = 0 }) (s ++ (x ∷ []))
  stripping_ascii k room =
      let size : length after ≡ length before = written_length h.written in
      stripping_behind (low_no_mark x (omega arith)) (set after n x) (n + 1) (written_ascii (omega arith) (omega arith)) 0 (sym (low_starter x (omega arith))) p.sorted (λ z. (z, inl refl))

-- two steps, one after the other, and a step that takes the same text
module _ {i j k : ℕ} {p q r : Marks} {entry middle exit u v : List ℕ} where
  pub further_both : Further i p j q entry middle u → Further j q k r middle exit v → Further i p k r entry exit (u ++ v)
  further_both f g before s h = rw (← append_assoc s u v) (g before (s ++ u) (f before s h))

pub further_same : {n m : ℕ} {p q : Marks} {entry exit u v : List ℕ} → u ≡ v → Further n p m q entry exit u → Further n p m q entry exit v
further_same e f before s h = rw (← e) (f before s h)

-- a letter of the short lookup, at its code point k
unfoldable pub is_letter : ℕ → ℕ → ℕ → Bool
is_letter k ascii mark = same (decomposition unicode16 k) (ascii ∷ mark ∷ []) && (ltb ascii 0x80 && (is_tone_mark mark && member unicode16 k))

pub letter_at : (k ascii mark : ℕ) → T (is_letter k ascii mark) → (tone : Tone) → mark_tone mark ≡ tone → (c : ℕ) → c ≡ k → IsLetter c (record { ascii = ascii; tone = tone })
unfolding is_letter
letter_at k x m h tone is c e =
    let both : List ℕ = x ∷ m ∷ [] in
    let ascii = both_right (same (decomposition unicode16 k) both) (ltb x 0x80 && (is_tone_mark m && member unicode16 k)) h in
    let mark = both_right (ltb x 0x80) (is_tone_mark m && member unicode16 k) ascii in (
      m,
      ap (decomposition unicode16) e ∙ same_equal (decomposition unicode16 k) both (both_left (same (decomposition unicode16 k) both) _ h),
      ltb→lt x 0x80 (both_left (ltb x 0x80) _ ascii),
      passes_true _ (both_left (is_tone_mark m) _ mark),
      is,
      ap (member unicode16) e ∙ passes_true _ (both_right (is_tone_mark m) _ mark),
    )

-- its full decomposition
pub letter_full : (c : ℕ) (x : MarkedLetter) (l : IsLetter c x) → x.ascii ∷ l.0 ∷ [] ≡ full unicode16 (c ∷ [])
letter_full c x l = sym (full_two c x.ascii l.0 l.1 ∙ ap (λ (u : List ℕ). u ++ (l.0 ∷ [])) (low_atom x.ascii (omega (arith, l.2))))

-- ── the end: what was stripped is the stripped NFD
module _ (before after : List ℕ) (n : ℕ) (p : Marks) (u : List ℕ) (h : Stripping before after n p (full unicode16 u)) where
  sorted_rest : p.sorted ≡ true → without_marks (nfd unicode16 u) ≡ without_marks (full unicode16 u)
  sorted_rest e =
      let q : combining_class unicode16 0 ≡ 0 = low_starter 0 (omega arith) in
      nfd_without u (ordered_before unicode16 (without_marks (full unicode16 u)) 0 (h.order e 0 (inl q)))

  stripped_bytes : p.sorted ≡ true → Written before after n (encode (without_marks (nfd unicode16 u)))
  stripped_bytes e = rw (sorted_rest e) h.written

  stripped_tone : p.tone ≡ last_tone None (dropped_marks (nfd unicode16 u))
  stripped_tone = h.tone ∙ ap (last_tone None) (sym (nfd_dropped u))

-- ── the loop: the first i bytes of s are read and stripped, and there is room for the others, were they ASCII
pub record Walking (s before out : List ℕ) (i n : ℕ) (p : Marks) : Type 0 where
  pub inside : i ≤ length s
  pub room : n + (length s - i) ≤ length before
  pub text : List ℕ
  pub taken : Taken unicode16 s text i
  pub stripping : Stripping before out n p (full unicode16 text)

-- ASCII decomposes no further
pub ascii_full : (x : ℕ) → x < 0x80 → full unicode16 (x ∷ []) ≡ x ∷ []
ascii_full x h = full_itself x (low_atom x (omega arith))

module _ (s before : List ℕ) where
  pub walking_start : length s ≤ length before → Walking s before before 0 0 (record { tone = None; class = 0; sorted = true })
  walking_start fit =
      record { inside = omega arith; room = omega arith; text = []; taken = taken_start unicode16 s; stripping = rw (full_nil unicode16) (stripping_start before) }

  module _ (out : List ℕ) (i n : ℕ) (p : Marks) (r : Walking s before out i n p) where
    -- a turn that reads a sequence of width w and code point x
    pub walking_more : i < length s → (w x : ℕ) → SequenceOf (drop i s) w x → member unicode16 x ≡ true
        → (m : ℕ) (q : Marks) (out' : List ℕ) → Further n p m q out out' (full unicode16 (x ∷ [])) → m + (length s - (i + w)) ≤ length before → Walking s before out' (i + w) m q
    walking_more h w x read mem m q out' step room =
        let wide : w ≡ width_at (drop i s) = read.wide in
        let point : x ≡ point_at (drop i s) = read.read in
        record {
          inside = omega (arith, width_within s i h);
          room = room;
          text = r.text ++ (x ∷ []);
          taken = rw (point, wide) (taken_more unicode16 s r.text i r.taken h (omega (arith, wide, read.some)) (ap (member unicode16) (sym point) ∙ mem));
          stripping = rw (full_append unicode16 r.text (x ∷ [])) (step before (full unicode16 r.text) r.stripping);
        }

    pub walking_end : length s ≤ i → p.sorted ≡ true → Walked s before out (Some (record { 0 = n }, p.tone))
    walking_end h e = (
      r.text,
      taken_end unicode16 s r.text i r.taken h,
      stripped_bytes before out n p r.text r.stripping e,
      stripped_tone before out n p r.text r.stripping,
    )
