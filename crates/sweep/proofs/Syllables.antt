-- The text of each well-formed syllable: stripping it gives back the text without the mark, and the tone. A law over any text of the letters,
-- with any of the marks behind any ASCII letter.
use mathlib.Core.Path.{◌≡◌, refl, sym, ap, ◌∙◌, subst}
use mathlib.Core.Bool.{Bool, true, false, not, ◌&&◌, ◌||◌}
use mathlib.Core.List.Memᴰ
use mathlib.Core.List.{List, [], ◌∷◌, ◌++◌, append_assoc, append-nil, Memᴰ}
use mathlib.Core.Logic.{◌⊎◌, inl, inr}
use mathlib.Core.Option.{Option}
use Prim.Native.Nat.{ℕ, zero, suc, ◌+◌, ◌≤◌, ◌<◌}
use native.Mathlib.Numerals.{add-one}
use native.Mathlib.Omega.{arith}
use borrow.Author.Tests.{ne_eqb, eqb-true, eqb-false, not-true}
use lib.Dec.{T, eqb, eqb→eq}
use lib.ListN.{length, take, drop, get_or, length-append, take-append-drop}
use lib.Seq.{take-suc}
use Rattle.ucd.specs.Table.{member, in_ranges}
use Rattle.ucd.specs.Unicode16.{ranges16}
use Rattle.ucd.proofs.Tests.{both_left, both_right, passes_true}
use Rattle.ucd.proofs.Unicode16.{member_below, low_starter}
use Rattle.ji.specs.Unicode.{All, unicode16, mappings16, classes16, same, listed, mapping_in, class_in, decomposition, combining_class, members}
use Rattle.ji.specs.Utf8.{encode}
use Rattle.ji.specs.Nfd.{Ordered}
use Rattle.ji.specs.Tone.{pick_tone, tone_number}
use Rattle.ji.specs.Lomaji.Strip.{tone_marks, mark_tone, is_tone_mark, without_marks, dropped_marks, unmarked_tone, stripped, strip}
use Rattle.ji.specs.declared.tone.Tone.{Tone}
use Rattle.ji.specs.declared.tone.Tone.TheVariants.{T1, T2, T3, T4, T5, T6, T7, T8, T9}
use Rattle.ji.proofs.Bools.{either, and_yes, or_no}
use Rattle.ji.proofs.Closure.{nfc_inside_16}
use Rattle.ji.proofs.Composition.{all_append}
use Rattle.ji.proofs.unicode.Bytes.{same_equal, encode_most}
use Rattle.ji.proofs.lomaji.strip.Answers.{same_tone}
use Rattle.ji.proofs.lomaji.strip.Laws.{last_none, last_more}
use Rattle.khiin.specs.Syllable.{mark_of, encoded}
use Rattle.grammar.specs.WellFormed.{WellFormed, stopped, unmarked, with_mark, text}
use Rattle.sweep.proofs.Tests.{all, passed, each, each_passes}
use Rattle.sweep.proofs.Encoding.{Other, Encodes, encodes, listed_append}
use Rattle.sweep.proofs.Unmarked.{letters, Sound, sound}

-- ── letters and marks
-- c is in the table, decomposes no further, and is neither 0324 nor a space
pub record Point (c : ℕ) : Type 0 where
  pub inside : T (member unicode16 c)
  pub atom : decomposition unicode16 c ≡ c ∷ []
  pub other : Other c

abbrev point_tests : ℕ → List Bool
point_tests c = member unicode16 c ∷ same (decomposition unicode16 c) (c ∷ []) ∷ not (eqb c 0x0324) ∷ not (eqb c 0x20) ∷ []

differs : (c k : ℕ) → T (not (eqb c k)) → c ≡ k → ⊥
differs c k t = eqb-false c k (not-true (eqb c k) (passes_true _ t))

point_of_law : (c : ℕ) → T (all (point_tests c)) → Point c
point_of_law c t =
    let (inside, (atom, (no_below, (no_space, end)))) = passed (point_tests c) t in
    record { inside = inside; atom = same_equal _ _ atom; other = (differs c 0x0324 no_below, differs c 0x20 no_space) }

-- a letter has class 0 or that of 0358, so that no mark is moved behind it
pub record Letter (c : ℕ) : Type 0 where
  pub plain : Point c
  pub no_mark : is_tone_mark c ≡ false
  pub most : combining_class unicode16 c ≤ 232
  pub least : 0 < combining_class unicode16 c → 232 ≤ combining_class unicode16 c

unfoldable pub is_letter : ℕ → Bool
is_letter c = all (point_tests c) && (not (is_tone_mark c) && (eqb (combining_class unicode16 c) 0 || eqb (combining_class unicode16 c) 232))

letters_pass : T (each is_letter letters)
unfolding is_letter member unicode16 ranges16 in_ranges same decomposition mapping_in mappings16 combining_class class_in classes16 is_tone_mark
letters_pass = tt

class_of : (k : ℕ) → T (eqb k 0 || eqb k 232) → (k ≤ 232) × (0 < k → 232 ≤ k)
class_of k t =
    either (eqb k 0)
    (λ y. let z : k ≡ 0 = eqb-true k 0 y in (omega arith, λ h. omega arith))
    (λ n. let z : k ≡ 232 = eqb-true k 232 (passes_true _ (rw n at t)) in (omega arith, λ h. omega arith))

letter_of_law : (c : ℕ) → T (is_letter c) → Letter c
unfolding is_letter
letter_of_law c t =
    let rest : T (not (is_tone_mark c) && (eqb (combining_class unicode16 c) 0 || eqb (combining_class unicode16 c) 232)) = both_right (all (point_tests c)) _ t in
    let class = class_of (combining_class unicode16 c) (both_right (not (is_tone_mark c)) _ rest) in
    record { plain = point_of_law c (both_left (all (point_tests c)) _ t); no_mark = not-true _ (passes_true _ (both_left (not (is_tone_mark c)) _ rest)); most = class.0; least = class.1 }

listed_in : (xs : List ℕ) (c : ℕ) → T (listed xs c) → Memᴰ c xs
unfolding listed
listed_in [] c t = absurd t
listed_in (x ∷ xs) c t =
    either (eqb x c) (λ y. Memᴰ.head (sym (eqb-true x c y))) (λ n. Memᴰ.tail (listed_in xs c (rw n at t)))

all_letters : (s : List ℕ) → T (each (listed letters) s) → All Letter s
all_letters [] t = tt
all_letters (c ∷ s) t =
    (letter_of_law c (each_passes is_letter letters letters_pass c (listed_in letters c (both_left (listed letters c) _ t))), all_letters s (both_right (listed letters c) _ t))

-- a mark of a tone
pub record Mark (tone : Tone) (m : ℕ) : Type 0 where
  pub is : mark_of tone ≡ m ∷ []
  pub plain : Point m
  pub class : combining_class unicode16 m ≡ 230
  pub marks : is_tone_mark m ≡ true
  pub spoken : mark_tone m ≡ tone
  pub no_dot : m ≡ 0x0358 → ⊥

abbrev mark_tests : ℕ × Tone → List Bool
mark_tests r =
    same (mark_of r.1) (r.0 ∷ [])
    ∷ all (point_tests r.0)
    ∷ eqb (combining_class unicode16 r.0) 230
    ∷ is_tone_mark r.0
    ∷ eqb (tone_number (mark_tone r.0)) (tone_number r.1)
    ∷ not (eqb r.0 0x0358)
    ∷ []

unfoldable pub is_mark : ℕ × Tone → Bool
is_mark r = all (mark_tests r)

marks_pass : T (each is_mark tone_marks)
unfolding is_mark mark_of member unicode16 ranges16 in_ranges same decomposition mapping_in mappings16 combining_class class_in classes16 is_tone_mark mark_tone
marks_pass = tt

mark_of_law : (tone : Tone) → Memᴰ tone (T2 ∷ T3 ∷ T5 ∷ T6 ∷ T7 ∷ T8 ∷ T9 ∷ []) → (m : ℕ) × Mark tone m
unfolding is_mark
mark_of_law tone k =
    let at = Memᴰ.of_map (λ (r : ℕ × Tone). r.1) tone_marks k in
    let r = at.0 in
    let (is, (plain, (class, (marks, (spoken, (no_dot, end)))))) = passed (mark_tests r) (each_passes is_mark tone_marks marks_pass r at.1) in
    subst (λ (t : Tone). (m : ℕ) × Mark t m) at.2 (
      r.0,
      record {
        is = same_equal _ _ is;
        plain = point_of_law r.0 plain;
        class = eqb→eq _ _ class;
        marks = passes_true _ marks;
        spoken = same_tone _ _ (eqb→eq _ _ spoken);
        no_dot = differs r.0 0x0358 no_dot;
      },
    )

-- ── canonical order
ordered_letters : (c : ℕ) (s : List ℕ) → combining_class unicode16 c ≤ 232 → All Letter s → Ordered unicode16 (c ∷ s)
ordered_letters c [] k h = (tt, tt)
ordered_letters c (d ∷ s) k h = ((λ r. omega (arith, h.0.least r.0)), ordered_letters d s h.0.most h.1)

module _ (x m : ℕ) (b : List ℕ) (starter : combining_class unicode16 x ≡ 0) (class : combining_class unicode16 m ≡ 230) (h : All Letter b) where
  ordered_marked : (c : ℕ) (a : List ℕ) → combining_class unicode16 c ≤ 232 → All Letter a → Ordered unicode16 (c ∷ (a ++ (x ∷ m ∷ b)))
  ordered_marked c [] k l = ((λ r. omega arith), ((λ r. omega arith), ordered_letters m b (omega arith) h))
  ordered_marked c (d ∷ a) k l = ((λ r. omega (arith, l.0.least r.0)), ordered_marked d a l.0.most l.1)

-- ── stripping
module _ (v : List ℕ) where
  without_letters : (s : List ℕ) → All Letter s → without_marks (s ++ v) ≡ s ++ without_marks v
  unfolding without_marks
  without_letters [] h = refl
  without_letters (c ∷ s) h = rw h.0.no_mark (ap (λ (l : List ℕ). c ∷ l) (without_letters s h.1))

  dropped_letters : (s : List ℕ) → All Letter s → dropped_marks (s ++ v) ≡ dropped_marks v
  unfolding dropped_marks
  dropped_letters [] h = refl
  dropped_letters (c ∷ s) h = rw h.0.no_mark (dropped_letters s h.1)

without_itself : (s : List ℕ) → All Letter s → without_marks s ≡ s
unfolding without_marks
without_itself s h = ap without_marks (sym (append-nil s)) ∙ without_letters [] s h ∙ append-nil s

dropped_none : (s : List ℕ) → All Letter s → dropped_marks s ≡ []
unfolding dropped_marks
dropped_none s h = ap dropped_marks (sym (append-nil s)) ∙ dropped_letters [] s h

strip_letters : (s : List ℕ) → All Letter s → stripped s ≡ record { rest = s; tone = unmarked_tone (encode s) }
unfolding stripped
strip_letters s h = rw (without_itself s h, dropped_none s h, last_none)

strip_marked : (front back : List ℕ) {tone : Tone} {m : ℕ} → All Letter front → All Letter back → Mark tone m → stripped (front ++ (m ∷ back)) ≡ record { rest = front ++ back; tone = tone }
unfolding stripped without_marks dropped_marks
strip_marked front back {tone} {m} f g k =
    let rest : without_marks (front ++ (m ∷ back)) ≡ front ++ back = without_letters (m ∷ back) front f ∙ ap (λ (l : List ℕ). front ++ l) (rw k.marks (without_itself back g)) in
    let dropped : dropped_marks (front ++ (m ∷ back)) ≡ m ∷ [] = dropped_letters (m ∷ back) front f ∙ rw k.marks (ap (λ (l : List ℕ). m ∷ l) (dropped_none back g)) in
    rw (rest, dropped, last_more, k.spoken, last_none)

-- ── the text of a syllable
pub record SyllableText (s : WellFormed) : Type 0 where
  pub stripping : strip unicode16 (text s) ≡ record { rest = unmarked s; tone = s.tone }
  pub inside : members unicode16 (text s) ≡ true
  pub no_space : All (λ c. c ≡ 0x20 → ⊥) (text s)
  pub dot : listed (text s) 0x0358 ≡ listed (unmarked s) 0x0358
  pub short : length (encode (text s)) ≤ 60

-- u is the text before it is encoded, w the encoded text, and s the text without the mark
record Written (s : List ℕ) (tone : Tone) (u w : List ℕ) : Type 0 where
  points : All Point u
  stripping : stripped u ≡ record { rest = s; tone = tone }
  encoding : Encodes u w
  dot : listed u 0x0358 ≡ listed s 0x0358
  size : length u ≤ 17

all_map : {P Q : ℕ → Type 0} → ((c : ℕ) → P c → Q c) → (s : List ℕ) → All P s → All Q s
all_map f [] h = tt
all_map f (c ∷ s) h = (f c h.0, all_map f s h.1)

all_members : (s : List ℕ) → All (λ c. T (member unicode16 c)) s → members unicode16 s ≡ true
unfolding members
all_members [] h = refl
all_members (c ∷ s) h = and_yes (member unicode16 c) (members unicode16 s) (passes_true _ h.0) ∙ all_members s h.1

small_points : (s : List ℕ) → All (λ c. T (member unicode16 c)) s → (i : ℕ) → get_or s i 0 ≤ 0xFFFF
small_points [] h i = omega arith
small_points (c ∷ s) h zero = omega (arith, member_below c h.0)
small_points (c ∷ s) h (suc i) = small_points s h.1 i

module _ (s : WellFormed) where
  from_written : {u : List ℕ} → Written (unmarked s) s.tone u (text s) → SyllableText s
  from_written {u} k =
      let e = k.encoding in
      let inside : All (λ c. T (member unicode16 c)) (text s) = rw e.nfc_is (nfc_inside_16 u (all_map (λ c p. p.inside) u k.points)) in
      record {
        stripping = ap stripped e.nfd_is ∙ k.stripping;
        inside = all_members (text s) inside;
        no_space = all_map (λ c p. p.1) (text s) e.other;
        dot = e.dot ∙ k.dot;
        short = omega (arith, encode_most (text s) (small_points (text s) inside), e.size, k.size);
      }

-- ── without a mark, and with one
all_take : (n : ℕ) (s : List ℕ) → All Letter s → All Letter (take n s)
all_take zero s h = tt
all_take (suc n) [] h = tt
all_take (suc n) (c ∷ s) h = (h.0, all_take n s h.1)

all_drop : (n : ℕ) (s : List ℕ) → All Letter s → All Letter (drop n s)
all_drop zero s h = h
all_drop (suc n) [] h = tt
all_drop (suc n) (c ∷ s) h = all_drop n s h.1

first_class : combining_class unicode16 0 ≤ 232
first_class = omega (arith, low_starter 0 (omega arith))

no_mark : (b : Bool) → mark_of (pick_tone b T4 T1) ≡ []
unfolding mark_of
no_mark true = refl
no_mark false = refl

module _ (s : WellFormed) where
  abbrev base : List ℕ
  base = unmarked s

  pub unmarked_sound : Sound s.rime (unmarked s)
  unfolding unmarked
  unmarked_sound = sound s.onset s.rime s.capital s.onset_in s.rime_in

  base_letters : All Letter base
  base_letters = all_letters base unmarked_sound.lettered

  abbrev place : ℕ
  place = unmarked_sound.place

  abbrev front : List ℕ
  front = take (place + 1) base

  abbrev back : List ℕ
  back = drop (place + 1) base

  text_is : text s ≡ encoded unicode16 (front ++ (mark_of s.tone ++ back))
  unfolding text
  text_is = ap (λ (o : Option ℕ). encoded unicode16 (with_mark base (mark_of s.tone) o)) unmarked_sound.letter

  plain_text : s.tone ≡ pick_tone (stopped s.rime) T4 T1 → Written base s.tone base (text s)
  plain_text e =
      let none : mark_of s.tone ≡ [] = ap mark_of e ∙ no_mark (stopped s.rime) in
      let is : text s ≡ encoded unicode16 base = text_is ∙ ap (λ (l : List ℕ). encoded unicode16 (front ++ (l ++ back))) none ∙ ap (encoded unicode16) (take-append-drop (place + 1) base) in
      record {
        points = all_map (λ c l. l.plain) base base_letters;
        stripping = strip_letters base base_letters ∙ ap (λ (t : Tone). record { rest = base; tone = t }) (unmarked_sound.tone ∙ sym e);
        encoding = rw is (encodes base (all_map (λ c l. l.plain.atom) base base_letters) (ordered_letters 0 base first_class base_letters).1 (all_map (λ c l. l.plain.other) base base_letters));
        dot = refl;
        size = let k = unmarked_sound.short in omega arith;
      }

  module _ (m : ℕ) (k : Mark s.tone m) where
    front_letters : All Letter front
    front_letters = all_take (place + 1) base base_letters

    back_letters : All Letter back
    back_letters = all_drop (place + 1) base base_letters

    front_ends : front ≡ take place base ++ (get_or base place 0 ∷ [])
    front_ends = ap (λ (n : ℕ). take n base) (add-one place) ∙ take-suc base place 0 unmarked_sound.inside

    marked_points : All Point (front ++ (m ∷ back))
    marked_points = all_append Point front (m ∷ back) (all_map (λ c l. l.plain) front front_letters) (k.plain, all_map (λ c l. l.plain) back back_letters)

    marked_ordered : Ordered unicode16 (front ++ (m ∷ back))
    marked_ordered =
        let low : get_or base place 0 < 0x80 = unmarked_sound.low in
        rw (front_ends, append_assoc (take place base) (get_or base place 0 ∷ []) (m ∷ back))
        (ordered_marked (get_or base place 0) m back (low_starter (get_or base place 0) (omega arith)) k.class back_letters 0 (take place base) first_class
        (all_take place base base_letters)).1

    marked_dot : listed (front ++ (m ∷ back)) 0x0358 ≡ listed base 0x0358
    unfolding listed
    marked_dot =
        listed_append front (m ∷ back) 0x0358
        ∙ ap (λ (b : Bool). listed front 0x0358 || b) (or_no (eqb m 0x0358) (listed back 0x0358) (ne_eqb m 0x0358 k.no_dot))
        ∙ sym (listed_append front back 0x0358)
        ∙ ap (λ (l : List ℕ). listed l 0x0358) (take-append-drop (place + 1) base)

    marked_size : length (front ++ (m ∷ back)) ≤ 17
    marked_size =
        let short = unmarked_sound.short in
        omega (arith, length-append front (m ∷ back), length-append front back, ap length (take-append-drop (place + 1) base))

    marked_text : Written base s.tone (front ++ (m ∷ back)) (text s)
    marked_text =
        record {
          points = marked_points;
          stripping = strip_marked front back front_letters back_letters k ∙ ap (λ (l : List ℕ). record { rest = l; tone = s.tone }) (take-append-drop (place + 1) base);
          encoding = rw (text_is, k.is)
              (encodes (front ++ (m ∷ back)) (all_map (λ c p. p.atom) (front ++ (m ∷ back)) marked_points) marked_ordered (all_map (λ c p. p.other) (front ++ (m ∷ back)) marked_points));
          dot = marked_dot;
          size = marked_size;
        }

  pub syllable_text : SyllableText s
  syllable_text = by (Memᴰ.cases_cons s.tone_in)
    where
      by : (s.tone ≡ pick_tone (stopped s.rime) T4 T1) ⊎ Memᴰ s.tone (T2 ∷ T3 ∷ T5 ∷ T6 ∷ T7 ∷ T8 ∷ T9 ∷ []) → SyllableText s
      by (inl e) = from_written s (plain_text e)
      by (inr k) = let m = mark_of_law s.tone k in from_written s (marked_text m.0 m.1)
