-- The telex step: whether a body ends in a stop, a code point at a time; how a text ends; and when each branch applies.
use mathlib.Core.Path.{◌≡◌, refl, sym, ap, ap₂, ◌∙◌}
use mathlib.Core.Bool.{Bool, true, false, not, ◌&&◌, ◌||◌}
use mathlib.Core.List.{List, [], ◌∷◌, ◌++◌, map}
use Prim.Native.Nat.{ℕ, zero, suc, ◌+◌, ◌-◌, ◌≤◌, ◌<◌}
use native.Mathlib.Nat.{suc-sub-suc, sub-zero}
use native.Mathlib.Omega.{arith}
use native.Mathlib.Decide.{ℕ_discrete}
use borrow.Author.Tests.{ne_eqb}
use lib.Dec.{eqb}
use native.Mathlib.Numerals.{add-one}
use lib.ListN.{length, take, drop, get_or, set, drop_of_length-le}
use lib.Seq.{length-take-le, take-take, take-suc-set}
use Rattle.ji.specs.Unicode.{Table, unicode16, member, members, pick_text, pick_number, same, listed}
use Rattle.ji.specs.Text.{points, marked, point, within, lower, begins, replace_all, but_last, last, all_ascii}
use Rattle.ji.specs.Utf8.{decode, encode, last_start, last_point}
use Rattle.ji.specs.Reply.{good, check_points}
use Rattle.ji.specs.Tone.{is_tone, pick_tone}
use Rattle.ji.specs.Lomaji.Strip.{ends_in_any, stop_endings, unmarked_tone, strip}
use Rattle.ji.specs.Lomaji.ToneLetter.{tone_letter, is_some, has_tone_letter}
use Rattle.ji.specs.declared.tone.Tone.{Tone}
use Rattle.ji.specs.declared.tone.Tone.TheVariants.{T1, T4}
use Rattle.ji.specs.Lomaji.Keys.{respell}
use Rattle.ji.proofs.Bools.{either, and_yes, and_no, and_true, and_false, and_left, and_right, or_no}
use Rattle.ji.proofs.unicode.Bytes.{bytes_one, encode_nil, encode_cons, encode_append, last_skip, front_bytes}
use Rattle.ji.proofs.unicode.Checked.{Passed, points_passed, last_back}
use Rattle.ji.proofs.unicode.Ascii.{ascii_at}
use Rattle.ji.proofs.lomaji.strip.Ascii.{ascii_stripped, ascii_tone}
use Rattle.ji.proofs.lomaji.tone_letter.Marks.{letter_stripped}
use Rattle.ji.proofs.text.Laws.{drop_next, replace_nil, replace_hit, replace_miss, replace_short, replace_points, points_first, points_second, points_other}
use Rattle.khiin.specs.Converter.{key_to_tone, ends_with, repeats_tone, opens_nasal, opens_dot, opens_o, opens_u, e_like, nasal_signs, ends_in_stop, toned, joined, bare, is_first, composed_step, step}
use Rattle.khiin.specs.Telex.{pick_edit, edit_by, edit_at, edit_of, composed_of, edited, step_of}
use Rattle.khiin.specs.declared.converter.ToneKeys.{ToneKeys}
use Rattle.khiin.specs.declared.converter.Edit.{Edit}
use Rattle.khiin.specs.declared.converter.Edit.TheVariants.{Behind, Last, LastTwo, Compose}

-- ── a body that ends in a stop
abbrev n : ℕ
n = point "n"

-- whether a text ends in a stop, and where it is empty what is known before
pub stop_after : Bool → List ℕ → Bool
stop_after stop [] = stop
stop_after stop (x ∷ s) = stop_after (listed (points "ptkh") x) s

-- the n that is passed and may turn out to be half of a sign
abbrev pub held : Bool → List ℕ
held true = n ∷ []
held false = []

-- a text without the signs
abbrev pub unsigned : List ℕ → List ℕ
unsigned s = respell nasal_signs s

abbrev unmarked : List ℕ → List ℕ
unmarked s = replace_points (point "ⁿ") [] (point "ᴺ") [] s

apart : replace_all (point "ᴺ" ∷ []) [] [] ≡ []
apart = replace_nil (point "ᴺ" ∷ []) []

module _ (x : ℕ) (s : List ℕ) where
  first_gone : x ≡ point "ⁿ" → unmarked (x ∷ s) ≡ unmarked s
  first_gone e = points_first (point "ⁿ") [] (point "ᴺ") [] apart x s e

  second_gone : x ≡ point "ᴺ" → unmarked (x ∷ s) ≡ unmarked s
  second_gone e = points_second (point "ⁿ") [] (point "ᴺ") [] apart x s (λ f. omega arith) e

  other_stays : (x ≡ point "ⁿ" → ⊥) → (x ≡ point "ᴺ" → ⊥) → unmarked (x ∷ s) ≡ x ∷ unmarked s
  other_stays a b = points_other (point "ⁿ") [] (point "ᴺ") [] apart x s a b

n_stays : (s : List ℕ) → unmarked (n ∷ s) ≡ n ∷ unmarked s
n_stays s = other_stays n s (λ e. omega arith) (λ e. omega arith)

abbrev paired : List ℕ → List ℕ
paired s = replace_all (points "nn") [] s

-- a sign goes, whatever is held
sign_gone : (h : Bool) (x : ℕ) (s : List ℕ) → unmarked (x ∷ s) ≡ unmarked s → unsigned (held h ++ (x ∷ s)) ≡ unsigned (held h ++ s)
sign_gone true x s e = ap paired (n_stays (x ∷ s) ∙ ap (λ (l : List ℕ). n ∷ l) e ∙ sym (n_stays s))
sign_gone false x s e = ap paired e

-- an n is held, or goes with the one that is
n_held : (h : Bool) (x : ℕ) (s : List ℕ) → x ≡ n → unsigned (held h ++ (x ∷ s)) ≡ unsigned (held (not h) ++ s)
unfolding begins
n_held true x s e =
    ap (λ (y : ℕ). unsigned (n ∷ y ∷ s)) e
    ∙ ap paired (n_stays (n ∷ s) ∙ ap (λ (l : List ℕ). n ∷ l) (n_stays s))
    ∙ replace_hit (points "nn") [] n (n ∷ unmarked s) (omega arith) refl
n_held false x s e = ap (λ (y : ℕ). unsigned (y ∷ s)) e

-- any other code point stays, with what is held before it
module _ (x : ℕ) (s : List ℕ) (a : x ≡ point "ⁿ" → ⊥) (b : x ≡ point "ᴺ" → ⊥) (c : x ≡ n → ⊥) where
  alone : paired (x ∷ unmarked s) ≡ x ∷ unsigned s
  unfolding begins
  alone = replace_miss (points "nn") [] x (unmarked s) (and_no _ _ (ne_eqb x n c))

  other_kept : (h : Bool) (stop : Bool) → stop_after stop (unsigned (held h ++ (x ∷ s))) ≡ stop_after (listed (points "ptkh") x) (unsigned s)
  unfolding begins stop_after
  other_kept true stop =
      ap (stop_after stop)
      (ap paired (n_stays (x ∷ s) ∙ ap (λ (l : List ℕ). n ∷ l) (other_stays x s a b))
      ∙ replace_miss (points "nn") [] n (x ∷ unmarked s) (and_no _ _ (ne_eqb x n c))
      ∙ ap (λ (l : List ℕ). n ∷ l) alone)
  other_kept false stop = ap (stop_after stop) (ap paired (other_stays x s a b) ∙ alone)

-- at the end
unsigned_held : (h : Bool) → unsigned (held h ++ []) ≡ held h
unsigned_held true = ap paired (n_stays [] ∙ ap (λ (l : List ℕ). n ∷ l) unmarked_nil) ∙ replace_short (points "nn") [] (n ∷ []) (omega arith)
  where
    unmarked_nil : unmarked [] ≡ []
    unmarked_nil = ap (replace_all (points "ᴺ") []) (replace_nil (points "ⁿ") []) ∙ replace_nil (points "ᴺ") []
unsigned_held false =
    ap (λ (l : List ℕ). paired (replace_all (points "ᴺ") [] l)) (replace_nil (points "ⁿ") []) ∙ ap paired (replace_nil (points "ᴺ") []) ∙ replace_nil (points "nn") []

-- the last code point
last_after : (stop : Bool) (x : ℕ) (s : List ℕ) → listed (points "ptkh") (get_or (x ∷ s) (length s) 0) ≡ stop_after stop (x ∷ s)
unfolding stop_after
last_after stop x [] = refl
last_after stop x (y ∷ s) = last_after (listed (points "ptkh") x) y s

last_stop : (s : List ℕ) → listed (points "ptkh") (last s) ≡ stop_after false s
unfolding last listed stop_after
last_stop [] = refl
last_stop (x ∷ s) =
    ap (λ (k : ℕ). listed (points "ptkh") (get_or (x ∷ s) k 0)) (suc-sub-suc (length s) 0 ∙ sub-zero (length s)) ∙ last_after false x s

-- ── the walk: what the body is to be shown, from a place on
abbrev pub stop_from : List ℕ → Bool → Bool → ℕ → Bool
stop_from body stop single i = stop_after stop (unsigned (held single ++ map lower (drop i body)))

pub stop_start : (body : List ℕ) → ends_in_stop body ≡ stop_from body false false 0
unfolding ends_in_stop
stop_start body = last_stop (unsigned (map lower body))

module _ (body : List ℕ) (stop single : Bool) (i : ℕ) (h : i < length body) (x : ℕ) (is : x ≡ lower (get_or body i 0)) where
  here : map lower (drop i body) ≡ x ∷ map lower (drop (i + 1) body)
  here = ap (map lower) (drop_next body i h) ∙ ap (λ (y : ℕ). y ∷ map lower (drop (i + 1) body)) (sym is)

  there : (stop' single' : Bool) → stop_after stop (unsigned (held single ++ (x ∷ map lower (drop (i + 1) body)))) ≡ stop_from body stop' single' (i + 1) → stop_from body stop single i ≡ stop_from body stop' single' (i + 1)
  there stop' single' e = ap (λ (l : List ℕ). stop_after stop (unsigned (held single ++ l))) here ∙ e

  pub stop_first : x ≡ point "ⁿ" → stop_from body stop single i ≡ stop_from body stop single (i + 1)
  stop_first e = there stop single (ap (stop_after stop) (sign_gone single x (map lower (drop (i + 1) body)) (first_gone x (map lower (drop (i + 1) body)) e)))

  pub stop_second : x ≡ point "ᴺ" → stop_from body stop single i ≡ stop_from body stop single (i + 1)
  stop_second e = there stop single (ap (stop_after stop) (sign_gone single x (map lower (drop (i + 1) body)) (second_gone x (map lower (drop (i + 1) body)) e)))

  pub stop_n : x ≡ n → stop_from body stop single i ≡ stop_from body stop (not single) (i + 1)
  stop_n e = there stop (not single) (ap (stop_after stop) (n_held single x (map lower (drop (i + 1) body)) e))

  pub stop_other : (x ≡ point "ⁿ" → ⊥) → (x ≡ point "ᴺ" → ⊥) → (x ≡ n → ⊥) → (r : Bool) → r ≡ listed (points "ptkh") x → stop_from body stop single i ≡ stop_from body r false (i + 1)
  stop_other a b c r e =
      there r false (other_kept x (map lower (drop (i + 1) body)) a b c single stop ∙ ap (λ (t : Bool). stop_after t (unsigned (map lower (drop (i + 1) body)))) (sym e))

pub stop_end : (body : List ℕ) (stop single : Bool) (i : ℕ) → length body ≤ i → stop_from body stop single i ≡ stop_after stop (held single)
stop_end body stop single i h =
    ap (λ (l : List ℕ). stop_after stop (unsigned (held single ++ map lower l))) (drop_of_length-le body h) ∙ ap (stop_after stop) (unsigned_held single)

pub stop_single : (stop : Bool) → stop_after stop (held true) ≡ false
unfolding stop_after listed
stop_single stop = refl

pub stop_none : (stop : Bool) → stop_after stop (held false) ≡ stop
unfolding stop_after
stop_none stop = refl

-- ── how a text ends
-- an ending that is as short as the rest of a text is an ending of the rest
ends_skip : (e s : List ℕ) (x : ℕ) → length e ≤ length s → ends_with e (x ∷ s) ≡ ends_with e s
unfolding ends_with
ends_skip e s x h =
    ap (λ (k : ℕ). same (drop k (x ∷ s)) e) (let z : suc (length s) - length e ≡ suc (length s - length e) = omega arith in z)

but_skip : (x y : ℕ) (s : List ℕ) → but_last 1 (x ∷ y ∷ s) ≡ x ∷ but_last 1 (y ∷ s)
unfolding but_last
but_skip x y s =
    ap (λ (k : ℕ). take k (x ∷ y ∷ s)) (let z : suc (suc (length s)) - 1 ≡ suc (suc (length s) - 1) = omega arith in z)

last_but_skip : (x y z : ℕ) (s : List ℕ) → last (but_last 1 (x ∷ y ∷ z ∷ s)) ≡ last (but_last 1 (y ∷ z ∷ s))
last_but_skip x y z s =
    ap last (but_skip x y (z ∷ s) ∙ ap (λ (l : List ℕ). x ∷ l) (but_skip y z s))
    ∙ last_skip x y (but_last 1 (z ∷ s))
    ∙ ap last (sym (but_skip y z s))

-- one code point, and two
ends_one : (a : ℕ) → (0 ≡ a → ⊥) → (s : List ℕ) → ends_with (a ∷ []) s ≡ eqb (last s) a
unfolding ends_with last same
ends_one a h [] = sym (ne_eqb 0 a h)
ends_one a h (x ∷ []) = and_true (eqb x a)
ends_one a h (x ∷ (y ∷ s)) = ends_skip (a ∷ []) (y ∷ s) x (omega arith) ∙ ends_one a h (y ∷ s) ∙ ap (λ (z : ℕ). eqb z a) (sym (last_skip x y s))

ends_two : (a b : ℕ) → (0 ≡ a → ⊥) → (0 ≡ b → ⊥) → (s : List ℕ) → ends_with (a ∷ b ∷ []) s ≡ (eqb (last s) b && eqb (last (but_last 1 s)) a)
unfolding ends_with last but_last same
ends_two a b h g [] = sym (and_no _ _ (ne_eqb 0 b g))
ends_two a b h g (x ∷ []) = and_false (eqb x a) ∙ sym (ap (λ (t : Bool). eqb x b && t) (ne_eqb 0 a h) ∙ and_false (eqb x b))
ends_two a b h g (x ∷ (y ∷ [])) = ap (λ (t : Bool). eqb x a && t) (and_true (eqb y b)) ∙ and_swap (eqb x a) (eqb y b)
  where
    and_swap : (p q : Bool) → (p && q) ≡ (q && p)
    and_swap true q = sym (and_true q)
    and_swap false q = sym (and_false q)
ends_two a b h g (x ∷ (y ∷ (z ∷ s))) =
    ends_skip (a ∷ b ∷ []) (y ∷ z ∷ s) x (omega arith)
    ∙ ends_two a b h g (y ∷ z ∷ s)
    ∙ ap₂ (λ (p q : ℕ). eqb p b && eqb q a) (sym (last_skip x y (z ∷ s))) (sym (last_but_skip x y z s))

-- the o of either case
lower_o : (x : ℕ) → (eqb x (point "o") || eqb x (point "O")) ≡ eqb (lower x) (point "o")
unfolding lower
lower_o x = by_letter (ℕ_discrete x (point "o")) (ℕ_discrete x (point "O"))
  where
    neither : (x ≡ point "o" → ⊥) → (x ≡ point "O" → ⊥) → (b : Bool) → within (point "A") (point "Z") x ≡ b → pick_number b (x + 32) x ≡ point "o" → ⊥
    neither p q true w e = q (omega arith)
    neither p q false w e = p e

    by_letter : Dec (x ≡ point "o") → Dec (x ≡ point "O") → (eqb x (point "o") || eqb x (point "O")) ≡ eqb (lower x) (point "o")
    by_letter (yes e) d = rw e
    by_letter (no p) (yes e) = rw e
    by_letter (no p) (no q) =
        or_no _ _ (ne_eqb x (point "o") p) ∙ ne_eqb x (point "O") q ∙ sym (ne_eqb (lower x) (point "o") (neither p q (within (point "A") (point "Z") x) refl))

ends_o : (mark : ℕ) → (0 ≡ mark → ⊥) → (s : List ℕ) → (ends_with (marked "o" mark) s || ends_with (marked "O" mark) s) ≡ (eqb (last s) mark && eqb (lower (last (but_last 1 s))) (point "o"))
ends_o mark h s =
    ap₂ (λ (p q : Bool). p || q) (ends_two (point "o") mark (λ e. omega arith) h s) (ends_two (point "O") mark (λ e. omega arith) h s)
    ∙ shared (eqb (last s) mark) (eqb (last (but_last 1 s)) (point "o")) (eqb (last (but_last 1 s)) (point "O"))
    ∙ ap (λ (b : Bool). eqb (last s) mark && b) (lower_o (last (but_last 1 s)))
  where
    shared : (p q r : Bool) → ((p && q) || (p && r)) ≡ (p && (q || r))
    shared true q r = refl
    shared false q r = refl

-- ── which branch it is
module _ (key : ℕ) (given : List ℕ) where
  abbrev low : ℕ
  low = lower key

  abbrev before : ℕ
  before = lower (last (but_last 1 given))

  abbrev end : ℕ
  end = last given

  either_end : (a b : ℕ) → (0 ≡ a → ⊥) → (0 ≡ b → ⊥) → (ends_with (a ∷ []) given || ends_with (b ∷ []) given) ≡ (eqb end a || eqb end b)
  either_end a b h g = ap₂ (λ (p q : Bool). p || q) (ends_one a h given) (ends_one b g given)

  pub edit_at_law : edit_at key given ≡ edit_by low before end
  unfolding edit_at edit_by opens_nasal opens_dot opens_o opens_u
  edit_at_law =
      rw (
        either_end (point "ⁿ") (point "ᴺ") (λ e. omega arith) (λ e. omega arith),
        either_end 0x1E73 0x1E72 (λ e. omega arith) (λ e. omega arith),
        ends_o 0x0358 (λ e. omega arith) given,
        ends_o 0x0324 (λ e. omega arith) given,
      )

  -- no other key opens a branch
  pub edit_other : (low ≡ point "n" → ⊥) → (low ≡ point "u" → ⊥) → (low ≡ point "o" → ⊥) → edit_at key given ≡ Compose
  unfolding edit_by
  edit_other a b c = edit_at_law ∙ rw (ne_eqb low (point "n") a, ne_eqb low (point "u") b, ne_eqb low (point "o") c)

-- the branch by what was read from the end of the bytes
members_take : (n : ℕ) (s : List ℕ) → members unicode16 s ≡ true → members unicode16 (take n s) ≡ true
unfolding members
members_take zero s h = refl
members_take (suc n) [] h = refl
members_take (suc n) (x ∷ s) h =
    and_yes _ _ (and_left (member unicode16 x) (members unicode16 s) h) ∙ members_take n s (and_right (member unicode16 x) (members unicode16 s) h)

module _ (key : ℕ) (given text : List ℕ) (is : check_points unicode16 (decode text) ≡ good given) where
  passed : Passed unicode16 (length text) text given
  passed = points_passed text given is

  end_read : last_point text ≡ last given
  end_read = ap last_point (sym passed.written) ∙ last_back given passed.inside

  before_read : last_point (take (last_start text) text) ≡ last (but_last 1 given)
  unfolding but_last
  before_read =
      ap (λ (l : List ℕ). last_point (take (last_start l) l)) (sym passed.written)
      ∙ ap last_point (front_bytes given)
      ∙ last_back (but_last 1 given) (members_take (length given - 1) given passed.inside)

  pub edit_read : {low n b before end : ℕ} → low ≡ lower key → n ≡ last_start text → b ≡ last_point (take n text) → before ≡ lower b → end ≡ last_point text → edit_by low before end ≡ edit_at key given
  edit_read {end = end} el en eb ebefore eend =
      let b_is = eb ∙ ap (λ (m : ℕ). last_point (take m text)) en ∙ before_read in
      ap₂ (λ (x y : ℕ). edit_by x y end) el (ebefore ∙ ap lower b_is)
      ∙ ap (edit_by (lower key) (lower (last (but_last 1 given)))) (eend ∙ end_read)
      ∙ sym (edit_at_law key given)

module _ (k : ToneKeys) (key : ℕ) (tone : Tone) (given : List ℕ) where
  pub edit_else : repeats_tone k key tone ≡ false → edit_at key given ≡ edit_of k key tone given
  unfolding edit_of
  edit_else e = sym (ap (λ (b : Bool). pick_edit b Behind (edit_at key given)) e)

-- ── the step, by its branch
module _ (t : Table) (k : ToneKeys) (key : ℕ) (given : List ℕ) (tone : Tone) (rest : List ℕ) where
  composed_is : is_some (tone_letter rest) ≡ has_tone_letter t given → composed_step t k key given tone rest ≡ composed_of t k key tone rest
  unfolding composed_step composed_of
  composed_is e =
      ap (λ (b : Bool). pick_text (not (is_first tone) || b) (pick_text (is_tone (key_to_tone k (lower key))) (toned t k key rest) (joined t k key tone rest)) (bare t key rest)) (sym e)

  by_branch : (r n d o u : Bool) → (c : List ℕ) → c ≡ composed_of t k key tone rest
      → pick_text r (rest ++ (key ∷ [])) (pick_text n (but_last 1 rest ++ (key ∷ [])) (pick_text d (but_last 1 rest ++ (key ∷ [])) (pick_text o (but_last 2 rest ++ (e_like key ∷ key ∷ [])) (pick_text u (but_last 2 rest ++ (e_like key ∷ key ∷ [])) c))))
      ≡ edited t k (pick_edit r Behind (pick_edit (n || d) Last (pick_edit (o || u) LastTwo Compose))) key tone rest
  by_branch true n d o u c e = refl
  by_branch false true d o u c e = refl
  by_branch false false true o u c e = refl
  by_branch false false false true u c e = refl
  by_branch false false false false true c e = refl
  by_branch false false false false false c e = e

  pub step_is : is_some (tone_letter rest) ≡ has_tone_letter t given → step t k key given tone rest ≡ edited t k (edit_of k key tone given) key tone rest
  unfolding step edit_of edit_at
  step_is e =
      by_branch (repeats_tone k key tone) (opens_nasal key given) (opens_dot key given) (opens_o key given) (opens_u key given) (composed_step t k key given tone rest) (composed_is e)

-- ── when each branch applies, in their order
module _ (t : Table) (k : ToneKeys) (key : ℕ) (given : List ℕ) (tone : Tone) (rest : List ℕ) where
  abbrev Step : List ℕ → Type 0
  Step text = step t k key given tone rest ≡ text

  pub step_repeated : repeats_tone k key tone ≡ true → Step (rest ++ (key ∷ []))
  unfolding step
  step_repeated r = rw r

  module _ (r : repeats_tone k key tone ≡ false) where
    pub step_nasal : opens_nasal key given ≡ true → Step (but_last 1 rest ++ (key ∷ []))
    unfolding step
    step_nasal a = rw (r, a)

    module _ (a : opens_nasal key given ≡ false) where
      pub step_dot : opens_dot key given ≡ true → Step (but_last 1 rest ++ (key ∷ []))
      unfolding step
      step_dot d = rw (r, a, d)

      module _ (d : opens_dot key given ≡ false) where
        pub step_o : opens_o key given ≡ true → Step (but_last 2 rest ++ (e_like key ∷ key ∷ []))
        unfolding step
        step_o o = rw (r, a, d, o)

        module _ (o : opens_o key given ≡ false) where
          pub step_u : opens_u key given ≡ true → Step (but_last 2 rest ++ (e_like key ∷ key ∷ []))
          unfolding step
          step_u u = rw (r, a, d, o, u)

          -- a text that takes tones: a tone key, and any other key
          module _ (u : opens_u key given ≡ false) where
            pub step_toned : (not (is_first tone) || has_tone_letter t given) ≡ true → is_tone (key_to_tone k (lower key)) ≡ true → Step (toned t k key rest)
            unfolding step composed_step
            step_toned y c = rw (r, a, d, o, u, y, c)

            pub step_joined : (not (is_first tone) || has_tone_letter t given) ≡ true → is_tone (key_to_tone k (lower key)) ≡ false → Step (joined t k key tone rest)
            unfolding step composed_step
            step_joined y c = rw (r, a, d, o, u, y, c)

            -- a text of tone 1 without a tone letter
            pub step_bare : (not (is_first tone) || has_tone_letter t given) ≡ false → Step (bare t key rest)
            unfolding step composed_step
            step_bare y = rw (r, a, d, o, u, y)

-- ── an ASCII text takes none of the branches before the last
module _ (low before end : ℕ) (h : end ≤ 0x7F) where
  low_end : edit_by low before end ≡ Compose
  unfolding edit_by
  low_end =
      rw (
        ne_eqb end (point "ⁿ") (λ e. omega arith),
        ne_eqb end (point "ᴺ") (λ e. omega arith),
        ne_eqb end 0x0358 (λ e. omega arith),
        ne_eqb end 0x0324 (λ e. omega arith),
        ne_eqb end 0x1E73 (λ e. omega arith),
        ne_eqb end 0x1E72 (λ e. omega arith),
        and_false (eqb low (point "n")),
        and_false (eqb low (point "u") || eqb low (point "o")),
        and_false (eqb low (point "o")),
        and_false (eqb low (point "u")),
      )

module _ (k : ToneKeys) (key : ℕ) (s : List ℕ) (h : all_ascii s ≡ true) where
  -- its tone is the first or the fourth, which have no key
  ascii_repeats : repeats_tone k key (unmarked_tone s) ≡ false
  unfolding repeats_tone unmarked_tone
  ascii_repeats =
      either (ends_in_any stop_endings s)
      (λ y. ap (λ (b : Bool). repeats_tone k key (pick_tone b T4 T1)) y)
      (λ n. ap (λ (b : Bool). repeats_tone k key (pick_tone b T4 T1)) n)

  ascii_edit : edit_of k key (unmarked_tone s) s ≡ Compose
  unfolding last
  ascii_edit =
      sym (edit_else k key (unmarked_tone s) s ascii_repeats)
      ∙ edit_at_law key s
      ∙ low_end (lower key) (lower (last (but_last 1 s))) (last s) (ascii_at s (length s - 1) h)

  pub ascii_step : step_of unicode16 k key s ≡ composed_of unicode16 k key (unmarked_tone s) s
  unfolding step_of
  ascii_step =
      step_is unicode16 k key s (strip unicode16 s).tone (strip unicode16 s).rest (letter_stripped unicode16 s)
      ∙ ap₂ (λ (o : Tone) (r : List ℕ). edited unicode16 k (edit_of k key o s) key o r) (ascii_tone s h) (ascii_stripped s h)
      ∙ ap (λ (e : Edit). edited unicode16 k e key (unmarked_tone s) s) ascii_edit

-- ── the buffer of code points
-- without the last two code points, one after the other
pub but_two : (s : List ℕ) → but_last 1 (but_last 1 s) ≡ but_last 2 s
unfolding but_last
but_two s =
    let n : ℕ = length s - 1 in
    let few : n ≤ length s = omega arith in
    let less : n - 1 ≤ n = omega arith in
    let two : n - 1 ≡ length s - 2 = omega arith in
    ap (λ (l : ℕ). take (l - 1) (take n s)) (length-take-le n s few) ∙ take-take (n - 1) n s less ∙ ap (λ (m : ℕ). take m s) two

-- the text at the front of a buffer, and a key stored behind it
pub key_stored : (bytes : List ℕ) (n key : ℕ) → n < length bytes → take (n + 1) (set bytes n key) ≡ take n bytes ++ (key ∷ [])
key_stored bytes n key h = ap (λ (k : ℕ). take k (set bytes n key)) (add-one n) ∙ take-suc-set bytes n key h

-- the bytes of a text and of an ASCII key behind it
pub key_behind : (rest : List ℕ) (key : ℕ) → key ≤ 0x7F → encode rest ++ (key ∷ []) ≡ encode (rest ++ (key ∷ []))
key_behind rest key h =
    sym (encode_append rest (key ∷ []) ∙ ap (λ (l : List ℕ). encode rest ++ l) (encode_cons key [] ∙ ap₂ ◌++◌ (bytes_one key h) encode_nil))

-- the bytes that are left before the last code point
pub cut_bytes : (bytes rest : List ℕ) (n r : ℕ) → take n bytes ≡ encode rest → r ≡ last_start (take n bytes) → r ≤ n → take r bytes ≡ encode (but_last 1 rest)
cut_bytes bytes rest n r e f h =
    sym (take-take r n bytes h) ∙ ap₂ take (f ∙ ap last_start e) e ∙ front_bytes rest
