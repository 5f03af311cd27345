-- The forms of a part in bytes: what the call gives, and which of them are the part's choices.
use mathlib.Core.Path.{◌≡◌, refl, sym, ap, ap₂, ◌∙◌, subst}
use mathlib.Core.Bool.{Bool, true, false, ◌&&◌}
use mathlib.Core.List.{List, [], ◌∷◌, ◌++◌, map}
use Prim.Native.Nat.{ℕ, ◌+◌, ◌*◌, ◌≤◌, ◌<◌}
use native.Mathlib.Omega.{arith}
use borrow.Author.Tests.{le-leb}
use lib.Dec.{T, eqb}
use Rattle.std.specs.Cmp.Lexicographic.{pointwise}
use lib.ListN.{length, take, length-append}
use lib.Seq.{take_at}
use Rattle.ji.specs.Unicode.{unicode16, same}
use Rattle.ji.specs.Utf8.{encode}
use Rattle.ji.specs.Reply.{Reply, refusal_number, refused, over, answered, pick_reply, good, check_text, text_call, text_reply}
use Rattle.ji.specs.Lomaji.Keys.{keys}
use Rattle.ji.specs.declared.reply.Refusal.{Refusal}
use Rattle.ji.specs.declared.reply.Refusal.TheVariants.{Argument, TooLong, IllFormed, OutsideTable, Parts, Position, NoRoom}
use Rattle.ji.specs.declared.unicode.ByteLen.{ByteLen}
use Rattle.ji.specs.declared.lomaji.keys.Form.{Form}
use Rattle.ji.specs.declared.lomaji.keys.Form.TheVariants.{Plain, Oo}
use Rattle.ji.specs.declared.lomaji.keys.Kind.{Kind}
use Rattle.ji.specs.declared.lomaji.keys.Kind.TheVariants.{Detoned, Numeric, Telex}
use Rattle.ji.proofs.Bools.{either, false_true}
use Rattle.ji.proofs.Replies.{text_good}
use Rattle.ji.proofs.lomaji.keys.Bytes.{added_key, toned_bytes, keys_bytes}
use Rattle.ji.proofs.unicode.Bytes.{same_equal, same_itself, same_bytes}
use Rattle.ji.proofs.unicode.Checked.{check_passed}
use Rattle.khiin_entries.specs.KeySequence.{pick_texts, holds_dot, alone, forms, choices}
use Rattle.ji.specs.Lomaji.Dot.{dot_in}
use Rattle.khiin_entries.specs.Choices.{points_of, form_bytes, is_toned, choices_of}
use Rattle.khiin_entries.proofs.key_sequence.Splitting.{dot_bytes}
use Rattle.std.specs.Prelude.{Result, Ok, Err, IsOk}

-- ── what the call gives
refusal_some : (why : Refusal) → 0 < refusal_number why
refusal_some Argument = omega arith
refusal_some TooLong = omega arith
refusal_some IllFormed = omega arith
refusal_some OutsideTable = omega arith
refusal_some Parts = omega arith
refusal_some Position = omega arith
refusal_some NoRoom = omega arith

module _ (form : Form) (kind : Kind) (part buffer : List ℕ) (h : check_text unicode16 part ≡ good (points_of part)) (room : length (form_bytes unicode16 form kind part) ≤ length buffer) where
  call_is : text_call unicode16 (keys unicode16 form kind) part buffer ≡ answered 0 (form_bytes unicode16 form kind part) buffer
  unfolding form_bytes
  call_is =
      let output = encode (keys unicode16 form kind (points_of part)) in
      sym (text_good unicode16 (keys unicode16 form kind) part buffer (points_of part) h)
      ∙ ap (λ (b : Bool). pick_reply b (answered 0 output buffer) (refused NoRoom buffer)) (le-leb (length output) (length buffer) room)

  module _ (answer : Result ByteLen Refusal) (after : List ℕ) (says : text_reply answer after ≡ text_call unicode16 (keys unicode16 form kind) part buffer) where
    told : (x : Result ByteLen Refusal) → answer ≡ x → text_reply x after ≡ answered 0 (form_bytes unicode16 form kind part) buffer
    told x e = ap (λ (a : Result ByteLen Refusal). text_reply a after) (sym e) ∙ says ∙ call_is

    pub call_length : (n : ByteLen) → answer ≡ Ok n → n.0 ≡ length (form_bytes unicode16 form kind part)
    call_length n e = ap (λ (r : Reply). r.length) (told (Ok n) e)

    pub call_buffer : (n : ByteLen) → answer ≡ Ok n → after ≡ over (form_bytes unicode16 form kind part) buffer
    call_buffer n e = ap (λ (r : Reply). r.buffer) (told (Ok n) e)

    pub call_answers : (x : Result ByteLen Refusal) → answer ≡ x → IsOk x
    call_answers (Ok n) e = refl
    call_answers (Err why) e = absurd (omega (arith, refusal_some why, ap (λ (r : Reply). r.code) (told (Err why) e)))

-- ── what `==` says of two texts
pub same_pointwise : (a b : List ℕ) → pointwise eqb a b ≡ same a b
unfolding same
same_pointwise [] [] = refl
same_pointwise [] (y ∷ b) = refl
same_pointwise (x ∷ a) [] = refl
same_pointwise (x ∷ a) (y ∷ b) = ap (λ (t : Bool). eqb x y && t) (same_pointwise a b)

-- ── the forms of a part
module _ (part : List ℕ) (h : check_text unicode16 part ≡ good (points_of part)) where
  written : encode (points_of part) ≡ part
  unfolding check_text
  written = (check_passed unicode16 256 part (points_of part) h).written

  -- a form has at most five bytes for each two of the part, and one more
  pub form_bytes_law : (form : Form) (kind : Kind) → 2 * length (form_bytes unicode16 form kind part) ≤ 5 * length part + 2
  unfolding form_bytes
  form_bytes_law form kind = omega (arith, keys_bytes form kind (points_of part), ap length written)

  -- a toned form is the detoned one and one byte more
  pub form_toned : (form : Form) (kind : Kind) → is_toned kind ≡ true → form_bytes unicode16 form kind part ≡ form_bytes unicode16 form Detoned part ++ (added_key unicode16 kind (points_of part) ∷ [])
  unfolding form_bytes
  form_toned form Detoned e = absurd (false_true e)
  form_toned form Numeric e = toned_bytes unicode16 form Numeric (points_of part) refl
  form_toned form Telex e = toned_bytes unicode16 form Telex (points_of part) refl

  dot_is : holds_dot (points_of part) ≡ dot_in part
  dot_is = sym (dot_bytes (points_of part)) ∙ ap dot_in written

  -- two toned forms are the same where the detoned ones are
  same_as : (a b x y : List ℕ) → (x ≡ y → a ≡ b) → (a ≡ b → x ≡ y) → same a b ≡ same x y
  same_as a b x y from to =
      either (same x y)
      (λ e. ap (same a) (sym (from (same_equal x y (subst T (sym e) tt)))) ∙ same_itself a ∙ sym e)
      (λ e. either (same a b) (λ f. absurd (false_true (sym e ∙ ap (same x) (sym (to (same_equal a b (subst T (sym f) tt)))) ∙ same_itself x))) (λ f. f ∙ sym e))

  front_equal : (a b : List ℕ) (k : ℕ) → a ++ (k ∷ []) ≡ b ++ (k ∷ []) → a ≡ b
  front_equal a b k e =
      let n : length a ≡ length b = omega (arith, ap length e, length-append a (k ∷ []), length-append b (k ∷ [])) in
      sym (take_at a (k ∷ []) (length a) refl) ∙ ap₂ take n e ∙ take_at b (k ∷ []) (length b) refl

  same_toned : (kind : Kind) → is_toned kind ≡ true → same (form_bytes unicode16 Plain kind part) (form_bytes unicode16 Oo kind part) ≡ same (form_bytes unicode16 Plain Detoned part) (form_bytes unicode16 Oo Detoned part)
  same_toned kind e =
      let k = added_key unicode16 kind (points_of part) in
      let p = form_toned Plain kind e in
      let o = form_toned Oo kind e in
      same_as _ _ _ _ (λ q. p ∙ ap (λ (l : List ℕ). l ++ (k ∷ [])) q ∙ sym o) (λ q. front_equal _ _ k (sym p ∙ q ∙ o))

  same_kind : (kind : Kind) → same (form_bytes unicode16 Plain kind part) (form_bytes unicode16 Oo kind part) ≡ same (form_bytes unicode16 Plain Detoned part) (form_bytes unicode16 Oo Detoned part)
  same_kind Detoned = refl
  same_kind Numeric = same_toned Numeric refl
  same_kind Telex = same_toned Telex refl

  -- ── its choices
  map_pick : (b : Bool) (x y : List (List ℕ)) → map encode (pick_texts b x y) ≡ pick_texts b (map encode x) (map encode y)
  map_pick true x y = refl
  map_pick false x y = refl

  abbrev form : Form → Kind → List ℕ
  form f kind = form_bytes unicode16 f kind part

  -- of the only part
  single_are : (kind : Kind) → choices_of unicode16 true kind part ≡ pick_texts (same (form Plain kind) (form Oo kind)) (form Plain kind ∷ []) (form Plain kind ∷ form Oo kind ∷ [])
  unfolding choices_of alone form_bytes
  single_are kind =
      let p = keys unicode16 Plain kind (points_of part) in
      let o = keys unicode16 Oo kind (points_of part) in
      let d = same (keys unicode16 Plain Detoned (points_of part)) (keys unicode16 Oo Detoned (points_of part)) in
      map_pick d (p ∷ []) (p ∷ o ∷ [])
      ∙ ap (λ (b : Bool). pick_texts b (encode p ∷ []) (encode p ∷ encode o ∷ []))
      (sym (same_bytes (keys unicode16 Plain Detoned (points_of part)) (keys unicode16 Oo Detoned (points_of part))) ∙ sym (same_kind kind))

  pub single_one : (kind : Kind) → same (form Plain kind) (form Oo kind) ≡ true → choices_of unicode16 true kind part ≡ form Plain kind ∷ []
  single_one kind e = single_are kind ∙ ap (λ (b : Bool). pick_texts b (form Plain kind ∷ []) (form Plain kind ∷ form Oo kind ∷ [])) e

  pub single_two : (kind : Kind) → same (form Plain kind) (form Oo kind) ≡ false → choices_of unicode16 true kind part ≡ form Plain kind ∷ form Oo kind ∷ []
  single_two kind e = single_are kind ∙ ap (λ (b : Bool). pick_texts b (form Plain kind ∷ []) (form Plain kind ∷ form Oo kind ∷ [])) e

  -- of one of several
  forms_are : (b : Bool) → dot_in part ≡ b → (kind : Kind) → map encode (forms unicode16 kind (points_of part)) ≡ pick_texts b (form Plain kind ∷ form Oo kind ∷ []) (form Plain kind ∷ [])
  unfolding forms form_bytes
  forms_are b e kind =
      let p = keys unicode16 Plain kind (points_of part) in
      let o = keys unicode16 Oo kind (points_of part) in
      ap (λ (x : Bool). map encode (pick_texts x (p ∷ o ∷ []) (p ∷ []))) (dot_is ∙ e) ∙ map_pick b (p ∷ o ∷ []) (p ∷ [])

  map_append : (x y : List (List ℕ)) → map encode (x ++ y) ≡ map encode x ++ map encode y
  map_append [] y = refl
  map_append (a ∷ x) y = ap (λ (l : List (List ℕ)). encode a ∷ l) (map_append x y)

  pub several_detoned : (kind : Kind) → is_toned kind ≡ false → (b : Bool) → dot_in part ≡ b → choices_of unicode16 false kind part ≡ pick_texts b (form Plain kind ∷ form Oo kind ∷ []) (form Plain kind ∷ [])
  unfolding choices_of
  several_detoned Detoned t b e = forms_are b e Detoned
  several_detoned Numeric t b e = absurd (false_true (sym t))
  several_detoned Telex t b e = absurd (false_true (sym t))

  pub several_toned : (kind : Kind) → is_toned kind ≡ true → (b : Bool) → dot_in part ≡ b → choices_of unicode16 false kind part ≡ pick_texts b (form Plain kind ∷ form Oo kind ∷ form Plain Detoned ∷ form Oo Detoned ∷ []) (form Plain kind ∷ form Plain Detoned ∷ [])
  unfolding choices_of
  several_toned kind t b e = both kind t ∙ ap₂ (λ (x y : List (List ℕ)). x ++ y) (forms_are b e kind) (forms_are b e Detoned) ∙ joined b
    where
      both : (kind : Kind) → is_toned kind ≡ true → map encode (choices unicode16 kind (points_of part)) ≡ map encode (forms unicode16 kind (points_of part)) ++ map encode (forms unicode16 Detoned (points_of part))
      both Detoned t = absurd (false_true t)
      both Numeric t = map_append (forms unicode16 Numeric (points_of part)) (forms unicode16 Detoned (points_of part))
      both Telex t = map_append (forms unicode16 Telex (points_of part)) (forms unicode16 Detoned (points_of part))

      joined : (b : Bool) → pick_texts b (form Plain kind ∷ form Oo kind ∷ []) (form Plain kind ∷ []) ++ pick_texts b (form Plain Detoned ∷ form Oo Detoned ∷ []) (form Plain Detoned ∷ []) ≡ pick_texts b (form Plain kind ∷ form Oo kind ∷ form Plain Detoned ∷ form Oo Detoned ∷ []) (form Plain kind ∷ form Plain Detoned ∷ [])
      joined true = refl
      joined false = refl
