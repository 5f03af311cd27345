use mathlib.Core.Path.{◌≡◌, refl, sym, ap, ◌∙◌, subst}
use mathlib.Core.Bool.{true}
use mathlib.Core.List.{List, [], ◌∷◌, ◌++◌}
use Prim.Native.Nat.{ℕ, ◌+◌, ◌≤◌, ◌<◌}
use borrow.Author.Tests.{eqb-true, eqb-false}
use lib.Dec.{eqb}
use lib.ListN.{length, take, set, length-set, length-append}
use lib.Seq.{length-take-le, take-take, take-set-le, take_all}
use Rattle.ji.specs.Unicode.{unicode16}
use Rattle.ji.specs.Utf8.{encode}
use Rattle.ji.specs.Text.{all_ascii}
use Rattle.ji.specs.Reply.{placed}
use Rattle.ji.specs.declared.tone.Tone.{Tone}
use Rattle.ji.specs.declared.lomaji.khin.Khin.TheVariants.{No}
use Rattle.ji.proofs.Bools.{either, text_yes, text_no}
use Rattle.ji.proofs.unicode.Bytes.{encode_one_to_one, fewer}
use Rattle.khiin.specs.Syllable.{compose}
use Rattle.khiin.specs.Converter.{grown}
use Rattle.khiin.specs.Telex.{composed_of}
use Rattle.khiin.specs.declared.converter.ToneKeys.{ToneKeys}
use Rattle.khiin.proofs.syllable.plain.Laws.{front_ascii}
use Rattle.khiin.proofs.converter.Laws.{key_stored}
use borrow.Author.Rules.{rules}
use native.Mathlib.Omega.{arith}
use Rattle.khiin.proofs.converter.Step.compose_step.Goals as goal

module _ (p : List ℕ) (n x key : ℕ) (same : x ≡ key) (h : n + 2 < length p) where
  abbrev stored : List ℕ
  stored = set p n x

  abbrev whole : List ℕ
  whole = take (n + 1) stored

  size : length whole ≡ n + 1
  size = length-take-le (n + 1) stored (omega (arith, length-set p n x))

  front_same : take n whole ≡ take n p
  front_same = take-take n (n + 1) stored (omega arith) ∙ take-set-le n p n x (omega arith)

  key_is : take (n + 1) stored ≡ take n p ++ (key ∷ [])
  key_is = key_stored p n x (omega arith) ∙ ap (λ (k : ℕ). take n p ++ (k ∷ [])) same

  grown_same : (len : ℕ) → (key ≡ 0x20 → len ≡ n) → ((key ≡ 0x20 → ⊥) → len ≡ n + 1) → grown key (take n whole) ≡ take len whole
  grown_same len f g =
      either (eqb key 0x20)
      (λ e. text_yes (eqb key 0x20) _ _ e ∙ ap (λ (m : ℕ). take m whole) (sym (f (eqb-true key 0x20 e))))
      (λ e.
      text_no (eqb key 0x20) _ _ e
      ∙ ap (λ (l : List ℕ). l ++ (key ∷ [])) front_same
      ∙ sym key_is
      ∙ sym (ap (λ (m : ℕ). take m whole) (g (eqb-false key 0x20 e)) ∙ take_all (n + 1) whole (omega (arith, size))))

  part_same : (c : ℕ) → c ≤ length whole → take c whole ≡ take c stored
  part_same c l = take-take c (n + 1) stored (omega (arith, size))

  step_text : (k : ToneKeys) (tone : Tone) (len c : ℕ) (o : Tone) → (key ≡ 0x20 → len ≡ n) → ((key ≡ 0x20 → ⊥) → len ≡ n + 1) → c ≤ length whole
      → (grown key (take n whole) ≡ take len whole → composed_of unicode16 k key tone (take n whole) ≡ compose unicode16 (take n whole ++ (key ∷ [])) (take c whole) o No)
      → compose unicode16 (take n p ++ (key ∷ [])) (take c stored) o No ≡ composed_of unicode16 k key tone (take n p)
  step_text k tone len c o f g l e =
      ap (λ (b : List ℕ). compose unicode16 (take n p ++ (key ∷ [])) b o No) (sym (part_same c l))
      ∙ ap (λ (r : List ℕ). compose unicode16 (r ++ (key ∷ [])) (take c whole) o No) (sym front_same)
      ∙ sym (e (grown_same len f g))
      ∙ ap (composed_of unicode16 k key tone) front_same

  -- the bytes of the text and the key, and what of them the quick way takes for the body
  module _ (raw : List ℕ) (is : raw ≡ encode (take n p ++ (key ∷ []))) where
    abbrev typed_text : List ℕ
    typed_text = take n p ++ (key ∷ [])

    typed_long : length typed_text ≡ n + 1
    typed_long = length-append (take n p) (key ∷ []) ∙ ap (λ (k : ℕ). k + 1) (length-take-le n p (omega arith))

    raw_long : n + 1 ≤ length raw
    raw_long = omega (arith, ap length is, fewer typed_text, typed_long)

    body_same : (c : ℕ) → c ≤ length whole → all_ascii (take c raw) ≡ true → take c raw ≡ take c stored
    body_same c l ascii =
        let e : take c raw ≡ take c (encode typed_text) = ap (take c) is in
        e
        ∙ front_ascii typed_text c (omega (arith, l, size, typed_long)) (subst (λ (u : List ℕ). all_ascii u ≡ true) e ascii)
        ∙ ap (take c) (sym key_is)
        ∙ part_same c l

    -- the same of any raw input with these bytes, and of the body as either way reads it
    any_text : (points body : List ℕ) → raw ≡ encode points → (k : ToneKeys) (tone : Tone) (len c : ℕ) (o : Tone) → body ≡ take c stored → (key ≡ 0x20 → len ≡ n) → ((key ≡ 0x20 → ⊥) → len ≡ n + 1) → c ≤ length whole
        → (grown key (take n whole) ≡ take len whole → composed_of unicode16 k key tone (take n whole) ≡ compose unicode16 (take n whole ++ (key ∷ [])) (take c whole) o No)
        → compose unicode16 points body o No ≡ composed_of unicode16 k key tone (take n p)
    any_text points body same_raw k tone len c o same_body f g l e =
        ap (λ (b : List ℕ). compose unicode16 points b o No) same_body
        ∙ ap (λ (s : List ℕ). compose unicode16 s (take c stored) o No) (encode_one_to_one points typed_text (sym same_raw ∙ is))
        ∙ step_text k tone len c o f g l e

pub slice_bounds-compose_plain-end : goal.slice_bounds-compose_plain-end
slice_bounds-compose_plain-end c =
    let s = size c.args.points.now c.args.n c.from.result c.args.self.key c.from.ensures c.requires.1 in
    let more = raw_long c.args.points.now c.args.n c.from.result c.args.self.key c.from.ensures c.requires.1 c.args.raw.now c.requires.2 in
    sym (length-take-le c.typed-body.result.len c.args.raw.now (omega (arith, c.typed-body.ensures.0, s, more)))

pub returns-in-Some : goal.returns-in-Some
returns-in-Some c =
    let a = c.args in
    let h = c.typed-body.ensures in
    let same = body_same a.points.now a.n c.from.result a.self.key c.from.ensures c.requires.1 a.raw.now c.requires.2 c.typed-body.result.len h.0 (c.in-Some.ensures.0 refl) in
    c.in-Some.ensures.1
    ∙ ap (λ (l : List ℕ). placed 0 (encode l) a.out.now)
    (any_text a.points.now a.n c.from.result a.self.key c.from.ensures c.requires.1 a.raw.now c.requires.2 _ _ (search rules) a.self.keys a.self.tone _ _ _ same c.grown_len.ensures.0 c.grown_len.ensures.1 h.0 h.1)

pub returns : goal.returns
returns c =
    let a = c.args in
    let h = c.typed-body.ensures in
    c.compose_points.ensures
    ∙ ap (placed 0 _) c.in_default.ensures.1
    ∙ ap (λ (l : List ℕ). placed 0 (encode l) a.out.now)
    (any_text a.points.now a.n c.from.result a.self.key c.from.ensures c.requires.1 a.raw.now c.requires.2 _ _ (search rules) a.self.keys a.self.tone _ _ _ refl c.grown_len.ensures.0 c.grown_len.ensures.1 h.0 h.1)
