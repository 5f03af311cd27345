use mathlib.Core.Path.{◌≡◌, sym, ap, ap₂, ◌∙◌}
use mathlib.Core.Bool.{Bool, true, false}
use mathlib.Core.List.{List, [], ◌∷◌, ◌++◌, append_assoc}
use Prim.Native.Nat.{ℕ, ◌+◌, ◌≤◌, ◌<◌}
use native.Mathlib.Numerals.{add-one}
use lib.Dec.{eqb}
use lib.ListN.{length, take, set}
use lib.Seq.{take-suc-set}
use Rattle.ji.specs.Text.{lower, but_last}
use Rattle.ji.specs.Unicode.{unicode16, pick_number}
use Rattle.ji.specs.Utf8.{encode, last_start}
use Rattle.ji.specs.Reply.{placed}
use Rattle.khiin.specs.Converter.{e_like}
use Rattle.khiin.specs.Telex.{edited}
use Rattle.khiin.specs.declared.converter.Edit.{Edit}
use Rattle.khiin.proofs.converter.Laws.{but_two, key_behind, cut_bytes}
use native.Mathlib.Omega.{arith}
use Rattle.khiin.proofs.converter.Step.finish.Goals as goal

e_small : (key : ℕ) → e_like key ≤ 0x7F
e_small key = by_case (eqb (lower key) key)
  where
    by_case : (b : Bool) → pick_number b 0x65 0x45 ≤ 0x7F
    by_case true = omega arith
    by_case false = omega arith

-- e and the key for the last two code points
two_for : (bytes rest : List ℕ) (n m at key e : ℕ) → take n bytes ≡ encode rest → m ≡ last_start (take n bytes) → m ≤ n → at ≡ last_start (take m bytes) → at ≤ m → at < length bytes → key ≤ 0x7F → e ≡ e_like key
    → take (at + 1) (set bytes at e) ++ (key ∷ []) ≡ encode (but_last 2 rest ++ (e_like key ∷ key ∷ []))
two_for bytes rest n m at key e w f h g l room low is =
    let one : take m bytes ≡ encode (but_last 1 rest) = cut_bytes bytes rest n m w f h in
    let two : take at bytes ≡ encode (but_last 2 rest) = cut_bytes bytes (but_last 1 rest) m at one g l ∙ ap encode (but_two rest) in
    let x : List ℕ = but_last 2 rest in
    ap (λ (s : List ℕ). s ++ (key ∷ [])) (ap (λ (k : ℕ). take k (set bytes at e)) (add-one at) ∙ take-suc-set bytes at e room)
    ∙ ap₂ (λ (s : List ℕ) (y : ℕ). (s ++ (y ∷ [])) ++ (key ∷ [])) two is
    ∙ ap (λ (s : List ℕ). s ++ (key ∷ [])) (key_behind x (e_like key) (e_small key))
    ∙ key_behind (x ++ (e_like key ∷ [])) key low
    ∙ ap encode (append_assoc x (e_like key ∷ []) (key ∷ []))

pub returns-in-Behind : goal.returns-in-Behind
returns-in-Behind c =
    λ h.
    c.place_key.ensures
    ∙ ap (λ (l : List ℕ). placed 0 l c.args.out.now) (ap (λ (l : List ℕ). l ++ (c.args.self.key ∷ [])) h.written ∙ key_behind h.rest c.args.self.key c.args.self.ascii)
    ∙ ap (λ (e : Edit). placed 0 (encode (edited unicode16 c.args.self.keys e c.args.self.key c.args.self.tone h.rest)) c.args.out.now) (sym c.in-Behind.is)

pub returns-in-Last : goal.returns-in-Last
returns-in-Last c =
    λ h.
    c.place_key-in-Last.ensures
    ∙ ap (λ (l : List ℕ). placed 0 l c.args.out.now)
    (ap (λ (l : List ℕ). l ++ (c.args.self.key ∷ [])) (cut_bytes c.args.bytes.now h.rest c.args.n _ h.written c.without_last-at.ensures.0 c.without_last-at.ensures.1) ∙ key_behind (but_last 1 h.rest) c.args.self.key c.args.self.ascii)
    ∙ ap (λ (e : Edit). placed 0 (encode (edited unicode16 c.args.self.keys e c.args.self.key c.args.self.tone h.rest)) c.args.out.now) (sym c.in-Last.is)

pub returns-in-LastTwo : goal.returns-in-LastTwo
returns-in-LastTwo c =
    λ h.
    c.place_key-in-LastTwo.ensures
    ∙ ap (λ (l : List ℕ). placed 0 l c.args.out.now)
    (two_for c.args.bytes.now h.rest c.args.n c.without_last.result c.without_last-at-in-LastTwo.result c.args.self.key c.e_like.result h.written c.without_last.ensures.0 c.without_last.ensures.1 c.without_last-at-in-LastTwo.ensures.0 c.without_last-at-in-LastTwo.ensures.1 (omega (arith, c.without_last-at-in-LastTwo.ensures.1, c.without_last.ensures.1, c.requires.0)) c.args.self.ascii c.e_like.ensures)
    ∙ ap (λ (x : Edit). placed 0 (encode (edited unicode16 c.args.self.keys x c.args.self.key c.args.self.tone h.rest)) c.args.out.now) (sym c.in-LastTwo.is)
