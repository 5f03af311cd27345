-- The proof of demand 3. A fully numbered keying is one piece for each syllable, joined. A text is cut in one way only, and each piece composes to
-- its syllable, so that the keying says what the entry is.
use mathlib.Core.Path.{◌≡◌, refl, sym, ap, ap₂, ◌∙◌, subst}
use mathlib.Core.Bool.{true}
use mathlib.Core.List.Memᴰ
use mathlib.Core.List.{List, [], ◌∷◌, ◌++◌, map, append_cancel_right, Memᴰ}
use Prim.Native.Nat.{ℕ, suc}
use borrow.Author.Tests.{eq-eqb}
use lib.ListN.{length, length-map}
use Rattle.ji.specs.Unicode.{unicode16}
use Rattle.ji.specs.Utf8.{encode}
use Rattle.ji.specs.declared.lomaji.keys.Form.{Form}
use Rattle.khiin_records.specs.Syllable.{Syllable, from_raw}
use Rattle.khiin_entries.specs.KeySequence.{product, keyings}
use Rattle.khiin.specs.Syllable.{compose}
use Rattle.robinflint.specs.Arguments.{kind_of}
use Rattle.grammar.specs.WellFormed.{Texts, WellFormed, text, spaced, entry, Few, dots}
use Rattle.roundtrip.specs.Demand3.{entry_bytes, list, keying_at, counted, is_numbered, Numbered, cut, Returning, OfEntry, Demand3}
use Rattle.roundtrip.proofs.Digits.{cut_piece, passing_in, each_in, get_d_in}
use Rattle.roundtrip.proofs.Keys.{digit_of, tone_digit_law, bare, numbered, bare_keys, piece_of}
use Rattle.roundtrip.proofs.Calls.{compose_text, from_raw_law, returns}
use Rattle.roundtrip.proofs.AnyEntry.{call_answered}
use Rattle.roundtrip.proofs.Entries.{keyings_entry, entry_answers}
use Rattle.roundtrip.proofs.Counts.{count_list, toned, numbered_list, count_numbered}

-- ── a piece for each syllable
-- p is a form of s with its digit
abbrev Piece : List ℕ → WellFormed → Type 0
Piece p s = (form : Form) × (p ≡ numbered s form)

abbrev Paired : Texts → List WellFormed → Type 0
Paired [] [] = Unit {0}
Paired [] (s ∷ ss) = ⊥
Paired (p ∷ ps) [] = ⊥
Paired (p ∷ ps) (s ∷ ss) = Piece p s × Paired ps ss

abbrev joined : Texts → List ℕ
joined [] = []
joined (p ∷ ps) = p ++ joined ps

record Parted (keying : List ℕ) (ss : List WellFormed) : Type 0 where
  pieces : Texts
  is : keying ≡ joined pieces
  paired : Paired pieces ss

part : (ss : List WellFormed) (t : List ℕ) → Memᴰ t (product (map toned ss)) → Parted t ss
part [] t m = record { pieces = []; is = Memᴰ.eq_of_singleton m; paired = tt }
part (s ∷ ss) t m =
    let (p, rest, p_in, is, rest_in) = each_in t (toned s) (product (map toned ss)) m in
    let q = part ss rest rest_in in
    record { pieces = p ∷ q.pieces; is = is ∙ ap (λ (u : List ℕ). p ++ u) q.is; paired = (piece_of s p p_in, q.paired) }

parted : (ss : List WellFormed) → Few ss → (position : ℕ) → Numbered ss position → Parted (keying_at 1 ss position) ss
parted ss f position n =
    let keying = keying_at 1 ss position in
    let full : is_numbered (length ss) keying ≡ true = eq-eqb _ _ n.full in
    part ss keying
    (subst (λ (ts : Texts). Memᴰ keying ts) (numbered_list ss f)
    (passing_in (is_numbered (length ss)) keying (list 1 ss) (get_d_in (list 1 ss) position n.inside) full))

-- ── cutting
cut_joined : (ps : Texts) (ss : List WellFormed) → Paired ps ss → cut (joined ps) ≡ ps ++ ([] ∷ [])
cut_joined [] [] h = refl
cut_joined [] (s ∷ ss) h = absurd h
cut_joined (p ∷ ps) [] h = absurd h
cut_joined (p ∷ ps) (s ∷ ss) h =
    let (form, is) = h.0 in
    ap (λ (u : List ℕ). cut (u ++ joined ps)) is
    ∙ cut_piece (bare s form) (digit_of s.tone) (joined ps) (bare_keys s form) (tone_digit_law s.tone)
    ∙ ap₂ ◌∷◌ (sym is) (cut_joined ps ss h.1)

as_many : (ps : Texts) (ss : List WellFormed) → Paired ps ss → length ps ≡ length ss
as_many [] [] h = refl
as_many [] (s ∷ ss) h = absurd h
as_many (p ∷ ps) [] h = absurd h
as_many (p ∷ ps) (s ∷ ss) h = ap suc (as_many ps ss h.1)

all_return : (ps : Texts) (ss : List WellFormed) → Paired ps ss → Returning ps ss
all_return [] [] h = tt
all_return [] (s ∷ ss) h = h
all_return (p ∷ ps) [] h = h
all_return (p ∷ ps) (s ∷ ss) h = let (form, is) = h.0 in (rw is (returns s form), all_return ps ss h.1)

-- ── what the pieces compose to
composed_of : List ℕ → List ℕ
composed_of p = compose unicode16 p (from_raw p).body (from_raw p).tone (from_raw p).khin

piece_text : (p : List ℕ) (s : WellFormed) → Piece p s → composed_of p ≡ text s
unfolding composed_of
piece_text p s h =
    let (form, is) = h in
    ap (λ (r : Syllable). compose unicode16 p r.body r.tone r.khin) (ap from_raw is ∙ from_raw_law s form) ∙ compose_text p s form

texts_of : (ps : Texts) (ss : List WellFormed) → Paired ps ss → map composed_of ps ≡ map text ss
texts_of [] [] h = refl
texts_of [] (s ∷ ss) h = absurd h
texts_of (p ∷ ps) [] h = absurd h
texts_of (p ∷ ps) (s ∷ ss) h = ap₂ ◌∷◌ (piece_text p s h.0) (texts_of ps ss h.1)

one_entry : {t u : List ℕ} {ss rs : List WellFormed} → t ≡ u → Parted t ss → Parted u rs → entry_bytes ss ≡ entry_bytes rs
unfolding entry
one_entry {t} {u} {ss} {rs} e p q =
    let cuts : cut t ≡ p.pieces ++ ([] ∷ []) = ap cut p.is ∙ cut_joined p.pieces ss p.paired in
    let same_cuts : cut u ≡ q.pieces ++ ([] ∷ []) = ap cut q.is ∙ cut_joined q.pieces rs q.paired in
    let one : p.pieces ≡ q.pieces = append_cancel_right p.pieces q.pieces ([] ∷ []) (sym cuts ∙ ap cut e ∙ same_cuts) in
    ap (λ (ws : Texts). encode (spaced ws)) (sym (texts_of p.pieces ss p.paired) ∙ ap (map composed_of) one ∙ texts_of q.pieces rs q.paired)

-- ── the demand
count_kind : (ss : List WellFormed) → Few ss → (kind : ℕ) → length (list kind ss) ≡ counted (kind_of kind) (length ss) (dots ss)
unfolding list
count_kind ss f kind =
    length-map (keyings unicode16 (kind_of kind) (entry ss)) encode ∙ ap length (keyings_entry ss f (kind_of kind)) ∙ count_list (kind_of kind) ss f

of_entry : (ss : List WellFormed) → Few ss → OfEntry ss
of_entry ss f =
    record {
      answers = entry_answers ss f;
      counts = λ kind h. count_kind ss f kind;
      numbered = count_numbered ss f;
      pieces = λ position n.
          let p = parted ss f position n in
          record {
            pieces = p.pieces;
            cuts = ap cut p.is ∙ cut_joined p.pieces ss p.paired;
            many = as_many p.pieces ss p.paired;
            returning = all_return p.pieces ss p.paired;
          };
      only = λ rs g i j n m e. one_entry e (parted ss f i n) (parted rs g j m);
    }

pub demand3 : Demand3
demand3 = record { calls = call_answered; entries = of_entry }
