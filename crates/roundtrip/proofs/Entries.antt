-- An entry of well-formed syllables: its parts are its syllables, and no call refuses it.
use mathlib.Core.Path.{◌≡◌, refl, ap, ◌∙◌}
use mathlib.Core.Bool.{true, ◌&&◌}
use mathlib.Core.List.{List, [], ◌∷◌, ◌++◌, map}
use Prim.Native.Nat.{ℕ, suc, ◌+◌, ◌*◌, ◌≤◌, ◌<◌}
use native.Mathlib.Omega.{arith}
use borrow.Author.Tests.{le-leb, ne_eqb}
use lib.Dec.{leb}
use lib.ListN.{length, get_or, length-append, length-map}
use Rattle.ji.specs.Unicode.{All, unicode16, member, members}
use Rattle.ji.specs.Utf8.{encode}
use Rattle.ji.specs.Reply.{good, bad, pick_checked}
use Rattle.ji.specs.declared.reply.Refusal.TheVariants.{Parts}
use Rattle.ji.specs.declared.lomaji.keys.Kind.{Kind}
use Rattle.ji.proofs.Bools.{and_yes}
use Rattle.ji.proofs.unicode.Ascii.{ascii_member}
use Rattle.ji.proofs.unicode.Bytes.{bytes_one, encode_cons, encode_append}
use Rattle.ji.proofs.unicode.Checked.{check_passes}
use Rattle.ji.proofs.unicode.Laws.{members_append}
use Rattle.khiin_entries.specs.KeySequence.{split, list_of, keyings, keyed, parts_fit, check_parts, check_entry}
use Rattle.robinflint.specs.Arguments.{kind_of, keying_numbered}
use Rattle.grammar.specs.WellFormed.{Texts, WellFormed, text, spaced, entry, Few}
use Rattle.sweep.proofs.Tests.{Each}
use Rattle.sweep.proofs.Syllables.{syllable_text}
use Rattle.roundtrip.specs.Demand3.{list_for, entry_bytes, list, keying_at}
use Rattle.roundtrip.proofs.AnyEntry.{output_is, count_same, good_answers}

-- ── its parts
abbrev NoSpace : List ℕ → Type 0
NoSpace w = All (λ c. c ≡ 0x20 → ⊥) w

split_space : (s w : List ℕ) → NoSpace w → split (w ++ (0x20 ∷ s)) ≡ w ∷ split s
unfolding split
split_space s [] h = refl
split_space s (c ∷ w) h = rw (ne_eqb c 0x20 h.0, split_space s w h.1)

split_whole : (w : List ℕ) → NoSpace w → split w ≡ w ∷ []
unfolding split
split_whole [] h = refl
split_whole (c ∷ w) h = rw (ne_eqb c 0x20 h.0, split_whole w h.1)

split_spaced : (w : List ℕ) (ws : Texts) → Each NoSpace (w ∷ ws) → split (spaced (w ∷ ws)) ≡ w ∷ ws
split_spaced w [] h = split_whole w h.0
split_spaced w (v ∷ ws) h = split_space (spaced (v ∷ ws)) w h.0 ∙ ap (λ (l : Texts). w ∷ l) (split_spaced v ws h.1)

-- what holds of each syllable's text
each_text : (P : List ℕ → Type 0) → ((s : WellFormed) → P (text s)) → (ss : List WellFormed) → Each P (map text ss)
each_text P h [] = tt
each_text P h (s ∷ ss) = (h s, each_text P h ss)

pub split_entry : (ss : List WellFormed) → Few ss → split (entry ss) ≡ map text ss
unfolding entry
split_entry [] f = absurd (let n = f.some in let q : ⊥ = omega arith in q)
split_entry (s ∷ ss) f = split_spaced (text s) (map text ss) (each_text NoSpace (λ r. (syllable_text r).no_space) (s ∷ ss))

-- ── it is a text of the table, and short enough
members_spaced : (ws : Texts) → Each (λ w. members unicode16 w ≡ true) ws → members unicode16 (spaced ws) ≡ true
unfolding members
members_spaced [] h = refl
members_spaced (w ∷ []) h = h.0
members_spaced (w ∷ (v ∷ ws)) h =
    members_append unicode16 w (0x20 ∷ spaced (v ∷ ws)) h.0
    ∙ and_yes (member unicode16 0x20) (members unicode16 (spaced (v ∷ ws))) (ascii_member 0x20 (omega arith))
    ∙ members_spaced (v ∷ ws) h.1

bytes_spaced : (w : List ℕ) (ws : Texts) → Each (λ v. length (encode v) ≤ 60) (w ∷ ws) → length (encode (spaced (w ∷ ws))) + 1 ≤ 61 * suc (length ws)
bytes_spaced w [] h = let k = h.0 in omega arith
bytes_spaced w (v ∷ ws) h =
    let k = h.0 in
    let l = bytes_spaced v ws h.1 in
    let rest = spaced (v ∷ ws) in
    let e : encode (w ++ (0x20 ∷ rest)) ≡ encode w ++ (0x20 ∷ encode rest) = encode_append w (0x20 ∷ rest) ∙ ap (λ (u : List ℕ). encode w ++ u) (encode_cons 0x20 rest ∙ ap (λ (u : List ℕ). u ++ encode rest) (bytes_one 0x20 (omega arith))) in
    omega (arith, ap length e, length-append (encode w) (0x20 ∷ encode rest))

parts_fit_law : (ws : Texts) → Each (λ w. length (encode w) ≤ 60) ws → parts_fit unicode16 ws ≡ true
parts_fit_law [] h = refl
parts_fit_law (w ∷ ws) h = let k = h.0 in and_yes _ _ (le-leb (length (encode w)) 256 (omega arith)) ∙ parts_fit_law ws h.1

all_short_law : (ss : List WellFormed) → Each (λ w. length (encode w) ≤ 60) (map text ss)
all_short_law ss = each_text (λ w. length (encode w) ≤ 60) (λ r. (syllable_text r).short) ss

entry_short : (ss : List WellFormed) → Few ss → length (entry_bytes ss) ≤ 1024
unfolding entry
entry_short [] f = absurd (let n = f.some in let q : ⊥ = omega arith in q)
entry_short (s ∷ ss) f = let n = f.most in omega (arith, bytes_spaced (text s) (map text ss) (all_short_law (s ∷ ss)), length-map ss text)

module _ (ss : List WellFormed) (f : Few ss) where
  entry_members : members unicode16 (entry ss) ≡ true
  unfolding entry
  entry_members = members_spaced (map text ss) (each_text (λ w. members unicode16 w ≡ true) (λ r. (syllable_text r).inside) ss)

  pub entry_good : check_entry unicode16 (entry_bytes ss) ≡ good (entry ss)
  unfolding check_entry
  entry_good =
      let most : length (map text ss) ≤ 16 = rw (length-map ss text) f.most in
      ap (check_parts unicode16) (check_passes 1024 (entry ss) entry_members (entry_short ss f))
      ∙ ap (λ (ws : Texts). pick_checked (leb (length ws) 16 && parts_fit unicode16 ws) (good (entry ss)) (bad Parts)) (split_entry ss f)
      ∙ rw (le-leb (length (map text ss)) 16 most, parts_fit_law (map text ss) (all_short_law ss))

  -- ── its keyings
  pub keyings_entry : (kind : Kind) → keyings unicode16 kind (entry ss) ≡ list_of unicode16 kind (map text ss)
  unfolding keyings
  keyings_entry kind = ap (list_of unicode16 kind) (split_entry ss f)

  module _ (kind position : ℕ) (buffer : List ℕ) where
    abbrev texts : Texts
    texts = keyings unicode16 (kind_of kind) (entry ss)

    at_position : keying_at kind ss position ≡ encode (get_or texts position [])
    unfolding list list_for
    at_position = output_is (entry_bytes ss) (entry ss) kind position buffer

    count_is : length (list kind ss) ≡ length texts
    unfolding list list_for
    count_is = count_same (entry_bytes ss) (entry ss) kind position buffer

    pub entry_answers : kind ≤ 2 → position < length (list kind ss) → length (keying_at kind ss position) ≤ length buffer
        → keying_numbered (entry_bytes ss) kind position buffer ≡ keyed unicode16 (length (list kind ss)) (keying_at kind ss position) buffer
    unfolding list list_for
    entry_answers = good_answers (entry_bytes ss) (entry ss) kind position buffer entry_good
