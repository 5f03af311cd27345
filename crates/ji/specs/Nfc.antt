-- Canonical composition and NFC (the Unicode Standard, 3.11), over any table.
use Rattle.std.specs.Prelude.{◌≡◌, Bool, true, false, List, [], ◌∷◌, ◌++◌, ℕ, ◌<◌, ltb, eqb}
use Rattle.std.proofs.Math.Option.{Option, none, some}
use Rattle.ucd.specs.Table.{Table, All, combining_class, composite}
use Rattle.ji.specs.Nfd.{nfd}

abbrev pub pick_done : Bool → Option (List ℕ) → Option (List ℕ) → Option (List ℕ)
pick_done true a b = a
pick_done false a b = b

unfoldable pub behind : Option ℕ → List ℕ → Option (List ℕ)
behind none r = none
behind (some p) r = some (p ∷ r)

unfoldable pub under : ℕ → Option (List ℕ) → Option (List ℕ)
under b none = none
under b (some r) = some (b ∷ r)

unfoldable pub or_kept : ℕ → List ℕ → Option (List ℕ) → List ℕ
or_kept c r none = c ∷ r
or_kept c r (some q) = q

unfoldable pub reversed : List ℕ → List ℕ
reversed [] = []
reversed (c ∷ s) = reversed s ++ (c ∷ [])

module _ (t : Table) where
  -- D115: what stands between a starter and c does not block c from it: there is no code point of class 0, and none whose class is c's or more
  abbrev pub Unblocked : ℕ → List ℕ → Type 0
  Unblocked c between = All (λ b. (0 < combining_class t b) × (combining_class t b < combining_class t c)) between

  -- D117, R1 and R2: `starter` is the last starter before c, c is not blocked from it, and the two have a primary composite (D114), which
  -- takes the starter's place while c is deleted. `done` is the text before c and `done'` what it becomes
  pub record Replaces (c : ℕ) (done done' : List ℕ) : Type 0 where
    pub before : List ℕ
    pub starter : ℕ
    pub between : List ℕ
    pub point : ℕ
    pub is : done ≡ before ++ (starter ∷ between)
    pub class : combining_class t starter ≡ 0
    pub unblocked : Unblocked c between
    pub primary : composite t starter c ≡ some point
    pub becomes : done' ≡ before ++ (point ∷ between)

  -- D117: from the first code point to the last, each is put to R1 and R2, and stays where they do not apply
  pub data Composes : List ℕ → List ℕ → List ℕ → Type 0 where
    end : {done : List ℕ} → Composes done [] done
    replaced : {c : ℕ} {done done' s r : List ℕ} → Replaces c done done' → Composes done' s r → Composes done (c ∷ s) r
    kept : {c : ℕ} {done s r : List ℕ} → ((done' : List ℕ) → Replaces c done done' → ⊥) → Composes (done ++ (c ∷ [])) s r → Composes done (c ∷ s) r

  -- the same, computed: what is done stands last code point first, so that the search for the starter goes from the front
  unfoldable pub absorb : ℕ → List ℕ → Option (List ℕ)
  absorb c [] = none
  absorb c (b ∷ r) =
      let starter : Option (List ℕ) = behind (composite t b c) r in
      let further : Option (List ℕ) = under b (absorb c r) in
      pick_done (eqb (combining_class t b) 0) starter (pick_done (ltb (combining_class t b) (combining_class t c)) further none)

  unfoldable pub compose_from : List ℕ → List ℕ → List ℕ
  compose_from r [] = r
  compose_from r (c ∷ s) = compose_from (or_kept c r (absorb c r)) s

  unfoldable pub compose : List ℕ → List ℕ
  compose s = reversed (compose_from [] s)

  -- D120: NFD, composed
  unfoldable pub nfc : List ℕ → List ℕ
  nfc s = compose (nfd t s)
