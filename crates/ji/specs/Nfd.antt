-- Canonical order and NFD (the Unicode Standard, 3.11), over any table.
use Rattle.std.specs.Prelude.{Bool, ◌&&◌, ◌||◌, List, [], ◌∷◌, ℕ, ◌<◌, ltb, eqb}
use Rattle.ucd.specs.Table.{Table, pick_text, combining_class}
use Rattle.ucd.specs.Full.{full}

module _ (t : Table) where
  -- D108: two adjacent code points a, b are a reorderable pair where ccc(a) > ccc(b) > 0
  abbrev pub Reorderable : ℕ → ℕ → Type 0
  Reorderable a b = (0 < combining_class t b) × (combining_class t b < combining_class t a)

  unfoldable pub reorderable : ℕ → ℕ → Bool
  reorderable a b = ltb 0 (combining_class t b) && ltb (combining_class t b) (combining_class t a)

  -- D109: a reorderable pair is exchanged, anywhere in the text ..
  pub data Exchange : List ℕ → List ℕ → Type 0 where
    here : {a b : ℕ} {s : List ℕ} → Reorderable a b → Exchange (a ∷ b ∷ s) (b ∷ a ∷ s)
    there : {c : ℕ} {s u : List ℕ} → Exchange s u → Exchange (c ∷ s) (c ∷ u)

  -- .. again and again ..
  pub data Exchanges : List ℕ → List ℕ → Type 0 where
    none : {s : List ℕ} → Exchanges s s
    more : {s u v : List ℕ} → Exchange s u → Exchanges u v → Exchanges s v

  -- .. until no reorderable pair is left
  abbrev pub NoPair : ℕ → List ℕ → Type 0
  NoPair a [] = Unit {0}
  NoPair a (b ∷ s) = Reorderable a b → ⊥

  abbrev pub Ordered : List ℕ → Type 0
  Ordered [] = Unit {0}
  Ordered (a ∷ s) = NoPair a s × Ordered s

  -- the text that D109 ends in, computed: each code point, from the last to the first, moves behind those it is exchanged with
  unfoldable pub insert : ℕ → List ℕ → List ℕ
  insert a [] = a ∷ []
  insert a (b ∷ s) = pick_text (reorderable a b) (b ∷ insert a s) (a ∷ b ∷ s)

  unfoldable pub order : List ℕ → List ℕ
  order [] = []
  order (a ∷ s) = insert a (order s)

  -- the starters and the code points of class k, as they stand in the text: the order that D109 keeps
  unfoldable pub of_class : ℕ → List ℕ → List ℕ
  of_class k [] = []
  of_class k (c ∷ s) = pick_text (eqb (combining_class t c) k || eqb (combining_class t c) 0) (c ∷ of_class k s) (of_class k s)

  -- D118: full decomposition, in canonical order
  unfoldable pub nfd : List ℕ → List ℕ
  nfd s = order (full t s)
