-- Examples of the rules, and of the keys of the tones.
use mathlib.Core.Path.{◌≡◌, refl}
use mathlib.Core.List.{[], ◌∷◌, ◌++◌}
use lib.ListN.{take, drop}
use Rattle.ji.specs.Text.{points, marked, begins, replace_from, replace_all}
use Rattle.ji.specs.Lomaji.Keys.{rules_of, respell, tone_keys}
use Rattle.ji.specs.declared.lomaji.keys.Form.TheVariants.{Plain, Oo}
use Rattle.ji.specs.declared.lomaji.keys.Kind.TheVariants.{Telex}

pub plain_bo : respell (rules_of Plain) (marked "bo" 0x0358) ≡ points "bou"
unfolding begins replace_from replace_all
plain_bo = refl

pub oo_bo : respell (rules_of Oo) (marked "bo" 0x0358) ≡ points "boo"
unfolding begins replace_from replace_all
oo_bo = refl

-- what a pass has put in, it does not look at again
pub oo_twice : respell (rules_of Oo) (marked "O" 0x0358 ++ (0x0358 ∷ [])) ≡ marked "Oo" 0x0358
unfolding begins replace_from replace_all
oo_twice = refl

-- and no pass comes back: the o with U+0358 that the fifth pass leaves stays
pub below_then_above : respell (rules_of Plain) (marked "o" 0x0324 ++ (0x0358 ∷ [])) ≡ marked "eo" 0x0358
unfolding begins replace_from replace_all
below_then_above = refl

pub nasal : respell (rules_of Plain) (points "aⁿ") ≡ points "ann"
unfolding begins replace_from replace_all
nasal = refl

-- there is no rule for it
pub capital_below : respell (rules_of Plain) (marked "O" 0x0324) ≡ marked "O" 0x0324
unfolding begins replace_from replace_all
capital_below = refl

-- T7 and T8 have one telex key
pub telex_seven_eight : take 1 (drop 7 (tone_keys Telex)) ≡ take 1 (drop 8 (tone_keys Telex))
telex_seven_eight = refl

pub telex_seven : take 1 (drop 7 (tone_keys Telex)) ≡ points "j"
telex_seven = refl
