-- Tone letters worked out by hand. They fix the order of the patterns: whoever changes it in the definition and in the code alike breaks one of
-- these.
use mathlib.Core.Path.{◌≡◌, refl}
use mathlib.Core.Option.{none, some}
use Rattle.ucd.specs.Table.{listed}
use Rattle.ji.specs.Text.{points, lower}
use Rattle.ji.specs.Lomaji.ToneLetter.{first_place, searched, tone_letter}

-- the second letter of the first pattern
hoan : tone_letter (points "hoan") ≡ some 2
unfolding tone_letter searched first_place listed lower
hoan = refl

-- case is ignored
hoai_capital : tone_letter (points "HOAi") ≡ some 2
unfolding tone_letter searched first_place listed lower
hoai_capital = refl

-- the first pattern wins over an o that stands before it
oxoan : tone_letter (points "oxoan") ≡ some 3
unfolding tone_letter searched first_place listed lower
oxoan = refl

-- each of the others wins over the next, though that stands before it
o_before_a : tone_letter (points "ao") ≡ some 1
unfolding tone_letter searched first_place listed lower
o_before_a = refl

a_before_e : tone_letter (points "ea") ≡ some 1
unfolding tone_letter searched first_place listed lower
a_before_e = refl

e_before_u : tone_letter (points "ue") ≡ some 1
unfolding tone_letter searched first_place listed lower
e_before_u = refl

u_before_i : tone_letter (points "iu") ≡ some 1
unfolding tone_letter searched first_place listed lower
u_before_i = refl

i_before_ng : tone_letter (points "ngi") ≡ some 2
unfolding tone_letter searched first_place listed lower
i_before_ng = refl

ng_before_n : tone_letter (points "nng") ≡ some 1
unfolding tone_letter searched first_place listed lower
ng_before_n = refl

n_before_m : tone_letter (points "mn") ≡ some 1
unfolding tone_letter searched first_place listed lower
n_before_m = refl

-- the n of ng
hng : tone_letter (points "hng") ≡ some 1
unfolding tone_letter searched first_place listed lower
hng = refl

-- the first letter of a text
ai : tone_letter (points "ai") ≡ some 0
unfolding tone_letter searched first_place listed lower
ai = refl

-- no pattern
x_alone : tone_letter (points "x") ≡ none
unfolding tone_letter searched first_place listed lower
x_alone = refl
