-- Which lines go into a buffer: of two lists of lines, one behind the other.
use mathlib.Core.Path.{◌≡◌, refl, sym, ap, ◌∙◌}
use mathlib.Core.List.{List, [], ◌∷◌, ◌++◌, append_assoc}
use Prim.Native.Nat.{ℕ, suc, ◌+◌, ◌-◌, ◌≤◌, ◌<◌}
use native.Mathlib.Nat.{zero-add}
use native.Mathlib.Omega.{arith}
use borrow.Author.Tests.{le-leb, lt-leb, leb-true, leb-false}
use lib.Dec.{leb}
use lib.ListN.{length, take, length-append}
use lib.Seq.{take-length, take-append-le, take-append-add, length-take-le}
use Rattle.ji.proofs.Bools.{either, number_yes, number_no}
use Rattle.khiin_entries.specs.Listing.{together, fitting, going_in}

abbrev Lines : Type 0
Lines = List (List ℕ)

pub together_append : (p q : Lines) → together (p ++ q) ≡ together p ++ together q
together_append [] q = refl
together_append (l ∷ p) q = ap (λ (t : List ℕ). l ++ t) (together_append p q) ∙ sym (append_assoc l (together p) (together q))

-- the next line goes in, or does not
pub fit_one : (l : List ℕ) (ls : Lines) (room : ℕ) → length l ≤ room → fitting (l ∷ ls) room ≡ suc (fitting ls (room - length l))
fit_one l ls room h = number_yes _ _ _ (le-leb (length l) room h)

pub fit_none : (l : List ℕ) (ls : Lines) (room : ℕ) → room < length l → fitting (l ∷ ls) room ≡ 0
fit_none l ls room h = number_no _ _ _ (lt-leb (length l) room h)

-- what holds in both cases
by_room : {A : Type 0} (n room : ℕ) → (n ≤ room → A) → (room < n → A) → A
by_room n room yes_case no_case = either (leb n room) (λ b. yes_case (leb-true n room b)) (λ b. no_case (leb-false n room b))

pub fit_most : (ls : Lines) (room : ℕ) → fitting ls room ≤ length ls
fit_most [] room = omega arith
fit_most (l ∷ ls) room =
    by_room (length l) room
    (λ h. omega (arith, fit_one l ls room h, fit_most ls (room - length l)))
    (λ h. omega (arith, fit_none l ls room h))

-- all lines of p go in: then come those of q
pub fit_all : (p q : Lines) (room : ℕ) → fitting p room ≡ length p → fitting (p ++ q) room ≡ length p + fitting q (room - length (together p))
fit_all [] q room e = let z : room - 0 ≡ room = omega arith in rw (z, zero-add)
fit_all (l ∷ p) q room e =
    by_room (length l) room
    (λ h. let n : room - length l - length (together p) ≡ room - length (l ++ together p) = omega (arith, length-append l (together p)) in
    let i : fitting (p ++ q) (room - length l) ≡ length p + fitting q (room - length l - length (together p)) = fit_all p q (room - length l) (omega (arith, e, fit_one l p room h)) in
    let j : fitting q (room - length l - length (together p)) ≡ fitting q (room - length (l ++ together p)) = ap (fitting q) n in
    omega (arith, fit_one l (p ++ q) room h))
    (λ h. absurd (omega (arith, e, fit_none l p room h)))

-- a line of p does not go in: then none of q does
pub fit_part : (p q : Lines) (room : ℕ) → fitting p room < length p → fitting (p ++ q) room ≡ fitting p room
fit_part [] q room k = absurd (omega arith)
fit_part (l ∷ p) q room k =
    by_room (length l) room
    (λ h. let e : fitting (l ∷ p) room ≡ suc (fitting p (room - length l)) = fit_one l p room h in
    fit_one l (p ++ q) room h ∙ ap suc (fit_part p q (room - length l) (omega arith)) ∙ sym e)
    (λ h. fit_none l (p ++ q) room h ∙ sym (fit_none l p room h))

-- ── the lines themselves
pub going_count : (ls : Lines) (room : ℕ) → length (going_in ls room) ≡ fitting ls room
unfolding going_in
going_count ls room = length-take-le (fitting ls room) ls (fit_most ls room)

pub going_none : (ls : Lines) (room : ℕ) → fitting ls room ≡ 0 → going_in ls room ≡ []
unfolding going_in
going_none ls room e = ap (λ (k : ℕ). take k ls) e

pub going_one : (l : List ℕ) (ls : Lines) (room : ℕ) → length l ≤ room → going_in (l ∷ ls) room ≡ l ∷ going_in ls (room - length l)
unfolding going_in
going_one l ls room h = ap (λ (k : ℕ). take k (l ∷ ls)) (fit_one l ls room h)

pub going_whole : (p : Lines) (room : ℕ) → fitting p room ≡ length p → going_in p room ≡ p
unfolding going_in
going_whole p room e = ap (λ (k : ℕ). take k p) e ∙ take-length p

pub going_all : (p q : Lines) (room : ℕ) → fitting p room ≡ length p → going_in (p ++ q) room ≡ p ++ going_in q (room - length (together p))
unfolding going_in
going_all p q room e = ap (λ (k : ℕ). take k (p ++ q)) (fit_all p q room e) ∙ take-append-add p q (fitting q (room - length (together p)))

pub going_part : (p q : Lines) (room : ℕ) → fitting p room < length p → going_in (p ++ q) room ≡ going_in p room
unfolding going_in
going_part p q room k = ap (λ (n : ℕ). take n (p ++ q)) (fit_part p q room k) ∙ take-append-le (fitting p room) p q (omega arith)
