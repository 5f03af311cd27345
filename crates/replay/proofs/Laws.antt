-- What a reply that is as its record says comes to, part by part.
use mathlib.Core.Path.{◌≡◌, refl, sym, ap, ◌∙◌, subst}
use mathlib.Core.Bool.{Bool, true, false, ◌&&◌}
use mathlib.Core.List.{List, [], ◌++◌}
use Prim.Native.Nat.{ℕ, ◌+◌, ◌≤◌, ◌<◌, ◌-◌}
use native.Mathlib.Omega.{arith}
use lib.Dec.{eqb}
use lib.ListN.{length, get_or, take, drop, length-append, length-replicate, get_or-replicate}
use lib.Seq.{ext_get_or, drop-append_seam}
use borrow.Author.Tests.{eq-eqb, eqb-true, leb-true}
use Rattle.std.specs.Prelude.{◌≢◌, Option as Found, Some, None}
use Rattle.std.specs.Option.{MatchOption}
use Rattle.std.proofs.Common.{Bor}
use Rattle.ji.specs.Reply as ji
use Rattle.robinflint.specs.declared.reply.Reply.{Reply}
use Rattle.robinflint.specs.Reply.{reply_of}
use Rattle.replay.specs.declared.record.Header.{Header}
use Rattle.replay.specs.Record.{known, replayable}
use Rattle.replay.specs.Calls.{answer_of}
use Rattle.replay.specs.Replay.{Agrees}
use Rattle.std.specs.Bool.{Decides}
use Rattle.replay.specs.Expected.{untouched, written, said, same_numbers, AsSaid}

false_true : false ≡ true → ⊥
false_true e = let z : ◌≡◌ {A = ℕ} 0 1 = cc in omega arith

pub true_false : true ≡ false → ⊥
true_false e = false_true (sym e)

pub yes : {P : Type 0} → P → Decides true P
yes p = ((λ e. p), (λ q. refl))

pub no : {P : Type 0} → (P → ⊥) → Decides false P
no f = ((λ e. absurd (false_true e)), (λ p. absurd (f p)))

untouched_length : (n : ℕ) → length (untouched n) ≡ n
unfolding untouched
untouched_length n = length-replicate n 0xA5

pub untouched_at : (n i : ℕ) → i < n → get_or (untouched n) i 0 ≡ 0xA5
unfolding untouched
untouched_at n i h = get_or-replicate n i 0xA5 0 h

pub all_untouched : (s : List ℕ) → ((k : ℕ) → k < length s → get_or s k 0 ≡ 0xA5) → s ≡ untouched (length s)
all_untouched s f =
    ext_get_or 0 s (untouched (length s)) (sym (untouched_length (length s))) (λ i h. f i h ∙ sym (untouched_at (length s) i h))

eqb_self : (n : ℕ) → eqb n n ≡ true
eqb_self n = eq-eqb n n refl

same_self : (x : ji.Reply) → same_numbers x x ≡ true
same_self x = simp eqb_self

split : (a b : Bool) → (a && b) ≡ true → (a ≡ true) × (b ≡ true)
split true b e = (refl, e)
split false b e = absurd (false_true e)

-- what a reply as its record says has: the count of bytes, the numbers, and the buffer
pub count_of : (h : Header) (wanted : List ℕ) (r : ji.Reply) → AsSaid h wanted r → length wanted ≡ written h
unfolding AsSaid
count_of h wanted r p = p.0

pub numbers_of : (h : Header) (wanted : List ℕ) (r : Reply) (buffer : List ℕ) → AsSaid h wanted (reply_of r buffer) → same_numbers (reply_of r []) (said h []) ≡ true
unfolding AsSaid
numbers_of h wanted r buffer p = ap (λ (x : ji.Reply). same_numbers x (said h [])) p.1 ∙ same_self (said h [])

buffer_of : (h : Header) (wanted : List ℕ) (r : Reply) (buffer : List ℕ) → AsSaid h wanted (reply_of r buffer) → buffer ≡ wanted ++ untouched (length buffer - length wanted)
unfolding AsSaid
buffer_of h wanted r buffer p = ap (λ (x : ji.Reply). x.buffer) p.1

same_buffer : (x y : ji.Reply) → same_numbers x y ≡ true → x.buffer ≡ y.buffer → x ≡ y
same_buffer x y e b =
    let s7 = split _ _ e in
    let s6 = split _ _ s7.0 in
    let s5 = split _ _ s6.0 in
    let s4 = split _ _ s5.0 in
    let s3 = split _ _ s4.0 in
    let s2 = split _ _ s3.0 in
    λ i. record {
      code = eqb-true x.code y.code s2.0 i;
      length = eqb-true x.length y.length s2.1 i;
      count = eqb-true x.count y.count s3.1 i;
      body = eqb-true x.body y.body s4.1 i;
      tone = eqb-true x.tone y.tone s5.1 i;
      khin = eqb-true x.khin y.khin s6.1 i;
      position = eqb-true x.position y.position s7.1 i;
      buffer = b i;
    }

as_said : (h : Header) (wanted : List ℕ) (r : Reply) (buffer : List ℕ) → length wanted ≡ written h → same_numbers (reply_of r []) (said h []) ≡ true
    → buffer ≡ wanted ++ untouched (length buffer - length wanted)
    → AsSaid h wanted (reply_of r buffer)
unfolding AsSaid
as_said h wanted r buffer n same e = (n, same_buffer (reply_of r buffer) (said h (wanted ++ untouched (length buffer - length wanted))) same e)

-- where the count and the numbers are as the record says, the buffer decides: it has to begin with the wanted bytes, and `rest` is what follows them
module _ (h : Header) (wanted : List ℕ) (r : Reply) (buffer : List ℕ) (n : length wanted ≡ written h) (same : same_numbers (reply_of r []) (said h []) ≡ true) where
  rest_says : (b : Bool) (rest : List ℕ) → buffer ≡ wanted ++ rest → Decides b (rest ≡ untouched (length rest)) → Decides b (AsSaid h wanted (reply_of r buffer))
  rest_says b rest is says =
      let size : length buffer - length wanted ≡ length rest = omega (arith, ap length is, length-append wanted rest) in
      let tail : AsSaid h wanted (reply_of r buffer) → rest ≡ untouched (length rest) =
      λ p. sym (drop-append_seam wanted rest) ∙ ap (drop (length wanted)) (sym is ∙ buffer_of h wanted r buffer p)
      ∙ drop-append_seam wanted (untouched (length buffer - length wanted))
      ∙ ap untouched size in
      ((λ e. as_said h wanted r buffer n same (is ∙ ap (λ (l : List ℕ). wanted ++ l) (says.0 e ∙ ap untouched (sym size)))), (λ p. says.1 (tail p)))

  pub rest_decides : (b : Bool) (rest : Found (Bor (List ℕ))) → MatchOption rest ((l : List ℕ) → buffer ≢ wanted ++ l) (λ x. buffer ≡ wanted ++ x.now)
      → MatchOption rest (b ≡ false) (λ x. Decides b (x.now ≡ untouched (length x.now)))
      → Decides b (AsSaid h wanted (reply_of r buffer))
  rest_decides b None other e = subst (λ (c : Bool). Decides c (AsSaid h wanted (reply_of r buffer))) (sym e) (no (λ p. other _ (buffer_of h wanted r buffer p)))
  rest_decides b (Some x) is says = rest_says b x.now is says

-- what `is_replayable` tests of the lengths
pub record Room (h : Header) : Type 0 where
  pub input : h.input ≤ 3072
  pub other : h.other ≤ 3072
  pub lent : h.lent ≤ 3072
  pub wanted : h.wanted ≤ 3072

pub room : (h : Header) → replayable h ≡ true → Room h
room h e =
    let s4 = split _ _ e in
    let s3 = split _ _ s4.0 in
    let s2 = split _ _ s3.0 in
    let s1 = split (known h.call) _ s2.0 in
    record {
      input = leb-true h.input 3072 s1.1;
      other = leb-true h.other 3072 s2.1;
      lent = leb-true h.lent 3072 s3.1;
      wanted = leb-true h.wanted 3072 s4.1;
    }

-- the verdict on the parts of a body and on the buffer as it is, as one on the body
pub agrees_by : (h : Header) (body other wanted buffer : List ℕ) (r : ji.Reply) (b : Bool) → other ≡ take h.other (drop h.input body)
    → wanted ≡ take h.wanted (drop (h.input + h.other) body)
    → buffer ≡ untouched 3136
    → r ≡ answer_of h (take h.input body) other buffer
    → Decides b (AsSaid h wanted r)
    → Decides b (Agrees h body)
agrees_by h body other wanted buffer r b eo ew eb er s = rw (← eo, ← ew, ← eb, ← er) s
