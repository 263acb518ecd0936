-- The judge goes from the front with the reference, and at each arrival the first refusal that applies is the arrival's own or that of
-- those after it. So a loop keeps that the refusal of all arrivals is that of those left, from the reference: it stops with the refusal
-- of the arrival at i (`judge-stop`), goes on where that is none (`judge-next`), and at the end none applies (`judge-done`). Where none
-- is refused, the first arrival is not, nor one of the others (`judge-split`). So by induction on the list every number lies in 1 to k
-- (`judged-number`), and no time is over 1,000 below an earlier one (`judged-times`), since the reference is at least every earlier time
-- (`reference-above`). `lists-fit` takes the four refusals of K and lists apart in their order, and `fit-lists` puts them together. Here
-- k is K, l are the arrivals, a is the one at i, z what stands past the end, and r the refusal that was returned for a. Assumes nothing.
use Prim.Native.Nat.{ℕ, zero, suc, ◌+◌, ◌-◌, ◌≤◌, ◌<◌}
use native.Mathlib.Numerals.{add-one}
use native.Mathlib.Omega.{arith}
use mathlib.Core.Bool.{Bool, true, false, not, cond}
use mathlib.Core.Path.{◌≡◌, refl, sym, ap, ◌∙◌}
use mathlib.Core.List.{List, [], ◌∷◌}
use borrow.Author.Tests.{ltb-false, eq-eqb, eqb-true, not-false}
use lib.Dec.{eqb}
use lib.ListN.{length, get_or, drop, drop_of_length-le}
use lib.Seq.{drop-cons}
use Rattle.rfc4737.specs.declared.Arrival.{Arrival}
use Rattle.rfc4737.specs.declared.refusal.Refusal.{Refusal}
use Rattle.rfc4737.specs.Refused.{number_of}
use Rattle.rfc4737.specs.Refusals.{outside, refusal_if, first_refusal, sent_outside, many_arrivals, number_outside, time_back, lists_differ}
use Rattle.rfc4737.specs.Times.{back_most, too_early, next_reference}
use Rattle.rfc4737.specs.Judge.{sent_most, arrivals_most, arrivals_from, judge_sent, judge_arrivals, judge_one, judge, refusal_of_lists}
use Rattle.rfc4737.proofs.Due.{first-none, each_none, first-stop, first_next, first_one, case-none, limit-none, not-outside}
use Rattle.rfc4737.proofs.Lists.{All}
use Rattle.rfc4737.proofs.Packets.{OfPackets}
use Rattle.rfc4737.proofs.Times.{reference-above}
use Rattle.rfc4737.proofs.Refused.{first-err}
use Rattle.rfc4737.proofs.Pairs.{arrivals-length, arrivals-get_or}

-- ---- one arrival

-- its refusal, by the two tests
pub judge_one_by_tests : (k reference number time : ℕ)
    → judge_one k reference (record { number = number; time = time })
    ≡ cond (outside 1 k number) number_outside (cond (too_early reference time) time_back 0)
unfolding judge_one
judge_one_by_tests k reference number time = go (outside 1 k number) (too_early reference time)
  where
    go : (t u : Bool) → first_refusal (refusal_if t number_outside ∷ refusal_if u time_back ∷ []) ≡ cond t number_outside (cond u time_back 0)
    go true u = refl
    go false true = refl
    go false false = refl

-- ---- a loop over a list l of arrivals, `a` the one at i: before it the whole is as what is left, `judge k 0 l ≡ judge k reference (drop
-- i l)`

module _ (k : ℕ) (l : List Arrival) (reference i : ℕ) (z a : Arrival) (h : i < length l) (here : a ≡ get_or l i z)
    (inv : judge k 0 l ≡ judge k reference (drop i l)) where
  -- what is left, as its first and the rest
  left : judge k 0 l ≡ judge k reference (a ∷ drop (suc i) l)
  left = inv ∙ ap (judge k reference) (drop-cons l i z h ∙ ap (λ (x : Arrival). x ∷ drop (suc i) l) (sym here))

  -- it is refused
  pub judge-stop : (r : ℕ) → r ≡ judge_one k reference a → (r ≡ 0 → ⊥) → r ≡ judge k 0 l
  unfolding judge
  judge-stop r e n =
      e ∙ first-stop (judge_one k reference a) (judge k (next_reference reference a.time) (drop (suc i) l) ∷ []) left (λ q. n (e ∙ q))

  -- it is not refused
  pub judge-next : (r : ℕ) → r ≡ judge_one k reference a → r ≡ 0 → judge k 0 l ≡ judge k (next_reference reference a.time) (drop (i + 1) l)
  unfolding judge
  judge-next r e n =
      left ∙ first_next (judge_one k reference a) (judge k (next_reference reference a.time) (drop (suc i) l) ∷ []) (sym e ∙ n)
      ∙ first_one (judge k (next_reference reference a.time) (drop (suc i) l))
      ∙ ap (λ (n : ℕ). judge k (next_reference reference a.time) (drop n l)) (sym (add-one i))

-- at the end
pub judge-done : (k : ℕ) (l : List Arrival) (reference i : ℕ) → length l ≤ i → judge k 0 l ≡ judge k reference (drop i l) → 0 ≡ judge k 0 l
unfolding judge
judge-done k l reference i h inv = sym (inv ∙ ap (judge k reference) (drop_of_length-le l h))

-- ---- a loop over what is left of the arrivals, `a ∷ l`

-- the first is refused
pub left-err : (k reference : ℕ) (a : Arrival) (l : List Arrival) (d : Refusal) → number_of d ≡ judge_one k reference a
    → number_of d ≡ judge k reference (a ∷ l)
unfolding judge
left-err k reference a l d e = rw (← e) (sym (first-err d (judge k (next_reference reference a.time) l ∷ [])))

-- it is not refused
pub left-ok : (k reference : ℕ) (a : Arrival) (l : List Arrival) → 0 ≡ judge_one k reference a
    → judge k reference (a ∷ l) ≡ judge k (next_reference reference a.time) l
unfolding judge
left-ok k reference a l e = rw (← e) (first_one (judge k (next_reference reference a.time) l))

-- ---- arrivals of which none is refused

-- the first is not refused, nor one of the others
pub judge-split : (k reference : ℕ) (a : Arrival) (l : List Arrival) → judge k reference (a ∷ l) ≡ 0
    → (judge_one k reference a ≡ 0) × (judge k (next_reference reference a.time) l ≡ 0)
unfolding judge
judge-split k reference a l e =
    let p = first-none (judge_one k reference a) (judge k (next_reference reference a.time) l ∷ []) e in
    (p.0, sym (first_one (judge k (next_reference reference a.time) l)) ∙ p.1)

-- of one arrival: its number lies in 1 to k, and its time is not too early
pub one_split : (k reference : ℕ) (a : Arrival) → judge_one k reference a ≡ 0
    → ((1 ≤ a.number) × (a.number ≤ k)) × (too_early reference a.time ≡ false)
unfolding judge_one
one_split k reference a e =
    let p = first-none (refusal_if (outside 1 k a.number) number_outside) (refusal_if (too_early reference a.time) time_back ∷ []) e in
    let q = first-none (refusal_if (too_early reference a.time) time_back) [] p.1 in
    (limit-none 1 k a.number number_outside (omega arith) p.0, case-none (too_early reference a.time) time_back (omega arith) q.0)

-- every number lies in 1 to k
pub judged-number : (k reference : ℕ) (l : List Arrival) → judge k reference l ≡ 0 → (i : ℕ) (z : Arrival) → i < length l
    → (1 ≤ (get_or l i z).number) × ((get_or l i z).number ≤ k)
judged-number k reference [] e i z h = absurd (omega arith)
judged-number k reference (a ∷ l) e zero z h = (one_split k reference a (judge-split k reference a l e).0).0
judged-number k reference (a ∷ l) e (suc i) z h =
    judged-number k (next_reference reference a.time) l (judge-split k reference a l e).1 i z (omega arith)

-- no time is over 1,000 below the reference
judged-reference : (k reference : ℕ) (l : List Arrival) → judge k reference l ≡ 0 → (i : ℕ) (z : Arrival) → i < length l
    → reference ≤ (get_or l i z).time + back_most
unfolding too_early
judged-reference k reference [] e i z h = absurd (omega arith)
judged-reference k reference (a ∷ l) e zero z h =
    let q : reference - a.time ≤ back_most =
    ltb-false back_most (reference - a.time) (one_split k reference a (judge-split k reference a l e).0).1 in
    omega arith
judged-reference k reference (a ∷ l) e (suc i) z h =
    let r : next_reference reference a.time ≤ (get_or l i z).time + back_most =
    judged-reference k (next_reference reference a.time) l (judge-split k reference a l e).1 i z (omega arith) in
    omega (arith, reference-above reference a.time)

-- no time is over 1,000 below an earlier one
pub judged-times : (k reference : ℕ) (l : List Arrival) → judge k reference l ≡ 0 → (i j : ℕ) (z : Arrival) → i ≤ j → j < length l
    → (get_or l i z).time ≤ (get_or l j z).time + back_most
judged-times k reference [] e i j z p h = absurd (omega arith)
judged-times k reference (a ∷ l) e zero zero z p h = omega arith
judged-times k reference (a ∷ l) e zero (suc j) z p h =
    let r : next_reference reference a.time ≤ (get_or l j z).time + back_most =
    judged-reference k (next_reference reference a.time) l (judge-split k reference a l e).1 j z (omega arith) in
    omega (arith, reference-above reference a.time)
judged-times k reference (a ∷ l) e (suc i) zero z p h = absurd (omega arith)
judged-times k reference (a ∷ l) e (suc i) (suc j) z p h =
    judged-times k (next_reference reference a.time) l (judge-split k reference a l e).1 i j z (omega arith) (omega arith)

-- ---- K and lists of which nothing is refused

-- K lies in 1 to 4,096, the lists are of one length of at most 4,096, every number lies in 1 to K, and no arrival is refused
pub record ListsFit (k : ℕ) (numbers times : List ℕ) : Type 0 where
  pub sent : judge_sent k ≡ 0
  pub least : 1 ≤ k
  pub most : k ≤ sent_most
  pub few : length numbers ≤ arrivals_most
  pub same : length times ≡ length numbers
  pub judged : judge k 0 (arrivals_from numbers times) ≡ 0
  pub numbered : (i : ℕ) → i < length numbers → (1 ≤ get_or numbers i 0) × (get_or numbers i 0 ≤ k)

pub lists-fit : (k : ℕ) (numbers times : List ℕ) → refusal_of_lists k numbers times ≡ 0 → ListsFit k numbers times
unfolding refusal_of_lists
lists-fit k numbers times e =
    let j = judge k 0 (arrivals_from numbers times) in
    let d = refusal_if (not (eqb (length numbers) (length times))) lists_differ in
    let r = each_none (judge_sent k ∷ judge_arrivals (length numbers) ∷ d ∷ j ∷ []) e in
    let b = limit-none 1 sent_most k sent_outside (omega arith) (r 0) in
    let c = limit-none 0 arrivals_most (length numbers) many_arrivals (omega arith) (r 1) in
    let s =
    sym (eqb-true (length numbers) (length times) (not-false _ (case-none (not (eqb (length numbers) (length times))) lists_differ
    (omega arith) (r 2)))) in
    let u = r 3 in
    let n = arrivals-length numbers times s in
    record {
      sent = r 0;
      least = b.0;
      most = b.1;
      few = c.1;
      same = s;
      judged = u;
      numbered = λ i h. numbered n s u i h;
    }
  where
    numbered : length (arrivals_from numbers times) ≡ length numbers → length times ≡ length numbers
        → judge k 0 (arrivals_from numbers times) ≡ 0
        → (i : ℕ) → i < length numbers → (1 ≤ get_or numbers i 0) × (get_or numbers i 0 ≤ k)
    numbered n s u i h =
        let z : Arrival = record { number = 0; time = 0 } in
        let m : get_or numbers i 0 ≡ (get_or (arrivals_from numbers times) i z).number =
        ap (λ (a : Arrival). a.number) (arrivals-get_or numbers times i z s h) in
        let w = judged-number k 0 (arrivals_from numbers times) u i z (omega arith) in
        (omega arith, omega arith)

-- and the other way
pub fit-lists : (k : ℕ) (numbers times : List ℕ) → 1 ≤ k → k ≤ sent_most → length numbers ≤ arrivals_most → length times ≡ length numbers
    → judge k 0 (arrivals_from numbers times) ≡ 0 → refusal_of_lists k numbers times ≡ 0
unfolding refusal_of_lists
fit-lists k numbers times a b c s j =
    rw (
      not-outside 1 sent_most k a b,
      not-outside 0 arrivals_most (length numbers) (omega arith) c,
      eq-eqb (length numbers) (length times) (sym s),
      j,
    )

-- every arrival is of one of the packets 1 to k
pub judged-packets : (k reference : ℕ) (l : List Arrival) → judge k reference l ≡ 0 → All (OfPackets k) l
judged-packets k reference [] e = tt
judged-packets k reference (a ∷ l) e =
    let p = judge-split k reference a l e in
    let n = one_split k reference a p.0 in
    (record { low = n.0.0; high = n.0.1 }, judged-packets k (next_reference reference a.time) l p.1)
