-- A sample may have the imported arrivals. What holds for every arrival holds for every sorted one, by induction over the insertions
-- (`order-all`), so the numbers stay from 1 to K. Whole microseconds do not go back if receive times do not (`since-rising`). So each
-- time is at or after the reference, and none is refused (`judge-none`, by induction). With these lists only the label can be refused
-- (`label-alone`). l are arrivals and a is one, os the records, k is K, b is what is subtracted from their times. Assumes nothing.
use Prim.Native.Nat.{ℕ, zero, suc, ◌-◌, ◌≤◌, zero-le}
use native.Mathlib.Omega.{arith}
use mathlib.Core.Bool.{Bool, true, false, cond}
use mathlib.Core.List.{List, [], ◌∷◌, ◌++◌, map}
use mathlib.Core.Path.{◌≡◌, refl, sym, ap, ◌∙◌}
use lib.Dec.{ltb}
use lib.ListN.{length, length-map}
use borrow.Author.Tests.{le-ltb, ltb-false}
use Rattle.merging.specs.Order.{NotBelow, insert, in_order}
use Rattle.merging.proofs.Ordered.{in_order-ordered, order-length, order-more}
use Rattle.rfc4737.specs.declared.Arrival.{Arrival}
use Rattle.rfc4737.specs.Judge.{numbers_of, times_of, judge_one, judge, refusal_of_lists}
use Rattle.rfc4737.specs.Refusals.{first_refusal}
use Rattle.rfc4737.specs.Times.{back_most, too_early, next_reference}
use Rattle.rfc4737.proofs.Lists.{snoc-ind, All, all_left, all_right}
use Rattle.rfc4737.proofs.Due.{not-outside}
use Rattle.rfc4737.proofs.Pairs.{arrivals-back}
use Rattle.rfc4737.proofs.Judged.{fit-lists}
use Rattle.sample.specs.Judge.{judge_label, judge_octets, sample_refusal}
use Rattle.owamp.specs.Record.{records_arrivals}
use Rattle.owamp.specs.Order.{time_of, NotBack, in_time_order}
use Rattle.owamp.specs.Clock.{microseconds, smallest, since, from_smallest}
use Rattle.owamp.specs.Judge.{records_refusal}
use Rattle.owamp.specs.Calls.{imported_arrivals}
use Rattle.owamp.specs.RoundTrip.{AcceptedLists}
use Rattle.owamp.proofs.Reading.{Within}
use Rattle.owamp.proofs.Clocks.{micro-rising}
use Rattle.owamp.proofs.Converted.{smallest-length}
use Rattle.owamp.proofs.Answers.{none-refused}

-- ---- what holds of every arrival holds of every one in order

module _ (P : Arrival → Type 0) where
  insert_all : (a : Arrival) (l : List Arrival) → P a → All P l → All P (insert time_of a l)
  unfolding insert
  insert_all a [] p h = (p, tt)
  insert_all a (b ∷ l) p h = go (insert_all a l p h.1) (ltb a.time b.time)
    where
      go : All P (insert time_of a l) → (t : Bool) → All P (cond t (a ∷ b ∷ l) (b ∷ insert time_of a l))
      go m true = (p, h)
      go m false = (h.0, m)

  order-all : (l : List Arrival) → All P l → All P (in_time_order l)
  unfolding in_order
  order-all l = snoc-ind (λ (l : List Arrival). All P l → All P (in_time_order l)) more (λ h. tt) l
    where
      more : (l : List Arrival) (a : Arrival) → (All P l → All P (in_time_order l)) → All P (l ++ (a ∷ []))
          → All P (in_time_order (l ++ (a ∷ [])))
      more l a f h = rw (order-more time_of l a) (insert_all a (in_time_order l) (all_right P l (a ∷ []) h).0 (f (all_left P l (a ∷ []) h)))

-- ---- in microseconds

module _ (b : ℕ) where
  since-within : (k : ℕ) (l : List Arrival) → All (Within k) l → All (Within k) (map (since b) l)
  since-within k [] h = tt
  since-within k (a ∷ l) h = (h.0, since-within k l h.1)

  since-before : (t : ℕ) (l : List Arrival) → NotBelow time_of t l → NotBelow time_of (microseconds t - b) (map (since b) l)
  since-before t [] n = tt
  since-before t (a ∷ l) n = ((let m = micro-rising t a.time n.0 in omega arith), since-before t l n.1)

  since-rising : (l : List Arrival) → NotBack l → NotBack (map (since b) l)
  since-rising [] r = tt
  since-rising (a ∷ l) r = (since-before a.time l r.0, since-rising l r.1)

imported-rising : (os : List ℕ) → NotBack (imported_arrivals os)
unfolding imported_arrivals from_smallest
imported-rising os =
    let l : List Arrival = in_time_order (records_arrivals os) in
    since-rising (smallest (map microseconds (times_of l))) l (in_order-ordered time_of (records_arrivals os)).rising

-- ---- the judge of arrivals

-- the reference after a time that does not go back is that time
reference-on : (reference time : ℕ) → reference ≤ time → next_reference reference time ≡ time
unfolding next_reference
reference-on reference time h = go (ltb reference time) refl
  where
    go : (t : Bool) → ltb reference time ≡ t → cond t time reference ≡ time
    go true e = refl
    go false e = omega (arith, ltb-false)

-- numbers in 1 to K and times that do not go back, from the reference on: none is refused
judge-none : (k reference : ℕ) (l : List Arrival) → All (Within k) l → NotBelow time_of reference l → NotBack l → judge k reference l ≡ 0
unfolding judge judge_one too_early
judge-none k reference [] h n r = refl
judge-none k reference (a ∷ l) h n r =
    let b : reference - a.time ≤ back_most = omega (arith, n.0) in
    rw (
      not-outside 1 k a.number h.0.0 h.0.1,
      le-ltb back_most (reference - a.time) b,
      reference-on reference a.time n.0,
      judge-none k a.time l h.1 r.0 r.1,
    )

before-zero : (l : List Arrival) → NotBelow time_of 0 l
before-zero [] = tt
before-zero (a ∷ l) = (zero-le, before-zero l)

imported-within : (k : ℕ) (os : List ℕ) → All (Within k) (records_arrivals os) → All (Within k) (imported_arrivals os)
unfolding imported_arrivals from_smallest
imported-within k os w =
    let l : List Arrival = in_time_order (records_arrivals os) in
    since-within (smallest (map microseconds (times_of l))) k l (order-all (Within k) (records_arrivals os) w)

imported-length : (os : List ℕ) → length (imported_arrivals os) ≡ length (records_arrivals os)
unfolding imported_arrivals
imported-length os = smallest-length (in_time_order (records_arrivals os)) ∙ order-length time_of (records_arrivals os)

accepted : (k : ℕ) (os : List ℕ) → records_refusal k os ≡ 0 → refusal_of_lists k (numbers_of (imported_arrivals os))
    (times_of (imported_arrivals os)) ≡ 0
accepted k os e =
    let n = none-refused k os e in
    let l : List Arrival = imported_arrivals os in
    let a : length (numbers_of l) ≡ length l = length-map l (λ (x : Arrival). x.number) in
    let b : length (times_of l) ≡ length l = length-map l (λ (x : Arrival). x.time) in
    let c = imported-length os in
    let j : judge k 0 l ≡ 0 = judge-none k 0 l (imported-within k os n.numbers) (before-zero l) (imported-rising os) in
    fit-lists k (numbers_of l) (times_of l) n.least n.most (omega (arith, n.few)) (b ∙ sym a) (ap (judge k 0) (arrivals-back l) ∙ j)

-- the label's refusals alone
label-alone : (label sizes numbers times : List ℕ) → refusal_of_lists (length sizes) numbers times ≡ 0
    → sample_refusal label sizes numbers times ≡ first_refusal (judge_label (length label) ∷ judge_octets label ∷ [])
unfolding sample_refusal
label-alone label sizes numbers times e =
    ap (λ (x : ℕ). first_refusal (judge_label (length label) ∷ judge_octets label ∷ x ∷ [])) e
    ∙ last (judge_label (length label)) (judge_octets label)
  where
    one : (r : ℕ) → first_refusal (r ∷ 0 ∷ []) ≡ first_refusal (r ∷ [])
    one zero = refl
    one (suc r) = refl

    last : (q r : ℕ) → first_refusal (q ∷ r ∷ 0 ∷ []) ≡ first_refusal (q ∷ r ∷ [])
    last zero r = one r
    last (suc q) r = refl

pub accepted-lists : (k : ℕ) (os : List ℕ) → AcceptedLists k os
accepted-lists k os e = record {
  rising = imported-rising os;
  lists = accepted k os e;
  written = λ label sizes f.
      label-alone label sizes (numbers_of (imported_arrivals os)) (times_of (imported_arrivals os))
      (ap (λ (n : ℕ). refusal_of_lists n (numbers_of (imported_arrivals os)) (times_of (imported_arrivals os))) f ∙ accepted k os e);
}
