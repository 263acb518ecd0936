-- The answers of the importer: K or the records are refused, a list is too short (8), or both lists are filled. In each case the first
-- refusal is known, and with it the answer and the lists (`answered`). If nothing is refused, K, the number of arrivals and their numbers
-- are within their limits (`none-refused`), so lists of 4,096 always have room (`import-room`). The times filled in are sorted, so none
-- is before the first (`filled-first`), which the conversion needs. k is K, os are the records, r is a refusal, n the number of arrivals,
-- l the sorted arrivals; numbers' and times' are the lists after the call, d is the list of times as filled. Assumes nothing.
use Prim.Native.Nat.{ℕ, zero, suc, ◌≤◌, ◌<◌}
use native.Mathlib.Omega.{arith}
use mathlib.Core.Bool.{◌||◌, or-true}
use mathlib.Core.List.{List, [], ◌∷◌}
use mathlib.Core.Path.{◌≡◌, refl, sym, ap, ◌∙◌}
use lib.Dec.{ltb}
use lib.ListN.{length, get_or, get_or-append, get_or-map, length-map, drop}
use borrow.Author.Tests.{lt-ltb, le-ltb}
use Rattle.octets.specs.Memory.{over}
use Rattle.merging.proofs.Ordered.{rising-at, in_order-ordered, order-length}
use Rattle.rfc4737.specs.declared.Arrival.{Arrival}
use Rattle.rfc4737.specs.Refusals.{refusal_if, first_refusal, sent_outside, many_arrivals, output_short}
use Rattle.rfc4737.specs.Judge.{numbers_of, times_of, judge_sent, judge_arrivals, sent_most, arrivals_most}
use Rattle.sample.specs.Output.{if_none}
use Rattle.sample.specs.Places.{no_arrival}
use Rattle.owamp.specs.Record.{records_arrivals}
use Rattle.owamp.specs.Order.{time_of, NotBack, in_time_order}
use Rattle.owamp.specs.Clock.{from_smallest}
use Rattle.owamp.specs.Judge.{judge_length, judge_numbers, records_refusal}
use Rattle.owamp.specs.Calls.{import_refusal, imported_arrivals, RecordsImportedFrom}
use Rattle.rfc4737.proofs.Due.{each_none, limit-none}
use Rattle.rfc4737.proofs.Lists.{All}
use Rattle.owamp.proofs.Reading.{Within, numbers-all}
use Rattle.owamp.proofs.Converted.{smallest-numbers, smallest-length}

-- what is known of K and records of which nothing is refused
pub record NoneRefused (k : ℕ) (os : List ℕ) : Type 0 where
  pub least : 1 ≤ k
  pub most : k ≤ sent_most
  pub few : length (records_arrivals os) ≤ arrivals_most
  pub numbers : All (Within k) (records_arrivals os)

pub none-refused : (k : ℕ) (os : List ℕ) → records_refusal k os ≡ 0 → NoneRefused k os
unfolding records_refusal
none-refused k os e =
    let n = length (records_arrivals os) in
    let r = each_none (judge_length (length os) ∷ judge_sent k ∷ judge_arrivals n ∷ judge_numbers k (records_arrivals os) ∷ []) e in
    let s = limit-none 1 sent_most k sent_outside (omega arith) (r 1) in
    record {
      least = s.0;
      most = s.1;
      few = (limit-none 0 arrivals_most n many_arrivals (omega arith) (r 2)).1;
      numbers = numbers-all k (records_arrivals os) (r 3);
    }

module _ (k : ℕ) (os numbers times : List ℕ) where
  -- what is answered and left in the lists, by the refusal
  answered : {r : ℕ} (n : ℕ) {numbers' times' : List ℕ} → import_refusal k (length numbers) (length times) os ≡ r
      → n ≡ if_none r (length (imported_arrivals os)) 0
      → numbers' ≡ if_none r (over (numbers_of (imported_arrivals os)) numbers) numbers
      → times' ≡ if_none r (over (times_of (imported_arrivals os)) times) times
      → RecordsImportedFrom k os numbers times (record { refusal = r; arrivals = n }) numbers' times'
  answered n e f g h = record { refusal = sym e; arrivals = f; filled_numbers = g; filled_times = h }

  -- the records or K are refused
  pub import-refused : (r : ℕ) → r ≡ records_refusal k os → (r ≡ 0 → ⊥)
      → RecordsImportedFrom k os numbers times (record { refusal = r; arrivals = 0 }) numbers times
  unfolding import_refusal
  import-refused zero e n = absurd (n refl)
  import-refused (suc r) e n =
      answered 0 (ap (λ (x : ℕ). first_refusal (x ∷ refusal_if
      (ltb (length numbers) (length (records_arrivals os)) || ltb (length times) (length (records_arrivals os))) output_short ∷ [])) (sym e))
      refl refl refl

  -- a list is too short
  module _ {n : ℕ} (e : records_refusal k os ≡ 0) (c : n ≡ length (records_arrivals os)) where
    pub import-short-numbers : length numbers < n → RecordsImportedFrom k os numbers times
        (record { refusal = output_short; arrivals = 0 }) numbers times
    unfolding import_refusal
    import-short-numbers h =
        let g : length numbers < length (records_arrivals os) = omega arith in
        answered 0 (simp (e, lt-ltb _ _ g)) refl refl refl

    pub import-short-times : length times < n → RecordsImportedFrom k os numbers times (record { refusal = output_short; arrivals = 0 })
        numbers times
    unfolding import_refusal
    import-short-times h =
        let g : length times < length (records_arrivals os) = omega arith in
        answered 0 (simp (e, lt-ltb _ _ g, or-true)) refl refl refl

  -- the lists are filled
  pub import-filled : (n : ℕ) {numbers' times' : List ℕ} → records_refusal k os ≡ 0 → n ≡ length (records_arrivals os) → n ≤ length numbers
      → n ≤ length times
      → numbers' ≡ over (numbers_of (in_time_order (records_arrivals os))) numbers
      → times' ≡ over (times_of (from_smallest (in_time_order (records_arrivals os)))) times
      → RecordsImportedFrom k os numbers times (record { refusal = 0; arrivals = n }) numbers' times'
  unfolding import_refusal imported_arrivals
  import-filled n e c h g f t =
      let l : List Arrival = in_time_order (records_arrivals os) in
      let a : length (records_arrivals os) ≤ length numbers = omega arith in
      let b : length (records_arrivals os) ≤ length times = omega arith in
      let m : length (from_smallest l) ≡ length (records_arrivals os) = smallest-length l ∙ order-length time_of (records_arrivals os) in
      answered n (simp (e, le-ltb _ _ a, le-ltb _ _ b)) (c ∙ sym m) (f ∙ ap (λ (x : List ℕ). over x numbers) (smallest-numbers l)) t

-- where there are places for 4,096 arrivals, the refusal is that of K and the records
pub import-room : (k numbers times : ℕ) (os : List ℕ) → arrivals_most ≤ numbers → arrivals_most ≤ times
    → import_refusal k numbers times os ≡ records_refusal k os
unfolding import_refusal
import-room k numbers times os n t = go (records_refusal k os) refl
  where
    go : (r : ℕ) → records_refusal k os ≡ r → import_refusal k numbers times os ≡ records_refusal k os
    go zero e =
        let f = (none-refused k os e).few in
        rw (e, le-ltb numbers (length (records_arrivals os)) (omega arith), le-ltb times (length (records_arrivals os)) (omega arith))
    go (suc r) e = rw e

-- of rising times none is before the first
rising-first : (l : List Arrival) → NotBack l → (k : ℕ) → k < length l → get_or (times_of l) 0 0 ≤ get_or (times_of l) k 0
rising-first l r k h =
    let at : (j : ℕ) → get_or (times_of l) j 0 ≡ (get_or l j no_arrival).time = λ j. get_or-map time_of l j no_arrival in
    omega (arith, at 0, at k, rising-at time_of l r 0 k no_arrival (omega arith) h)

-- none of the recorded times, as they were filled, is before the first
pub filled-first : (os old : List ℕ) {d : List ℕ} → d ≡ over (times_of (in_time_order (records_arrivals os))) old → (i : ℕ)
    → i < length (records_arrivals os) → get_or d 0 0 ≤ get_or d i 0
filled-first os old {d} e i h =
    let l : List Arrival = in_time_order (records_arrivals os) in
    let m : length (times_of l) ≡ length (records_arrivals os) =
    length-map l (λ (a : Arrival). a.time) ∙ order-length time_of (records_arrivals os) in
    let p : get_or d 0 0 ≡ get_or (times_of l) 0 0 =
    ap (λ (x : List ℕ). get_or x 0 0) e ∙ get_or-append (times_of l) (drop (length (times_of l)) old) 0 0 (omega arith) in
    let q : get_or d i 0 ≡ get_or (times_of l) i 0 =
    ap (λ (x : List ℕ). get_or x i 0) e ∙ get_or-append (times_of l) (drop (length (times_of l)) old) 0 i (omega arith) in
    let r = rising-first l (in_order-ordered time_of (records_arrivals os)).rising i (omega (arith, order-length time_of (records_arrivals os))) in
    omega arith
