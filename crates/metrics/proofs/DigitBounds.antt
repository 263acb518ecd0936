-- The figures of a sample have no more digits than a listing has room for. Of an answer (`answers-within`): positions, extents, largest n
-- and records are at most 4,096, as there are no more arrivals, and a jump is at most the packet's number; a byte offset is at most 65,535
-- for each first arrival, since a size has two octets; a late time after the discontinuity is at most the arrival's own time, which has
-- eight octets, and one before it at most 1,000, since an accepted file has no time over 1,000 below an earlier one. The call's answer is
-- one of these or, refused, that of no packet (`answer-bounded`). Of counts (`counts-within`): each is at most the number of answers, and
-- the squares of runs are together at most the square of 4,096.
-- Here earlier are the arrivals before a, t is an arrival's time, fs are first arrivals, s is a packet's number, file the octets, w the
-- sample that they decode to i the number of records before. Assumes nothing.
use mathlib.Core.Path.{◌≡◌, refl}
use mathlib.Core.Bool.{Bool, true, false, cond}
use mathlib.Core.List.{List}
use mathlib.Core.Option.{Option, none, some}
use Prim.Native.Nat.{ℕ, ◌+◌, ◌-◌, ◌^◌, ◌≤◌, ◌<◌}
use native.Mathlib.Omega.{arith}
use lib.Dec.{ltb, eqb}
use lib.ListN.{length}
use borrow.Author.Tests.{eqb-true, eqb-false}
use Rattle.octets.specs.Below.{Octets}
use Rattle.rfc4737.specs.declared.Arrival.{Arrival}
use Rattle.rfc4737.specs.declared.Answer.{Answer}
use Rattle.rfc4737.specs.declared.LateTime.{LateTime}
use Rattle.rfc4737.specs.Arrivals.{has, firsts, first_record}
use Rattle.rfc4737.specs.Order.{FirstArrival, is_in_order, jump_size}
use Rattle.rfc4737.specs.Times.{back_most, elapsed}
use Rattle.rfc4737.specs.Extent.{extent_from, late_from, size_in, discontinuity}
use Rattle.rfc4737.specs.Answer.{in_order_answer, reordered_answer, first_answer, answer_to}
use Rattle.rfc4737.specs.Reordered.{size_most, FiguresBounded}
use Rattle.rfc4737.specs.Runs.{counts}
use Rattle.rfc4737.proofs.Lists.{All, all_take}
use Rattle.rfc4737.proofs.Arrivals.{length-firsts}
use Rattle.rfc4737.proofs.Jumps.{discontinuity-until}
use Rattle.rfc4737.proofs.Packets.{all_firsts}
use Rattle.rfc4737.proofs.Reordered.{figures-bounded}
use Rattle.rfc4737.proofs.Folds.{offset-le, largest-le, in-order-or-reordered, duplicate-or-first, closed-reordered, current-le, squares-le}
use Rattle.rfc4737.specs.Judge.{sent_most, arrivals_most}
use Rattle.listing.specs.DigitBounds.{TimeWithin, AnswerWithin, CountsWithin}
use Rattle.sample.specs.Decode.{Decoded, refused, accepted, decode}
use Rattle.sample.specs.declared.Layout.{Layout}
use Rattle.sample.proofs.Accepted.{size_fits, time-fits, times-within}
use Rattle.metrics.specs.Sample.{size_of, sample_arrivals, answers_of}
use Rattle.sample.specs.Places.{no_arrival}
use Rattle.metrics.specs.Records.{FileLayout, arrival_at, before, answer_at, HasRecord}
use Rattle.metrics.specs.Figures.{at_record, record_refusal, record_answer}
use Rattle.metrics.proofs.Records.{record-some}
use Rattle.metrics.proofs.TablesFollow.{inside-laid, before-length, arrivals-laid}
use Rattle.metrics.proofs.RecordsAsked.{answer-refused, record-inside, answer-known}

-- the extent is at most the position
extent-le : (i : ℕ) (d : Option FirstArrival) → extent_from i d ≤ i
unfolding extent_from
extent-le i none = omega arith
extent-le i (some j) = omega arith

-- the late time of a packet that arrives at time t: after, it is at most t; before, at most 1,000, since no first arrival is
-- over 1,000 later than t
late-within : (t : ℕ) → t < 2 ^ 64 → (fs : List Arrival) → All (λ (b : Arrival). b.time ≤ t + back_most) fs → (s : ℕ)
    → TimeWithin (late_from t (discontinuity fs s))
unfolding late_from elapsed
late-within t high fs back s = go (discontinuity fs s) (discontinuity-until (t + back_most) fs back s)
  where
    test : (p : FirstArrival) → p.time ≤ t + back_most → (u : Bool)
        → TimeWithin (cond u (LateTime.Before (p.time - t)) (LateTime.After (t - p.time)))
    test p h true = omega arith
    test p h false = omega arith

    go : (d : Option FirstArrival) → ((p : FirstArrival) → d ≡ some p → p.time ≤ t + back_most) → TimeWithin (late_from t d)
    go none h = omega arith
    go (some p) h = test p (h p refl) (ltb t p.time)

module _ (size : ℕ → ℕ) (small : (s : ℕ) → size s ≤ size_most) (earlier : List Arrival) (few : length earlier < arrivals_most) (a : Arrival)
    (number : a.number ≤ sent_most)
    (time : a.time < 2 ^ 64) (back : All (λ (b : Arrival). b.time ≤ a.time + back_most) earlier) where
  -- the answer for an arrival after fewer than 4,096
  answer-within : AnswerWithin (answer_to size earlier a)
  unfolding answer_to first_answer in_order_answer reordered_answer jump_size
  answer-within = go (has a.number earlier) refl (is_in_order (firsts earlier) a.number)
    where
      go : (t : Bool) → has a.number earlier ≡ t → (u : Bool)
          → AnswerWithin (cond t (Answer.Duplicate (record { first = first_record a.number earlier }))
          (cond u (in_order_answer (firsts earlier) a) (reordered_answer size (firsts earlier) a
          (discontinuity (firsts earlier) a.number))))
      go true arrived u = omega (arith, record-some a.number earlier arrived)
      go false new true = (omega (arith, length-firsts earlier), omega arith)
      go false new false =
          let n = length-firsts earlier in
          let o = offset-le size size_most small (firsts earlier) a.number in
          record {
            position = omega arith;
            extent = omega (arith, extent-le (length (firsts earlier) + 1) (discontinuity (firsts earlier) a.number));
            late = late-within a.time time (firsts earlier) (all_firsts _ earlier back) a.number;
            offset = omega arith;
            largest = omega (arith, largest-le (firsts earlier) a.number);
          }

-- every payload size of a file fits two octets
pub size-most : (file : List ℕ) → Octets file → (s : ℕ) → size_of (decode file) s ≤ size_most
unfolding size_in
size-most file o s = go (decode file) refl
  where
    go : (d : Decoded) → decode file ≡ d → size_of d s ≤ size_most
    go (refused r) e = omega arith
    go (accepted w) e = omega (arith, size_fits file w e o (s - 1))

-- every arrival time of a file fits eight octets
time-most : (file : List ℕ) → Octets file → (i : ℕ) → (arrival_at (decode file) i).time < 2 ^ 64
time-most file o i = go (decode file) refl
  where
    go : (d : Decoded) → decode file ≡ d → (arrival_at d i).time < 2 ^ 64
    go (refused r) e = omega arith
    go (accepted w) e = time-fits file w e o i

-- no arrival of a file is over 1,000 later than one after it
back-most : (file : List ℕ) (layout : Layout) → Octets file → (i : ℕ) → HasRecord (decode file) layout i
    → All (λ (b : Arrival). b.time ≤ (arrival_at (decode file) i).time + back_most) (before (decode file) i)
back-most file layout o i h =
    all_take _ no_arrival (sample_arrivals (decode file)) i (λ j k. go (decode file) refl j (omega arith)
    (inside-laid (decode file) layout i h))
  where
    go : (d : Decoded) → decode file ≡ d → (j : ℕ) → j ≤ i → i < length (sample_arrivals d)
        → (arrival_at d j).time ≤ (arrival_at d i).time + back_most
    go (refused r) e j p q = omega arith
    go (accepted w) e j p q = times-within file w e o no_arrival j i p q

-- the answer for any record of a file of octets
pub answers-within : (file : List ℕ) (layout : Layout) (i : ℕ) → Octets file → HasRecord (decode file) layout i
    → AnswerWithin (answer_at (decode file) i)
answers-within file layout i o h =
    answer-within (size_of (decode file)) (size-most file o) (before (decode file) i)
    (omega (arith, before-length (decode file) layout i h, h.inside, h.file.few))
    (arrival_at (decode file) i)
    (omega (arith, h.file.numbers i h.inside, h.file.sent_few))
    (time-most file o i)
    (back-most file layout o i h)

-- the figures of a reordered packet that `answer` gives of a file of octets are bounded
pub answer-bounded : (file : List ℕ) (layout : Layout) → FileLayout (decode file) layout → Octets file → (asked : ℕ)
    → FiguresBounded (record_answer (decode file) asked).answer
unfolding record_answer
answer-bounded file layout h o asked = go (eqb (record_refusal (decode file) asked) 0) refl
  where
    d : Decoded
    d = decode file

    go : (t : Bool) → eqb (record_refusal d asked) 0 ≡ t → FiguresBounded
        (at_record (Answer.InOrder (record { position = 0; jump = 0 })) (answers_of d) asked)
    go false e = rw (answer-refused d asked (Answer.InOrder (record { position = 0; jump = 0 })) (eqb-false _ 0 e)) tt
    go true e =
        let z : record_refusal d asked ≡ 0 = eqb-true _ 0 e in
        let r = record-inside d asked z in
        let k : HasRecord d layout (asked - 1) = record { file = h; inside = omega (arith, r, arrivals-laid d layout h) } in
        rw (answer-known d asked z (Answer.InOrder (record { position = 0; jump = 0 })))
        (figures-bounded (size_of d) (size-most file o) (before d (asked - 1)) (arrival_at d (asked - 1))
        (omega (arith, before-length d layout (asked - 1) k, k.inside, h.few)) (h.numbers (asked - 1) k.inside).0)

-- the counts of at most 4,096 answers
pub counts-within : (l : List Answer) → length l ≤ arrivals_most → CountsWithin (counts l)
unfolding counts
counts-within l h =
    let a = in-order-or-reordered l in
    let b = duplicate-or-first l in
    let c = closed-reordered l in
    let e = current-le l in
    let s = squares-le arrivals_most l (omega arith) in
    record {
      arrived = omega arith;
      reordered = omega arith;
      duplicates = omega arith;
      inorder = omega arith;
      closed = omega arith;
      squares = omega arith;
      current = omega arith;
    }
