-- The answer for a record. A duplicate has the record of the first copy, and an in-order packet its position and jump size. A reordered
-- packet has its position, extent, late time, byte offset and largest n. Assumes nothing.
use Rattle.std.specs.Prelude.{ℕ, ◌+◌, cond, List, length}
use Rattle.std.proofs.Math.Option.{Option}
use Rattle.rfc4737.specs.declared.Arrival.{Arrival}
use Rattle.rfc4737.specs.declared.Answer.{Answer}
use Rattle.rfc4737.specs.declared.Answer.TheVariants.{Duplicate, InOrder, Reordered}
use Rattle.rfc4737.specs.Arrivals.{has, firsts, first_record, each}
use Rattle.rfc4737.specs.Order.{FirstArrival, is_in_order, jump_size}
use Rattle.rfc4737.specs.Extent.{discontinuity, extent_from, late_from, byte_offset, largest_n}

-- the answer for an in-order packet a, after the first arrivals fs
unfoldable pub in_order_answer : List Arrival → Arrival → Answer
in_order_answer fs a = InOrder (record { position = length fs + 1; jump = jump_size fs a.number })

-- the answer for a reordered packet a with the discontinuity d, after the first arrivals fs
unfoldable pub reordered_answer : (ℕ → ℕ) → List Arrival → Arrival → Option FirstArrival → Answer
reordered_answer size fs a d =
    Reordered
    (record {
      position = length fs + 1;
      extent = extent_from (length fs + 1) d;
      late = late_from a.time d;
      offset = byte_offset size fs a.number;
      largest = largest_n fs a.number;
    })

-- the answer for a first arrival a, after the first arrivals fs
unfoldable pub first_answer : (ℕ → ℕ) → List Arrival → Arrival → Answer
first_answer size fs a =
    cond (is_in_order fs a.number) (in_order_answer fs a) (reordered_answer size fs a (discontinuity fs a.number))

-- the answer for an arrival a, after the arrivals `earlier`
unfoldable pub answer_to : (ℕ → ℕ) → List Arrival → Arrival → Answer
answer_to size earlier a =
    cond (has a.number earlier) (Duplicate (record { first = first_record a.number earlier }))
    (first_answer size (firsts earlier) a)

-- the answers for all records of a sample
unfoldable pub answers : (ℕ → ℕ) → List Arrival → List Answer
answers size l = each (answer_to size) l
