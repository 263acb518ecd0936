-- The buffer that a receiver needs to restore order, for each record and for a whole sample. The buffer's size is finite "in terms of
-- packets, bytes, or time" (RFC 4737, section 1.1). A reordered packet needs room for as many packets as its extent (4.2.4, which calls
-- this an overestimate in some cases) and as many octets as its byte offset (4.4). It needs a wait of its late time (4.3). A packet in
-- order needs nothing, and a duplicate is not analysed. Nothing is said of packets that never arrived. Assumes nothing.
use Rattle.std.specs.Prelude.{ℕ, Bool, cond, not, ◌&&◌, leb, ltb}
use mathlib.Core.List.{List, map, foldl}
use Rattle.rfc4737.specs.declared.Answer.{Answer}
use Rattle.rfc4737.specs.declared.Answer.TheVariants.{Duplicate, InOrder, Reordered}
use Rattle.rfc4737.specs.declared.LateTime.{LateTime}
use Rattle.rfc4737.specs.declared.Measure.{Measure}
use Rattle.rfc4737.specs.declared.ReorderedFigures.{ReorderedFigures}
use Rattle.rfc4737.specs.Arrivals.{count}
use Rattle.rfc4737.specs.Runs.{is_duplicate}

-- ---- what a packet needs

-- how long the receiver must wait: the late time; 0 if the packet is stamped before its discontinuity
abbrev pub waiting_time : LateTime → ℕ
waiting_time (LateTime.After t) = t
waiting_time (LateTime.Before t) = 0

-- the need of a reordered packet with the figures f, in the unit of a measure
abbrev pub needed_by : Measure → ReorderedFigures → ℕ
needed_by Measure.Packets f = f.extent
needed_by Measure.Octets f = f.offset
needed_by Measure.Time f = waiting_time f.late

-- the need of a record, by its answer
abbrev pub needed_for : Measure → Answer → ℕ
needed_for m (Duplicate d) = 0
needed_for m (InOrder d) = 0
needed_for m (Reordered f) = needed_by m f

-- ---- what a sample needs

-- the greatest of a list of numbers; 0 for the empty list
unfoldable pub greatest : List ℕ → ℕ
greatest l = foldl (λ (m n : ℕ). cond (ltb m n) n m) 0 l

-- the greatest need of any record; 0 if none is reordered
unfoldable pub greatest_need : Measure → List Answer → ℕ
greatest_need m l = greatest (map (needed_for m) l)

-- whether a record is a first arrival that a buffer of this size accommodates
abbrev pub accommodates : Measure → ℕ → Answer → Bool
accommodates m size a = not (is_duplicate a) && leb (needed_for m a) size

-- the number of first arrivals that a buffer of this size accommodates
unfoldable pub accommodated : Measure → ℕ → List Answer → ℕ
accommodated m size l = count (accommodates m size) l
