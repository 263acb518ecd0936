-- Every reordered packet has a discontinuity, and its byte offset is bounded. Here `earlier` are the arrivals before the arrival a of the
-- packet, and f are its figures. Assumes nothing.
use Rattle.std.specs.Prelude.{ℕ, ◌-◌, ◌*◌, ◌≤◌, ◌<◌, List, ◌≡◌, length}
use Rattle.std.proofs.Math.Option.{some}
use Rattle.rfc4737.specs.declared.Arrival.{Arrival}
use Rattle.rfc4737.specs.declared.Answer.{Answer}
use Rattle.rfc4737.specs.declared.Answer.TheVariants.{Duplicate, InOrder, Reordered}
use Rattle.rfc4737.specs.declared.ReorderedFigures.{ReorderedFigures}
use Rattle.rfc4737.specs.Arrivals.{firsts}
use Rattle.rfc4737.specs.Order.{FirstArrival}
use Rattle.rfc4737.specs.Extent.{discontinuity}
use Rattle.rfc4737.specs.Answer.{answer_to}
use Rattle.rfc4737.specs.Judge.{arrivals_most}

-- the greatest payload size: it has two octets
abbrev pub size_most : ℕ
size_most = 65535

-- the greatest byte offset, 268,365,825: all 4,095 arrivals before the last one have greater numbers and the greatest size
abbrev pub offset_most : ℕ
offset_most = (arrivals_most - 1) * size_most

-- a packet has a discontinuity: an earlier first arrival, so that its extent is at least 1
pub record HasDiscontinuity (earlier : List Arrival) (a : Arrival) (f : ReorderedFigures) : Type 0 where
  pub at : FirstArrival
  pub is : discontinuity (firsts earlier) a.number ≡ some at
  pub extent : 1 ≤ f.extent

-- every reordered packet with a number of at least 1 has one, whatever arrived before it
abbrev pub ReorderedHaveDiscontinuity : Type 0
ReorderedHaveDiscontinuity =
    (size : ℕ → ℕ) (earlier : List Arrival) (a : Arrival) (f : ReorderedFigures) → 1 ≤ a.number
    → answer_to size earlier a ≡ Reordered f → HasDiscontinuity earlier a f

-- the byte offset of every reordered packet after fewer than 4,096 arrivals is at most 268,365,825
abbrev pub OffsetsBounded : Type 0
OffsetsBounded =
    (size : ℕ → ℕ) → ((s : ℕ) → size s ≤ size_most) → (earlier : List Arrival) (a : Arrival) (f : ReorderedFigures)
    → length earlier < arrivals_most → answer_to size earlier a ≡ Reordered f → f.offset ≤ offset_most

-- both, for the answer of a call: a reordered packet has an extent of at least 1 and a byte offset of at most 268,365,825
abbrev pub FiguresBounded : Answer → Type 0
FiguresBounded (Duplicate f) = Unit
FiguresBounded (InOrder f) = Unit
FiguresBounded (Reordered f) = (1 ≤ f.extent) × (f.offset ≤ offset_most)
