-- The outcome of an arrival. Assumes nothing.
use Rattle.std.specs.Prelude.{ℕ}
use Rattle.std.proofs.Math.Option.{Option}
use Rattle.rfc4737.specs.Order.{FirstArrival}
use Rattle.rfc4737.specs.Extent.{extent_from, late_from}
use Rattle.receiver.specs.declared.Lateness.{Lateness}
use Rattle.receiver.specs.declared.ReceiverAnswer.{ReceiverAnswer}
use Rattle.receiver.specs.declared.ReceiverAnswer.TheVariants.{InOrder}
use Rattle.receiver.specs.declared.Outcome.{Outcome}

-- extent and late time of the packet that arrives at a position and a time, from a jump
unfoldable pub lateness_from : ℕ → ℕ → Option FirstArrival → Lateness
lateness_from position time d = record { extent = extent_from position d; late = late_from time d }

-- the outcome of a refused arrival: "in order" with jump size 0
abbrev pub refused_outcome : ℕ → Outcome
refused_outcome n = record { refusal = n; noted = InOrder 0 }

-- the outcome of an accepted arrival
abbrev pub accepted_outcome : ReceiverAnswer → Outcome
accepted_outcome noted = record { refusal = 0; noted = noted }
