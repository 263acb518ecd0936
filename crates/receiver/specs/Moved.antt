-- Moving the clock of the arrivals fed to a fresh receiver. Assumes nothing.
use Rattle.std.specs.Prelude.{ℕ, List, ◌≡◌}
use Rattle.rfc4737.specs.declared.Arrival.{Arrival}
use Rattle.rfc4737.specs.Moved.{moved}
use Rattle.receiver.specs.Demand3.{receiver_outcomes}

-- a fresh receiver for K returns for any list of arrivals, with c added to all their times, what it returns for these arrivals. That
-- includes refusal 7: it compares two times, both of which are moved, and the first arrival never meets it
abbrev pub MovedAnswers : ℕ → Type 0
MovedAnswers k = (c : ℕ) (fed : List Arrival) → receiver_outcomes k (moved c fed) ≡ receiver_outcomes k fed
