-- A receiver in parts: the numbers of its stream, its marks, and three arrays of places. A stream of a meter counts the places from the
-- first up, or from the last down; the oldest jump is the first in its count. Assumes nothing.
use Rattle.std.specs.Prelude.{ℕ, ◌-◌, Bool, true, false, List, reverse, Result, Ok, Err}
use Rattle.rfc4737.specs.declared.refusal.Refusal.{Refusal}
use Rattle.rfc4737.specs.Refused.{number_of}
use Rattle.receiver.specs.declared.Stream.{Stream}
use Rattle.receiver.specs.declared.Places.{Places}
use Rattle.receiver.specs.declared.Receiver.{Receiver}
use Rattle.receiver.specs.declared.StepAnswer.{StepAnswer}
use Rattle.receiver.specs.declared.ReceiverAnswer.{ReceiverAnswer}
use Rattle.receiver.specs.declared.Outcome.{Outcome}
use Rattle.receiver.specs.declared.advance.StreamStep.{StreamStep}
use Rattle.receiver.specs.Limits.{window_places}
use Rattle.receiver.specs.Outcomes.{refused_outcome, accepted_outcome}

-- ---- the places from either end

-- the index of place i: i, or 63 - i if places are counted down
unfoldable pub place_from : Bool → ℕ → ℕ
place_from true i = window_places - 1 - i
place_from false i = i

-- the values of the places in the order of the count
unfoldable pub oldest_first : Bool → List ℕ → List ℕ
oldest_first true l = reverse l
oldest_first false l = l

-- ---- parts put together

-- the places of three arrays
abbrev pub places_of : List ℕ → List ℕ → List ℕ → Places
places_of positions numbers times = record { positions = positions; numbers = numbers; times = times }

-- the places of three arrays in the order of the count
abbrev pub places_by : Bool → List ℕ → List ℕ → List ℕ → Places
places_by down positions numbers times = places_of (oldest_first down positions) (oldest_first down numbers) (oldest_first down times)

-- the receiver of a stream, with its marks and places
abbrev pub whole : Stream → List ℕ → List ℕ → List ℕ → List ℕ → Receiver
whole s marks positions numbers times = record { stream = s; marks = marks; places = places_of positions numbers times }

-- the receiver of a stream, its places in the order of the count
abbrev pub whole_by : Bool → Stream → List ℕ → List ℕ → List ℕ → List ℕ → Receiver
whole_by down s marks positions numbers times = record { stream = s; marks = marks; places = places_by down positions numbers times }

-- the step whose answer is a, with these marks and places after it
abbrev pub step_answer_by : Bool → StreamStep → List ℕ → List ℕ → List ℕ → List ℕ → StepAnswer
step_answer_by down a marks positions numbers times =
    record { outcome = a.outcome; state = whole_by down a.stream marks positions numbers times }

-- the same for places counted from the first up
abbrev pub step_answer_of : StreamStep → List ℕ → List ℕ → List ℕ → List ℕ → StepAnswer
step_answer_of a marks positions numbers times =
    record { outcome = a.outcome; state = whole a.stream marks positions numbers times }

-- ---- a stream over places that are lent whole

-- the places in the order of the count
abbrev pub in_count : Bool → Places → Places
in_count down places = places_by down places.positions places.numbers places.times

-- the receiver of a stream, its places in the order of the count
abbrev pub receiver_by : Bool → Stream → List ℕ → Places → Receiver
receiver_by down s marks places = record { stream = s; marks = marks; places = in_count down places }

-- the outcome that an answer tells: what is noted, or the refusal
abbrev pub outcome_by : Result ReceiverAnswer Refusal → Outcome
outcome_by (Ok noted) = accepted_outcome noted
outcome_by (Err refusal) = refused_outcome (number_of refusal)
