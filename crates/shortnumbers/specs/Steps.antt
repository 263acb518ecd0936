-- The receiver's step with a short number, and the theorems of its contract on lists of short numbers fed to a fresh receiver. Assumes
-- nothing.
use Rattle.std.specs.Prelude.{ℕ, ◌-◌, ◌≤◌, ◌≡◌}
use mathlib.Core.List.{List, [], map, foldl}
use Rattle.rfc4737.specs.declared.Arrival.{Arrival}
use Rattle.rfc4737.specs.Arrivals.{each}
use Rattle.rfc4737.specs.Judge.{sent_most, numbers_of}
use Rattle.receiver.specs.declared.Receiver.{Receiver}
use Rattle.receiver.specs.declared.Outcome.{Outcome}
use Rattle.receiver.specs.declared.StepAnswer.{StepAnswer}
use Rattle.receiver.specs.Step.{fresh_of, step_of}
use Rattle.receiver.specs.Lent.{AsStep}
use Rattle.receiver.specs.Account.{account_of}
use Rattle.receiver.specs.Demand3.{state_after, receiver_outcomes, Demand3}
use Rattle.shortnumbers.specs.Number.{range_of, short_of, Near, number_found, ExactNumber}
use Rattle.shortnumbers.specs.InTurn.{greatest_of, in_turn, EachKeeps}

-- the greatest full number accepted, as a receiver has it: NextExp less 1
abbrev pub greatest_by : Receiver → ℕ
greatest_by s = s.stream.next - 1

-- the step with a short number: the step with the number found
unfoldable pub short_step : (r : ℕ) (s : Receiver) (short time : ℕ) → StepAnswer
short_step r s short time = step_of s (number_found r (greatest_by s) short) time

-- the answer of a call over a borrowed receiver, and the receiver after it: the step in place with the number found
abbrev pub AsShortStep : (r : ℕ) → Receiver → ℕ → ℕ → Outcome → Receiver → Type 0
AsShortStep r s short time = AsStep s (number_found r (greatest_by s) short) time

-- ---- short numbers fed to a fresh receiver for K

-- the state after the short numbers
unfoldable pub short_state_after : (r k : ℕ) → List Arrival → Receiver
short_state_after r k fed = foldl (λ (s : Receiver) (a : Arrival). (short_step r s a.number a.time).state) (fresh_of k).state fed

-- the outcome for one short number, after those fed before it
unfoldable pub short_outcome_after : (r k : ℕ) → List Arrival → Arrival → Outcome
short_outcome_after r k earlier a = (short_step r (short_state_after r k earlier) a.number a.time).outcome

-- the outcome for each short number
unfoldable pub short_outcomes : (r k : ℕ) → List Arrival → List Outcome
short_outcomes r k fed = each (short_outcome_after r k) fed

-- an arrival with the number found, where g is the greatest
abbrev pub with_found : (r g : ℕ) → Arrival → Arrival
with_found r g a = record { number = number_found r g a.number; time = a.time }

-- the greatest number of the account of arrivals fed, 0 for none
abbrev pub greatest_accepted : ℕ → List Arrival → ℕ
greatest_accepted k fed = greatest_of (numbers_of (account_of k fed))

-- the arrivals with the numbers found, each from the greatest number accepted before it; they do not depend on a receiver's state
abbrev pub arrivals_found : (r k : ℕ) → List Arrival → List Arrival
arrivals_found r k shorts = in_turn (greatest_accepted k) (with_found r) [] shorts

-- demand 3 for the numbers found: feeding the short numbers has the same results as feeding the numbers found
pub record Demand3Reads (r k : ℕ) (shorts : List Arrival) : Type 0 where
  pub outcomes : short_outcomes r k shorts ≡ receiver_outcomes k (arrivals_found r k shorts)
  pub state : short_state_after r k shorts ≡ state_after k (arrivals_found r k shorts)
  pub demand3 : Demand3 k (arrivals_found r k shorts)

-- ---- true numbers

-- an arrival with its short number
abbrev pub shortened : ℕ → Arrival → Arrival
shortened r a = record { number = short_of r a.number; time = a.time }

-- true numbers that each keep the distance from the greatest true one accepted before them are the numbers found
abbrev pub TrueByReceiver : (r k : ℕ) → Type 0
TrueByReceiver r k =
    (l : List Arrival) → EachKeeps (greatest_accepted k) (λ (g : ℕ) (a : Arrival). Near r g a.number) l
    → arrivals_found r k (map (shortened r) l) ≡ l

-- all theorems for one width
pub record StepsOfWidth (w : ℕ) : Type 0 where
  pub exact : ExactNumber (range_of w)
  pub finds : (k : ℕ) → 1 ≤ k → k ≤ sent_most → TrueByReceiver (range_of w) k
  pub demand3 : (k : ℕ) → 1 ≤ k → k ≤ sent_most → (shorts : List Arrival) → Demand3Reads (range_of w) k shorts

-- all theorems for every width
abbrev pub EveryStep : Type 0
EveryStep = (w : ℕ) → 1 ≤ w → StepsOfWidth w
