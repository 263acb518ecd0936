-- The window cases: K = 130, every size 100, even numbers from 2 on, then one late packet; record r arrives at 10 times r. Each case has
-- the outcome for the late packet, by the receiver and over the account, and its answer over the account, with the true figures. Assumes
-- nothing.
use Rattle.std.specs.Prelude.{ℕ, zero, suc, ◌+◌, ◌*◌, ◌≡◌, List, [], ◌∷◌, map}
use Rattle.rfc4737.specs.declared.Arrival.{Arrival}
use Rattle.rfc4737.specs.declared.Answer.{Answer}
use Rattle.rfc4737.specs.declared.Answer.TheVariants as answer
use Rattle.rfc4737.specs.declared.LateTime.TheVariants.{After}
use Rattle.rfc4737.specs.Answer.{answer_to}
use Rattle.receiver.specs.declared.ReceiverAnswer.{ReceiverAnswer}
use Rattle.receiver.specs.declared.ReceiverAnswer.TheVariants.{Exact, Beyond}
use Rattle.receiver.specs.declared.Outcome.{Outcome}
use Rattle.receiver.specs.Outcomes.{accepted_outcome}
use Rattle.receiver.specs.Account.{account_of, account_outcome}
use Rattle.receiver.specs.Demand3.{outcome_after}

-- record r of a packet
abbrev pub record_of_packet : ℕ → ℕ → Arrival
record_of_packet r number = record { number = number; time = 10 * r }

-- the first n even numbers, from record r on
unfoldable pub evens_from : ℕ → ℕ → List Arrival
evens_from r zero = []
evens_from r (suc n) = record_of_packet r (2 * r) ∷ evens_from (r + 1) n

-- a case: how many even numbers arrive, which packet is late, and the expected results
pub record WindowCase : Type 0 where
  pub evens : ℕ
  pub late : ℕ
  pub noted : ReceiverAnswer
  pub truth : Answer

-- the outcome for the late packet, and its answer
pub record WindowOutcome : Type 0 where
  pub receiver : Outcome
  pub account : Outcome
  pub answer : Answer

-- the results of a case
unfoldable pub computed : WindowCase → WindowOutcome
computed c =
    let earlier = evens_from 1 c.evens in
    let a = record_of_packet (c.evens + 1) c.late in
    record {
      receiver = outcome_after 130 earlier a;
      account = account_outcome 130 earlier a;
      answer = answer_to (λ (number : ℕ). 100) (account_of 130 earlier) a;
    }

-- its expected results
unfoldable pub outcome_due : WindowCase → WindowOutcome
outcome_due c =
    record {
      receiver = accepted_outcome c.noted;
      account = accepted_outcome c.noted;
      answer = c.truth;
    }

-- 2, 4, .. 128, then 1: exact extent 64
unfoldable pub case1 : WindowCase
case1 =
    record {
      evens = 64;
      late = 1;
      noted = Exact (record { extent = 64; late = After 640 });
      truth = answer.Reordered (record { position = 65; extent = 64; late = After 640; offset = 6400; largest = 64 });
    }

-- 2, 4, .. 130, then 1: beyond the window, 64, where the true extent is 65
unfoldable pub case2 : WindowCase
case2 =
    record {
      evens = 65;
      late = 1;
      noted = Beyond (record { extent = 64; late = After 640 });
      truth = answer.Reordered (record { position = 66; extent = 65; late = After 650; offset = 6500; largest = 65 });
    }

-- 2, 4, .. 130, then 3: exact extent 64
unfoldable pub case3 : WindowCase
case3 =
    record {
      evens = 65;
      late = 3;
      noted = Exact (record { extent = 64; late = After 640 });
      truth = answer.Reordered (record { position = 66; extent = 64; late = After 640; offset = 6400; largest = 64 });
    }

-- the table
unfoldable pub window_cases : List WindowCase
window_cases = case1 ∷ case2 ∷ case3 ∷ []

-- every case has its expected results
abbrev pub WindowCasesHold : Type 0
WindowCasesHold = map computed window_cases ≡ map outcome_due window_cases
