-- Demand 3: a fresh receiver for K, 1 to 4,096, that is fed any list of arrivals answers each as the account does.
-- Assumes nothing.
use Rattle.std.specs.Prelude.{ℕ, ◌+◌, ◌<◌, ◌≡◌, true, false, eqb, length}
use mathlib.Core.List.{List, ◌∷◌, ◌++◌, foldl}
use Rattle.rfc4737.specs.declared.Arrival.{Arrival}
use Rattle.rfc4737.specs.declared.ReorderedFigures.{ReorderedFigures}
use Rattle.rfc4737.specs.declared.Answer.TheVariants as answer
use Rattle.rfc4737.specs.declared.Counts.{Counts}
use Rattle.rfc4737.specs.Arrivals.{each, count}
use Rattle.rfc4737.specs.Order.{FirstArrival}
use Rattle.rfc4737.specs.Runs.{counts}
use Rattle.rfc4737.specs.Refusals.{state_unfit}
use Rattle.receiver.specs.declared.Receiver.{Receiver}
use Rattle.receiver.specs.declared.StepAnswer.{StepAnswer}
use Rattle.receiver.specs.declared.ReceiverAnswer.{ReceiverAnswer}
use Rattle.receiver.specs.declared.Outcome.{Outcome}
use Rattle.receiver.specs.declared.ReceiverAnswer.TheVariants.{Exact, Beyond}
use Rattle.receiver.specs.Step.{fresh_of, step_of}
use Rattle.receiver.specs.Account.{account_refusal, account_of, answer_in, answers_in, window_in, in_window, true_figures, beyond_figures, account_outcomes}

-- the step with an arrival
abbrev pub fed_to : Receiver → Arrival → StepAnswer
fed_to r a = step_of r a.number a.time

-- the state of a fresh receiver for K after the arrivals fed
unfoldable pub state_after : ℕ → List Arrival → Receiver
state_after k fed = foldl (λ (r : Receiver) (a : Arrival). (fed_to r a).state) (fresh_of k).state fed

-- what the receiver says of an arrival, after those fed before it
unfoldable pub outcome_after : ℕ → List Arrival → Arrival → Outcome
outcome_after k earlier a = (fed_to (state_after k earlier) a).outcome

-- what the receiver says of each arrival fed
unfoldable pub receiver_outcomes : ℕ → List Arrival → List Outcome
receiver_outcomes k fed = each (outcome_after k) fed

-- how a reordered packet a is answered over a window and an account: so it is noted, and d has its true figures
pub record Answered (kept : List FirstArrival) (account : List Arrival) (a : Arrival) (d : ReorderedFigures)
    (noted : ReceiverAnswer) : Type 0 where
  -- its discontinuity is in the window: exact, with the true figures
  pub exact : in_window kept account a.number ≡ true → noted ≡ Exact (true_figures d)
  -- its discontinuity is not in the window: beyond it,
  pub beyond : in_window kept account a.number ≡ false → noted ≡ Beyond (beyond_figures kept account a)
  -- with the true extent above the figure. The late time is the one from the arrival of the window's oldest jump, with its direction. The
  -- bound on it, that the true late time is not below it, is dropped: clocks may step back, so a dropped jump may be stamped up to 1,000
  -- later than the oldest kept one
  pub above : in_window kept account a.number ≡ false → (beyond_figures kept account a).extent < d.extent

-- the counts of the account
abbrev pub counts_in : ℕ → List Arrival → Counts
counts_in k fed = counts (answers_in (account_of k fed))

-- the claim, of K and the list fed
pub record Demand3 (k : ℕ) (fed : List Arrival) : Type 0 where
  -- the refusals and answers are the account's
  pub outcomes : receiver_outcomes k fed ≡ account_outcomes k fed
  -- refusal 10 never occurs
  pub fit : count (λ (s : Outcome). eqb s.refusal state_unfit) (receiver_outcomes k fed) ≡ 0
  -- every accepted arrival that is a reordered packet over the account is answered so
  pub reordered : (earlier : List Arrival) (a : Arrival) (later : List Arrival)
      → fed ≡ earlier ++ (a ∷ later)
      → account_refusal k (account_of k earlier) a ≡ 0
      → (d : ReorderedFigures)
      → answer_in (account_of k earlier) a ≡ answer.Reordered d
      → Answered (window_in (account_of k earlier)) (account_of k earlier) a d (outcome_after k earlier a).noted
  -- after the list L, duplicates, in-order count, and open run, closed runs and squares are the account's
  pub arrived : (state_after k fed).stream.arrived ≡ (counts_in k fed).arrived
  pub duplicates : (state_after k fed).stream.duplicates ≡ (counts_in k fed).duplicates
  pub inorder : (state_after k fed).stream.inorder ≡ (counts_in k fed).inorder
  pub runs : (state_after k fed).stream.runs ≡ (counts_in k fed).runs
  -- duplicates, in-order and reordered packets are together the accepted arrivals
  pub sum : (state_after k fed).stream.duplicates + (state_after k fed).stream.inorder + (counts_in k fed).reordered ≡ length (account_of k fed)
