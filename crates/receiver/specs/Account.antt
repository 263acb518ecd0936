-- The account, a term of the scope: the list of accepted arrivals, made from K and the arrivals fed and from nothing that a
-- receiver holds. It says how each arrival is to be answered. Assumes nothing.
use Rattle.std.specs.Prelude.{ℕ, ◌+◌, ◌-◌, Bool, false, cond, ◌||◌, eqb, length, drop}
use mathlib.Core.List.{List, [], ◌∷◌, ◌++◌, foldl, head?}
use Rattle.std.proofs.Math.Option.{Option, none, some}
use Rattle.rfc4737.specs.declared.Arrival.{Arrival}
use Rattle.rfc4737.specs.declared.ReorderedFigures.{ReorderedFigures}
use Rattle.rfc4737.specs.declared.Answer.{Answer}
use Rattle.rfc4737.specs.declared.Answer.TheVariants as answer
use Rattle.rfc4737.specs.Arrivals.{has, firsts, each}
use Rattle.rfc4737.specs.Order.{FirstArrival, jump_after, jumps}
use Rattle.rfc4737.specs.Extent.{discontinuity}
use Rattle.rfc4737.specs.Answer.{answer_to, answers}
use Rattle.rfc4737.specs.Times.{greatest_time}
use Rattle.rfc4737.specs.Refusals.{refusal_if, first_refusal, state_full}
use Rattle.rfc4737.specs.Judge.{arrivals_most, judge_one}
use Rattle.receiver.specs.declared.Lateness.{Lateness}
use Rattle.receiver.specs.declared.ReceiverAnswer.{ReceiverAnswer}
use Rattle.receiver.specs.declared.ReceiverAnswer.TheVariants.{Duplicate, InOrder, Exact, Beyond}
use Rattle.receiver.specs.declared.Outcome.{Outcome}
use Rattle.receiver.specs.Limits.{window_places}
use Rattle.receiver.specs.Outcomes.{refused_outcome, accepted_outcome, lateness_from}

-- the refusal of an arrival, 0 for none: 11 if the account has 4,096; else 6 in its case; else 7 in its case, judged against
-- the greatest time of the account, 0 at first
unfoldable pub account_refusal : ℕ → List Arrival → Arrival → ℕ
account_refusal k account a =
    first_refusal (refusal_if (eqb (length account) arrivals_most) state_full ∷ judge_one k (greatest_time account) a ∷ [])

-- the account after an arrival: a refused one leaves it, any other is added
unfoldable pub account_with : ℕ → List Arrival → Arrival → List Arrival
account_with k account a = cond (eqb (account_refusal k account a) 0) (account ++ (a ∷ [])) account

-- the account of the arrivals fed, empty at first
unfoldable pub account_of : ℕ → List Arrival → List Arrival
account_of k fed = foldl (account_with k) [] fed

-- the jump that an arrival makes, if it is accepted and makes one
unfoldable pub jump_in : ℕ → List Arrival → Arrival → List FirstArrival
jump_in k account a =
    cond (eqb (account_refusal k account a) 0) (cond (has a.number account) [] (jump_after (firsts account) a)) []

-- the answer of "What is measured" over the account; sizes play no part in the receiver's fields
unfoldable pub answer_in : List Arrival → Arrival → Answer
answer_in account a = answer_to (λ _. 0) account a

-- the answers of the account's arrivals
unfoldable pub answers_in : List Arrival → List Answer
answers_in account = answers (λ _. 0) account

-- the window, a term of the scope: the account's last 64 jumps, or all if fewer
unfoldable pub window_in : List Arrival → List FirstArrival
window_in account = let js = jumps (firsts account) in drop (length js - window_places) js

-- whether one of some jumps is at a position
unfoldable pub stands_in : ℕ → List FirstArrival → Bool
stands_in p [] = false
stands_in p (q ∷ qs) = eqb q.position p || stands_in p qs

-- whether a discontinuity is one of some jumps
unfoldable pub is_in : Option FirstArrival → List FirstArrival → Bool
is_in none qs = false
is_in (some d) qs = stands_in d.position qs

-- whether the discontinuity of a packet is in a window
unfoldable pub in_window : List FirstArrival → List Arrival → ℕ → Bool
in_window kept account s = is_in (discontinuity (firsts account) s) kept

-- the true extent and late time of a reordered packet
abbrev pub true_figures : ReorderedFigures → Lateness
true_figures d = record { extent = d.extent; late = d.late }

-- the figures beyond a window: L, this arrival counted, less the position of the window's oldest jump, and the time from
-- that jump's arrival to this one, after or before it
unfoldable pub beyond_figures : List FirstArrival → List Arrival → Arrival → Lateness
beyond_figures kept account a = lateness_from (length (firsts account) + 1) a.time (head? kept)

-- an answer in the receiver's forms and with their fields only. A reordered packet is exact exactly if its discontinuity is
-- in the window, which is given; otherwise it is beyond it
unfoldable pub in_form : List FirstArrival → List Arrival → Arrival → Answer → ReceiverAnswer
in_form kept account a (answer.Duplicate d) = Duplicate
in_form kept account a (answer.InOrder d) = InOrder d.jump
in_form kept account a (answer.Reordered d) =
    cond (in_window kept account a.number) (Exact (true_figures d)) (Beyond (beyond_figures kept account a))

-- what the account says of an arrival over a window; with a refusal, "in order" with 0
unfoldable pub outcome_in : List FirstArrival → ℕ → List Arrival → Arrival → Outcome
outcome_in kept k account a =
    cond (eqb (account_refusal k account a) 0) (accepted_outcome (in_form kept account a (answer_in account a)))
    (refused_outcome (account_refusal k account a))

-- what the account says of an arrival, after those fed before it
abbrev pub account_outcome : ℕ → List Arrival → Arrival → Outcome
account_outcome k earlier a =
    let account = account_of k earlier in
    outcome_in (window_in account) k account a

-- what the account says of each arrival fed
unfoldable pub account_outcomes : ℕ → List Arrival → List Outcome
account_outcomes k fed = each (account_outcome k) fed
