-- The receiver's step with a short number. In a state whose NextExp is over 4,097 any number is refused alike, since it is unfit; in any
-- other the number is found from NextExp less 1 (`step-found`). NextExp less 1 is the greatest number accepted (`next-greatest`), by
-- induction on the next arrival: a copy is at most the greatest (`has-most`), and a first arrival makes NextExp one above the greater of
-- both (`after-max`). A run of short numbers is a run of the numbers found: from equal states, after short numbers `done` and full ones
-- `before`, the next short number is found from that state, and the states stay equal (`state-next`), so by induction on the list all that
-- is said is the same (`outcomes-from`, `state-from`). True numbers that keep their distance are found by `turn-true` of InTurn. Here r is
-- the range, k is K, s a state or a packet, g the greatest number, a an arrival, fs are the first arrivals, and t is a time or the outcome
-- of a test. Assumes nothing.
use Prim.Native.Nat.{ℕ, ◌+◌, ◌≤◌, ◌<◌, max}
use native.Mathlib.Omega.{arith}
use mathlib.Core.Bool.{Bool, true, false, cond, ◌||◌}
use mathlib.Core.Path.{◌≡◌, refl, sym, ap, ap₂, ◌∙◌}
use mathlib.Core.List.{List, [], ◌∷◌, ◌++◌, foldl, append-nil, append_assoc, map-append}
use borrow.Author.Tests.{ltb-true, ltb-false, leb-true, leb-false, eqb-true}
use lib.Dec.{leb, ltb, eqb}
use Rattle.rfc4737.specs.declared.Arrival.{Arrival}
use Rattle.rfc4737.specs.Arrivals.{has, with_arrival, firsts, each, each_after}
use Rattle.rfc4737.specs.Judge.{sent_most, numbers_of}
use Rattle.rfc4737.specs.Order.{next_after, next_exp}
use Rattle.rfc4737.specs.Refusals.{state_unfit}
use Rattle.rfc4737.proofs.Lists.{snoc-ind}
use Rattle.rfc4737.proofs.Arrivals.{fold_more, has_more, firsts_more, has-firsts, with-duplicate, with_first}
use Rattle.rfc4737.proofs.Folds.{next_more}
use Rattle.receiver.specs.declared.Receiver.{Receiver}
use Rattle.receiver.specs.declared.Outcome.{Outcome}
use Rattle.receiver.specs.declared.StepAnswer.{StepAnswer}
use Rattle.receiver.specs.Fit.{fit}
use Rattle.receiver.specs.Outcomes.{refused_outcome}
use Rattle.receiver.specs.Step.{step_refusal, outcome_of, step_with, step_of}
use Rattle.receiver.specs.Account.{account_of}
use Rattle.receiver.specs.Demand3.{state_after, outcome_after, receiver_outcomes}
use Rattle.receiver.proofs.Fits.{stream-false}
use Rattle.receiver.proofs.StepCases.{as_step}
use Rattle.receiver.proofs.Demand3.{next-after, demand3}
use Rattle.shortnumbers.specs.Number.{range_of, short_of, Near, number_found}
use Rattle.shortnumbers.specs.InTurn.{greatest_of, in_turn}
use Rattle.shortnumbers.specs.Steps.{greatest_by, short_step, AsShortStep, short_state_after, short_outcome_after, short_outcomes, with_found, arrivals_found, Demand3Reads, shortened, greatest_accepted, TrueByReceiver, EveryStep}
use Rattle.shortnumbers.proofs.Numbers.{Even, even-width, only, exact}
use Rattle.shortnumbers.proofs.InTurn.{turn-true}

-- ---- a state whose NextExp no fit state has

unfit : (s : Receiver) → sent_most + 1 < s.stream.next → fit s ≡ false
unfolding fit
unfit s h = rw (sym (stream-false s.stream (λ f. omega (arith, f.next-high, f.sent-high))))

unfit-step : (s : Receiver) (n t : ℕ) → fit s ≡ false → step_of s n t ≡ record { outcome = refused_outcome state_unfit; state = s }
unfolding step_with outcome_of step_refusal
unfit-step s n t e = rw e

-- any number is refused alike
same-unfit : (s : Receiver) (m n t : ℕ) → sent_most + 1 < s.stream.next → step_of s m t ≡ step_of s n t
same-unfit s m n t h = unfit-step s m t (unfit s h) ∙ sym (unfit-step s n t (unfit s h))

-- the step with the number found from g, which is NextExp less 1 in a fit state
pub step-found : (r : ℕ) (s : Receiver) (short time g n : ℕ) → (s.stream.next ≤ sent_most + 1 → g ≡ greatest_by s)
    → n ≡ number_found r g short
    → step_of s n time ≡ short_step r s short time
unfolding short_step
step-found r s short time g n e f = go (ltb (sent_most + 1) s.stream.next) refl
  where
    go : (t : Bool) → ltb (sent_most + 1) s.stream.next ≡ t → step_of s n time ≡ step_of s (number_found r (greatest_by s) short) time
    go true q = same-unfit s n (number_found r (greatest_by s) short) time (ltb-true (sent_most + 1) s.stream.next q)
    go false q =
        ap (λ (m : ℕ). step_of s m time) (f ∙ ap (λ (x : ℕ). number_found r x short) (e (ltb-false (sent_most + 1) s.stream.next q)))

-- ---- NextExp less 1 is the greatest number

greatest-more : (l : List Arrival) (a : Arrival) → greatest_of (numbers_of (l ++ (a ∷ []))) ≡ max (greatest_of (numbers_of l)) a.number
unfolding greatest_of
greatest-more l a = ap (foldl max 0) (map-append (λ (b : Arrival). b.number) l (a ∷ [])) ∙ fold_more max 0 (numbers_of l) a.number

-- a packet that has arrived is at most the greatest
has-most : (s : ℕ) (l : List Arrival) → has s l ≡ true → s ≤ greatest_of (numbers_of l)
unfolding has
has-most s =
    snoc-ind (λ (l : List Arrival). has s l ≡ true → s ≤ greatest_of (numbers_of l)) more
    (λ e. absurd (let z : ◌≡◌ {A = ℕ} 0 1 = cc in omega arith))
  where
    go : (g n : ℕ) (t u : Bool) → (t || u) ≡ true → (t ≡ true → s ≤ g) → (u ≡ true → n ≡ s) → s ≤ max g n
    go g n true u e h k = omega (arith, h refl)
    go g n false u e h k = omega (arith, k e)

    more : (l : List Arrival) (a : Arrival) → (has s l ≡ true → s ≤ greatest_of (numbers_of l)) → has s (l ++ (a ∷ [])) ≡ true
        → s ≤ greatest_of (numbers_of (l ++ (a ∷ [])))
    more l a h e =
        rw (greatest-more l a)
        (go (greatest_of (numbers_of l)) a.number (has s l) (eqb a.number s) (sym (has_more s l a) ∙ e) h
        (λ q. eqb-true a.number s q))

-- NextExp after a number
after-max : (g s : ℕ) → next_after (g + 1) s ≡ max g s + 1
unfolding next_after
after-max g s = go (leb (g + 1) s) refl
  where
    go : (t : Bool) → leb (g + 1) s ≡ t → cond t (s + 1) (g + 1) ≡ max g s + 1
    go true e = omega (arith, leb-true (g + 1) s e)
    go false e = omega (arith, leb-false (g + 1) s e)

next-greatest : (l : List Arrival) → next_exp (firsts l) ≡ greatest_of (numbers_of l) + 1
unfolding firsts greatest_of next_exp
next-greatest = snoc-ind (λ (l : List Arrival). next_exp (firsts l) ≡ greatest_of (numbers_of l) + 1) more refl
  where
    go : (fs : List Arrival) (a : Arrival) (g : ℕ) → next_exp fs ≡ g + 1 → (t : Bool) → has a.number fs ≡ t → (t ≡ true → a.number ≤ g)
        → next_exp (with_arrival fs a) ≡ max g a.number + 1
    go fs a g e true q h = let m = h refl in ap next_exp (with-duplicate fs a q) ∙ e ∙ omega arith
    go fs a g e false q h =
        ap next_exp (with_first fs a q) ∙ next_more fs a ∙ ap (λ (x : ℕ). next_after x a.number) e ∙ after-max g a.number

    more : (l : List Arrival) (a : Arrival) → next_exp (firsts l) ≡ greatest_of (numbers_of l) + 1
        → next_exp (firsts (l ++ (a ∷ []))) ≡ greatest_of (numbers_of (l ++ (a ∷ []))) + 1
    more l a e =
        ap next_exp (firsts_more l a)
        ∙ go (firsts l) a (greatest_of (numbers_of l)) e (has a.number (firsts l)) refl
        (λ q. has-most a.number l (sym (has-firsts a.number l) ∙ q))
        ∙ ap (λ (n : ℕ). n + 1) (sym (greatest-more l a))

-- ---- a run

module _ (r k : ℕ) (low : 1 ≤ k) (high : k ≤ sent_most) where
  -- NextExp less 1 is the greatest accepted
  greatest-same : (fed : List Arrival) → greatest_by (state_after k fed) ≡ greatest_accepted k fed
  greatest-same fed =
      let e : (state_after k fed).stream.next ≡ greatest_accepted k fed + 1 = next-after k low high fed ∙ next-greatest (account_of k fed) in
      omega arith

  -- after `done` by short numbers the state is that after `before`; so it is after one more
  abbrev next : List Arrival → Arrival → Arrival
  next before a = with_found r (greatest_accepted k before) a

  -- the step with a short number is the step with the number found
  step_same : (done before : List Arrival) (a : Arrival) → short_state_after r k done ≡ state_after k before
      → short_step r (short_state_after r k done) a.number a.time ≡ step_of (state_after k before) (next before a).number a.time
  unfolding short_step
  step_same done before a e =
      ap (λ (s : Receiver). step_of s (number_found r (greatest_by s) a.number) a.time) e
      ∙ ap (λ (g : ℕ). step_of (state_after k before) (number_found r g a.number) a.time) (greatest-same before)

  state-next : (done before : List Arrival) (a : Arrival) → short_state_after r k done ≡ state_after k before
      → short_state_after r k (done ++ (a ∷ [])) ≡ state_after k (before ++ (next before a ∷ []))
  unfolding short_state_after state_after
  state-next done before a e =
      fold_more _ _ done a
      ∙ ap (λ (s : StepAnswer). s.state) (step_same done before a e)
      ∙ sym (fold_more _ _ before (next before a))

  -- the outcomes from there on
  outcomes-from : (done before shorts : List Arrival) → short_state_after r k done ≡ state_after k before
      → each_after (short_outcome_after r k) done shorts ≡ each_after (outcome_after k) before
      (in_turn (greatest_accepted k) (with_found r) before shorts)
  unfolding each_after in_turn short_outcome_after outcome_after
  outcomes-from done before [] e = refl
  outcomes-from done before (a ∷ l) e =
      ap₂ (λ (o : Outcome) (os : List Outcome). o ∷ os)
      (ap (λ (s : StepAnswer). s.outcome) (step_same done before a e))
      (outcomes-from (done ++ (a ∷ [])) (before ++ (next before a ∷ [])) l (state-next done before a e))

  -- and the state at the end
  state-from : (done before shorts : List Arrival) → short_state_after r k done ≡ state_after k before
      → short_state_after r k (done ++ shorts) ≡ state_after k (before ++ in_turn (greatest_accepted k) (with_found r) before shorts)
  unfolding in_turn
  state-from done before [] e = ap (short_state_after r k) (append-nil done) ∙ e ∙ ap (state_after k) (sym (append-nil before))
  state-from done before (a ∷ l) e =
      let n : Arrival = next before a in
      ap (short_state_after r k) (sym (append_assoc done (a ∷ []) l))
      ∙ state-from (done ++ (a ∷ [])) (before ++ (n ∷ [])) l (state-next done before a e)
      ∙ ap (state_after k) (append_assoc before (n ∷ []) (in_turn (greatest_accepted k) (with_found r) (before ++ (n ∷ [])) l))

  demand3-reads : (shorts : List Arrival) → Demand3Reads r k shorts
  unfolding short_outcomes receiver_outcomes each short_state_after state_after
  demand3-reads shorts =
      record {
        outcomes = outcomes-from [] [] shorts refl;
        state = state-from [] [] shorts refl;
        demand3 = demand3 k low high (arrivals_found r k shorts);
      }

-- an arrival that keeps its distance is found from its short number
pub found-again : (r : ℕ) → Even r → (g : ℕ) (a : Arrival) → Near r g a.number → with_found r g (shortened r a) ≡ a
found-again r range g a near =
    ap (λ (n : ℕ). record { number = n; time = a.time })
    (sym (only r range g (short_of r a.number) a.number (record { bits = refl; near = near })))

receiver-true : (r k : ℕ) → Even r → TrueByReceiver r k
receiver-true r k range l keeps =
    turn-true (greatest_accepted k) (with_found r) (shortened r) (λ (g : ℕ) (a : Arrival). Near r g a.number) (found-again r range) l keeps

pub every-step : EveryStep
every-step w h =
    record {
      exact = exact (range_of w) (even-width w h);
      finds = λ k low high. receiver-true (range_of w) k (even-width w h);
      demand3 = λ k low high shorts. demand3-reads (range_of w) k low high shorts;
    }
