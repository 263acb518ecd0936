-- The step from the state of an account has the account's outcome, and leads to the state of the account after the arrival
-- (`step-agrees`), for any split of its jumps into dropped and kept ones. The state is fit and counts all arrivals of the account, so the
-- refusals agree (`refusal-agrees`); the marks say which packets have arrived (`mark-agrees`). An arrival that is not refused is a
-- duplicate, in order or reordered, by the same tests on both sides. The number of a reordered packet is below the dropped one exactly if
-- its discontinuity is not among the kept jumps (`late-agrees`, by `search-late`). The state after it is compared field by field
-- (`stream-path`, `state-path`): each number is a count or fold that takes one step by its own law, and the state of the jumps changes if
-- the arrival is a jump (`held-in-order`, `no_jump`).
-- Here k is K, a the arrival, ds and ws are the dropped and the kept jumps, h is the state of the jumps, room says whether there is room
-- for one more, d is a discontinuity, and t, u and v are outcomes of tests. Assumes nothing.
use Prim.Native.Nat.{ℕ, ◌+◌, ◌-◌, ◌≤◌, ◌<◌}
use mathlib.Core.Path.{◌≡◌, refl, sym, ap, ◌∙◌}
use mathlib.Core.Bool.{Bool, true, false, not, cond}
use mathlib.Core.List.{List, [], ◌∷◌, ◌++◌, append-nil, foldl}
use mathlib.Core.Option.{Option, some}
use native.Mathlib.Omega.{arith}
use lib.Dec.{eqb, leb, ltb}
use lib.ListN.{length, length-append}
use borrow.Author.Tests.{leb-true, leb-false, ltb-true, ltb-false, eqb-true, le-leb, lt-leb}
use Rattle.rfc4737.specs.declared.Arrival.{Arrival}
use Rattle.rfc4737.specs.declared.Answer.{Answer}
use Rattle.rfc4737.specs.declared.Answer.TheVariants as answer
use Rattle.rfc4737.specs.Arrivals.{has, firsts, first_record, count}
use Rattle.rfc4737.specs.Order.{FirstArrival, next_after, next_exp, jump_size, is_in_order, is_jump, place_after, jump_after, jumps}
use Rattle.rfc4737.specs.Extent.{first_above, discontinuity}
use Rattle.rfc4737.specs.Answer.{in_order_answer, reordered_answer}
use Rattle.rfc4737.specs.Runs.{is_duplicate, is_in_order_answer, runs_after, runs}
use Rattle.rfc4737.specs.Judge.{sent_most}
use Rattle.rfc4737.proofs.Lists.{all-weaken}
use Rattle.rfc4737.proofs.Arrivals.{count-more, has-firsts, firsts-duplicate, firsts-first}
use Rattle.rfc4737.proofs.Folds.{next_more, answers-more, runs-more, answer-duplicate, answer-first, first-in-order, first-reordered}
use Rattle.rfc4737.proofs.Jumps.{jumps-more}
use Rattle.rfc4737.proofs.Packets.{OfPackets, all_firsts}
use Rattle.rfc4737.proofs.Times.{greatest-more}
use Rattle.receiver.specs.declared.Stream.{Stream}
use Rattle.receiver.specs.declared.Receiver.{Receiver}
use Rattle.receiver.specs.declared.ReceiverAnswer.{ReceiverAnswer}
use Rattle.receiver.specs.declared.ReceiverAnswer.TheVariants.{Duplicate, Exact, Beyond}
use Rattle.receiver.specs.declared.Outcome.{Outcome}
use Rattle.receiver.specs.Limits.{window_places}
use Rattle.receiver.specs.Marks.{mark_at, with_mark}
use Rattle.receiver.specs.Outcomes.{accepted_outcome, lateness_from}
use Rattle.receiver.specs.Kept.{Held, with_jump, held_after}
use Rattle.receiver.specs.Step.{step_refusal, reordered_outcome, first_outcome, unrefused_outcome, outcome_of, duplicate_stream, in_order_stream, reordered_stream, in_order_state, reordered_state, noted_state, step_with}
use Rattle.receiver.specs.Account.{stands_in, account_refusal, account_with, jump_in, answer_in, answers_in, is_in, in_window, beyond_figures, in_form, outcome_in}
use Rattle.receiver.proofs.Window.{last_number}
use Rattle.receiver.proofs.HeldJumps.{Holds}
use Rattle.receiver.proofs.Marks.{marks_of, marks-more, marked-is-arrived}
use Rattle.receiver.proofs.Accepted.{AcceptedArrival, accepted-arrival, AccountLimits}
use Rattle.receiver.proofs.ReorderedInWindow.{Split, WindowSearch, search-late}
use Rattle.receiver.proofs.State.{state_with}
use Rattle.receiver.proofs.Fitness.{accepted-count, state-fit}

-- ---- the next arrival, over the account

module _ (account : List Arrival) (a : Arrival) where
  answers_in-more : answers_in (account ++ (a ∷ [])) ≡ answers_in account ++ (answer_in account a ∷ [])
  unfolding answers_in answer_in
  answers_in-more = answers-more (λ _. 0) account a

  count_in-more : (p : Answer → Bool)
      → count p (answers_in (account ++ (a ∷ []))) ≡ cond (p (answer_in account a)) (count p (answers_in account) + 1)
      (count p (answers_in account))
  count_in-more p = rw answers_in-more (count-more p (answers_in account) (answer_in account a))

  runs_in-more : runs (answers_in (account ++ (a ∷ []))) ≡ runs_after (runs (answers_in account)) (answer_in account a)
  runs_in-more = rw answers_in-more (runs-more (answers_in account) (answer_in account a))

  -- L, NextExp and the marks after a first arrival
  length-first : has a.number account ≡ false → length (firsts account) + 1 ≡ length (firsts (account ++ (a ∷ [])))
  length-first e = sym (ap length (firsts-first account a e) ∙ length-append (firsts account) (a ∷ []))

  next-first : has a.number account ≡ false → next_after (next_exp (firsts account)) a.number ≡ next_exp (firsts (account ++ (a ∷ [])))
  next-first e = sym (ap next_exp (firsts-first account a e) ∙ next_more (firsts account) a)

  marks-first : has a.number account ≡ false → with_mark (marks_of (firsts account)) a.number ≡ marks_of (firsts (account ++ (a ∷ [])))
  marks-first e = sym (ap marks_of (firsts-first account a e) ∙ marks-more (firsts account) a)

-- ---- the jumps after the next arrival

-- an in-order arrival is a jump if its jump size is not 0
jump-in-order : (fs : List Arrival) (a : Arrival) → next_exp fs ≤ a.number
    → jump_after fs a ≡ cond (not (eqb (a.number - next_exp fs) 0)) (place_after fs a ∷ []) []
unfolding jump_after is_jump is_in_order jump_size
jump-in-order fs a h = rw (le-leb _ _ h)

-- the state of the jumps after an in-order arrival
held-in-order : (room : Bool) (h : Held) (fs : List Arrival) (a : Arrival) → next_exp fs ≤ a.number
    → held_after room h (a.number - next_exp fs) (place_after fs a) ≡ foldl (with_jump room) h (jump_after fs a)
unfolding held_after
held-in-order room h fs a g = rw (jump-in-order fs a g) (go (eqb (a.number - next_exp fs) 0))
  where
    go : (t : Bool) → cond t h (with_jump room h (place_after fs a)) ≡ foldl (with_jump room) h (cond (not t) (place_after fs a ∷ []) [])
    go true = refl
    go false = refl

-- a reordered arrival is no jump
no_jump : (fs : List Arrival) (a : Arrival) → a.number < next_exp fs → jump_after fs a ≡ []
unfolding jump_after is_jump is_in_order
no_jump fs a h = rw (lt-leb _ _ h)

-- either there is no new jump, or one
pub jump-cases : (P : List FirstArrival → Type 0) → P [] → ((p : FirstArrival) → P (p ∷ []))
    → (k : ℕ) (account : List Arrival) (a : Arrival) → P (jump_in k account a)
unfolding jump_in jump_after
jump-cases P none one k account a = go (eqb (account_refusal k account a) 0) (has a.number account) (is_jump (firsts account) a.number)
  where
    go : (t u v : Bool) → P (cond t (cond u [] (cond v (place_after (firsts account) a ∷ []) [])) [])
    go false u v = none
    go true true v = none
    go true false false = none
    go true false true = one (place_after (firsts account) a)

-- the account's jumps after the next arrival
pub jumps-with : (k : ℕ) (account : List Arrival) (a : Arrival)
    → jumps (firsts (account_with k account a)) ≡ jumps (firsts account) ++ jump_in k account a
unfolding jump_in account_with
jumps-with k account a = go (eqb (account_refusal k account a) 0) (has a.number account) refl
  where
    go : (t u : Bool) → has a.number account ≡ u
        → jumps (firsts (cond t (account ++ (a ∷ [])) account)) ≡ jumps (firsts account)
        ++ cond t (cond u [] (jump_after (firsts account) a)) []
    go false u e = sym (append-nil _)
    go true true e = ap jumps (firsts-duplicate account a e) ∙ sym (append-nil _)
    go true false e = ap jumps (firsts-first account a e) ∙ jumps-more (firsts account) a

-- ---- the outcome

-- a reordered packet in the receiver's forms, exact or not, d being its discontinuity
late_form : List FirstArrival → List Arrival → Arrival → Bool → Option FirstArrival → ReceiverAnswer
late_form ws account a t d =
    cond t (Exact (lateness_from (length (firsts account) + 1) a.time d))
    (Beyond (beyond_figures ws account a))

-- the answer of a reordered packet
pub answer-late : (account : List Arrival) (a : Arrival) → has a.number account ≡ false → a.number < next_exp (firsts account)
    → answer_in account a ≡ reordered_answer (λ _. 0) (firsts account) a (discontinuity (firsts account) a.number)
unfolding answer_in
answer-late account a e h = answer-first (λ _. 0) account a e ∙ first-reordered (λ _. 0) (firsts account) a h

-- the answer of an in-order packet
answer-in-order : (account : List Arrival) (a : Arrival) → has a.number account ≡ false → next_exp (firsts account) ≤ a.number
    → answer_in account a ≡ in_order_answer (firsts account) a
unfolding answer_in
answer-in-order account a e h = answer-first (λ _. 0) account a e ∙ first-in-order (λ _. 0) (firsts account) a h

-- the answer of a duplicate
answer-again : (account : List Arrival) (a : Arrival) → has a.number account ≡ true
    → answer_in account a ≡ answer.Duplicate (record { first = first_record a.number account })
unfolding answer_in
answer-again account a e = answer-duplicate (λ _. 0) account a e

-- the form of a reordered packet over the account
form-late : (ws : List FirstArrival) (account : List Arrival) (a : Arrival) (d : Option FirstArrival)
    → in_form ws account a (reordered_answer (λ _. 0) (firsts account) a d) ≡ late_form ws account a (in_window ws account a.number) d
unfolding in_form reordered_answer lateness_from late_form
form-late ws account a d = refl

-- whether the discontinuity is in the window, by its position
pub search-window : (account : List Arrival) (ds ws : List FirstArrival) (a : Arrival) (s : WindowSearch account ds ws a.number)
    → in_window ws account a.number ≡ stands_in s.at.position ws
unfolding in_window is_in
search-window account ds ws a s = rw s.is

-- the outcome of a reordered packet by the rule, over a stream that has the account's L and the last dropped number
module _ (k : ℕ) (account : List Arrival) (a : Arrival) (ds ws : List FirstArrival) (sp : Split account ds ws)
    (s : Stream) (first : s.arrived ≡ length (firsts account)) (last : s.dropped ≡ last_number ds) where
  -- exact or not, d being the oldest kept jump of a greater number
  said-late : (d : FirstArrival) (t : Bool) → ltb a.number (last_number ds) ≡ not t
      → reordered_outcome s ws a (some d) ≡ accepted_outcome (late_form ws account a t (some d))
  unfolding reordered_outcome late_form lateness_from beyond_figures
  said-late d true e = rw (first, last, e)
  said-late d false e = rw (first, last, e)

  -- it is the account's outcome
  late-agrees : OfPackets k a → has a.number account ≡ false → a.number < next_exp (firsts account)
      → reordered_outcome s ws a (first_above a.number ws)
      ≡ accepted_outcome (in_form ws account a (answer_in account a))
  unfolding late_form
  late-agrees n e g = go (ltb a.number (last_number ds)) refl
    where
      search : WindowSearch account ds ws a.number
      search = search-late account ds ws sp a.number n.low e g

      formed : in_form ws account a (answer_in account a) ≡ late_form ws account a (in_window ws account a.number)
          (discontinuity (firsts account) a.number)
      formed = ap (in_form ws account a) (answer-late account a e g) ∙ form-late ws account a (discontinuity (firsts account) a.number)

      said : (d : FirstArrival) (t : Bool) → ltb a.number (last_number ds) ≡ not t → first_above a.number ws ≡ some d
          → late_form ws account a t (some d) ≡ in_form ws account a (answer_in account a)
          → reordered_outcome s ws a (first_above a.number ws)
          ≡ accepted_outcome (in_form ws account a (answer_in account a))
      said d t l f q =
          ap (reordered_outcome s ws a) f
          ∙ said-late d t l ∙ ap accepted_outcome q

      go : (t : Bool) → ltb a.number (last_number ds) ≡ t
          → reordered_outcome s ws a (first_above a.number ws)
          ≡ accepted_outcome (in_form ws account a (answer_in account a))
      go true t =
          let d = search.dropped (ltb-true _ _ t) in
          said search.oldest false t d.oldest (sym (rw (search-window account ds ws a search, d.apart) at formed))
      go false t =
          let d = search.kept (ltb-false _ _ t) in
          said search.at true t d.is (sym (rw (search-window account ds ws a search, d.among, search.is) at formed))

-- ---- the state after it

-- streams are equal by their numbers
stream-path : (r s : Stream)
    → r.sent ≡ s.sent
    → r.arrived ≡ s.arrived
    → r.duplicates ≡ s.duplicates
    → r.inorder ≡ s.inorder
    → r.next ≡ s.next
    → r.greatest ≡ s.greatest
    → r.runs ≡ s.runs
    → r.kept ≡ s.kept
    → r.dropped ≡ s.dropped
    → r ≡ s
stream-path r s e1 e2 e3 e4 e5 e6 e7 e8 e9 =
    λ i. record {
      sent = e1 i;
      arrived = e2 i;
      duplicates = e3 i;
      inorder = e4 i;
      next = e5 i;
      kept = e8 i;
      greatest = e6 i;
      runs = e7 i;
      dropped = e9 i;
    }

-- states are equal by their parts
state-path : (r s : Receiver) → r.stream ≡ s.stream → r.marks ≡ s.marks → r.places ≡ s.places → r ≡ s
state-path r s e m p = λ i. record { stream = e i; marks = m i; places = p i }

module _ (room : Bool) (h : Held) (k : ℕ) (account : List Arrival) (a : Arrival) where
  -- after a duplicate
  duplicate-state : has a.number account ≡ true
      → noted_state room (state_with k account h) a.number a.time Duplicate ≡ state_with k (account ++ (a ∷ [])) h
  unfolding noted_state duplicate_stream state_with runs_after
  duplicate-state e =
      let ans = answer-again account a e in
      let fs = sym (firsts-duplicate account a e) in
      state-path _ _
      (stream-path _ _ refl (ap length fs)
      (sym (rw ans at (count_in-more account a is_duplicate)))
      (sym (rw ans at (count_in-more account a is_in_order_answer)))
      (ap next_exp fs)
      (sym (greatest-more account a))
      (sym (rw ans at (runs_in-more account a)))
      refl refl)
      (ap marks_of fs) refl

  -- after an in-order arrival
  in-order-state : has a.number account ≡ false → next_exp (firsts account) ≤ a.number
      → in_order_state room (state_with k account h) (a.number - next_exp (firsts account)) a.number a.time
      ≡ state_with k (account ++ (a ∷ [])) (foldl (with_jump room) h (jump_after (firsts account) a))
  unfolding in_order_state in_order_stream state_with in_order_answer runs_after
  in-order-state e g =
      let ans = answer-in-order account a e g in
      let held = held-in-order room h (firsts account) a g in
      state-path _ _
      (stream-path _ _ refl
      (length-first account a e)
      (sym (rw ans at (count_in-more account a is_duplicate)))
      (sym (rw ans at (count_in-more account a is_in_order_answer)))
      (next-first account a e)
      (sym (greatest-more account a))
      (sym (rw ans at (runs_in-more account a)))
      (ap (λ (h : Held). h.kept) held)
      (ap (λ (h : Held). h.dropped) held))
      (marks-first account a e)
      (ap (λ (h : Held). h.places) held)

  -- after a reordered packet
  late-state : has a.number account ≡ false → a.number < next_exp (firsts account)
      → reordered_state (state_with k account h) a.number a.time ≡ state_with k (account ++ (a ∷ [])) h
  unfolding reordered_stream state_with reordered_answer runs_after
  late-state e g =
      let ans = answer-late account a e g in
      state-path _ _
      (stream-path _ _ refl
      (length-first account a e)
      (sym (rw ans at (count_in-more account a is_duplicate)))
      (sym (rw ans at (count_in-more account a is_in_order_answer)))
      (next-first account a e)
      (sym (greatest-more account a))
      (sym (rw ans at (runs_in-more account a)))
      refl refl)
      (marks-first account a e) refl

-- ---- any arrival

module _ (k : ℕ) (low : 1 ≤ k) (high : k ≤ sent_most) (account : List Arrival) (a : Arrival) (sound : AccountLimits k account)
    (ds ws : List FirstArrival) (sp : Split account ds ws) (h : Held) (o : Holds ds ws h) (few : length ws ≤ window_places) (room : Bool)
  where
    refusal-agrees : step_refusal (state_with k account h) a.number a.time ≡ account_refusal k account a
    unfolding step_refusal account_refusal state_with
    refusal-agrees = rw (state-fit k low high account sound ds ws sp h o few, accepted-count)

    -- a packet is marked exactly if it is among the arrivals of the account
    mark-agrees : OfPackets k a → mark_at (marks_of (firsts account)) a.number ≡ has a.number account
    mark-agrees n =
        marked-is-arrived (firsts account)
        (all_firsts _ account (all-weaken (λ (b : Arrival) (w : OfPackets k b). record { low = w.low; high = omega arith }) account
        sound.numbered)) a.number n.low
        ∙ has-firsts a.number account

    -- the state before, and the case that the account notes of an arrival that is added
    abbrev before : Receiver
    before = state_with k account h

    abbrev noted : ReceiverAnswer
    noted = in_form ws account a (answer_in account a)

    -- an arrival that is not refused is noted so
    looked-agrees : AcceptedArrival k account a → unrefused_outcome before a.number a.time ≡ accepted_outcome noted
    unfolding unrefused_outcome first_outcome state_with in_form in_order_answer jump_size
    looked-agrees n = go (has a.number account) refl
      where
        looked : Bool → Outcome
        looked t = cond t (accepted_outcome Duplicate) (first_outcome before a.number a.time)

        order : (t : Bool) → leb (next_exp (firsts account)) a.number ≡ t → has a.number account ≡ false
            → first_outcome before a.number a.time ≡ accepted_outcome noted
        order true t e =
            rw t (sym (ap (λ (b : Answer). accepted_outcome (in_form ws account a b)) (answer-in-order account a e (leb-true _ _ t))))
        order false t e =
            rw (t, o.kept) (late-agrees k account a ds ws sp before.stream refl o.dropped n.numbered e (leb-false _ _ t))

        go : (t : Bool) → has a.number account ≡ t → unrefused_outcome before a.number a.time ≡ accepted_outcome noted
        go true e =
            ap looked (mark-agrees n.numbered ∙ e) ∙ sym (ap (λ (b : Answer). accepted_outcome (in_form ws account a b))
            (answer-again account a e))
        go false e = ap looked (mark-agrees n.numbered ∙ e) ∙ order (leb (next_exp (firsts account)) a.number) refl e

    -- both cases of a reordered packet make one state
    late-noted : (t : Bool) (d : Option FirstArrival) → noted_state room before a.number a.time (late_form ws account a t d)
        ≡ reordered_state before a.number a.time
    unfolding noted_state late_form
    late-noted true d = refl
    late-noted false d = refl

    -- the state after an answer
    abbrev after : Answer → Receiver
    after b = noted_state room before a.number a.time (in_form ws account a b)

    -- of a first arrival
    first-agrees : has a.number account ≡ false
        → after (answer_in account a) ≡ state_with k (account ++ (a ∷ [])) (foldl (with_jump room) h (jump_after (firsts account) a))
    unfolding noted_state in_form in_order_answer jump_size
    first-agrees e = order (leb (next_exp (firsts account)) a.number) refl
      where
        order : (t : Bool) → leb (next_exp (firsts account)) a.number ≡ t
            → after (answer_in account a) ≡ state_with k (account ++ (a ∷ [])) (foldl (with_jump room) h (jump_after (firsts account) a))
        order true t = ap after (answer-in-order account a e (leb-true _ _ t)) ∙ in-order-state room h k account a e (leb-true _ _ t)
        order false t =
            ap after (answer-late account a e (leb-false _ _ t))
            ∙ ap (noted_state room before a.number a.time) (form-late ws account a (discontinuity (firsts account) a.number))
            ∙ late-noted (in_window ws account a.number) (discontinuity (firsts account) a.number)
            ∙ late-state room h k account a e (leb-false _ _ t)
            ∙ ap (λ (js : List FirstArrival). state_with k (account ++ (a ∷ [])) (foldl (with_jump room) h js))
            (sym (no_jump (firsts account) a (leb-false _ _ t)))

    -- of any arrival
    noted-agrees : after (answer_in account a)
        ≡ state_with k (account ++ (a ∷ [])) (foldl (with_jump room) h (cond (has a.number account) [] (jump_after (firsts account) a)))
    unfolding in_form
    noted-agrees = go (has a.number account) refl
      where
        go : (t : Bool) → has a.number account ≡ t → after (answer_in account a)
            ≡ state_with k (account ++ (a ∷ [])) (foldl (with_jump room) h (cond t [] (jump_after (firsts account) a)))
        go true e = ap after (answer-again account a e) ∙ duplicate-state room h k account a e
        go false e = first-agrees e

    -- the outcome of the step is the account's
    outcome-agrees : outcome_of before a.number a.time ≡ outcome_in ws k account a
    unfolding outcome_of outcome_in
    outcome-agrees = go (eqb (account_refusal k account a) 0) refl
      where
        go : (t : Bool) → eqb (account_refusal k account a) 0 ≡ t → outcome_of before a.number a.time ≡ outcome_in ws k account a
        go true t = rw (refusal-agrees, t) (looked-agrees (accepted-arrival k account a (eqb-true _ _ t)))
        go false t = rw (refusal-agrees, t)

    -- the state after that outcome
    state-agrees : cond (eqb (outcome_in ws k account a).refusal 0)
        (noted_state room before a.number a.time (outcome_in ws k account a).noted) before
        ≡ state_with k (account_with k account a) (foldl (with_jump room) h (jump_in k account a))
    unfolding outcome_in account_with jump_in
    state-agrees = go (eqb (account_refusal k account a) 0) refl
      where
        go : (t : Bool) → eqb (account_refusal k account a) 0 ≡ t
            → cond (eqb (outcome_in ws k account a).refusal 0)
            (noted_state room before a.number a.time (outcome_in ws k account a).noted) before
            ≡ state_with k (account_with k account a) (foldl (with_jump room) h (jump_in k account a))
        go true t = rw t noted-agrees
        go false t = simp t

    pub step-agrees : step_with room before a.number a.time
        ≡ record {
          outcome = outcome_in ws k account a;
          state = state_with k (account_with k account a) (foldl (with_jump room) h (jump_in k account a));
        }
    unfolding step_with
    step-agrees =
        ap (λ (o : Outcome). record {
          outcome = o;
          state = cond (eqb o.refusal 0) (noted_state room before a.number a.time o.noted) before;
        }) outcome-agrees
        ∙ ap (λ (s : Receiver). record { outcome = outcome_in ws k account a; state = s }) state-agrees
