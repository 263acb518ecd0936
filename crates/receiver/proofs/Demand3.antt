-- Demand 3 holds. By one induction over the list fed the state is that of the account (`state-after`): fresh it is that of the empty
-- account, and a step goes on by `step-agrees`, the jumps being split into the last 64 and those before (`step_of`). So each arrival is
-- answered as the account says (`outcome-after`), and the counts of the state are the account's. The account refuses by 11, 6 or 7 and
-- never says 10 (`outcome-fit`). A reordered packet in the window has its true figures by the account's own rule; beyond it the
-- discontinuity lies before the oldest kept jump, and so the true extent is above the figure (`late-above`).
-- Here k is K, a the arrival, ds and ws are the dropped and the kept jumps, d are the true figures of a, and t, u and v outcomes of tests.
-- Assumes nothing.
use Prim.Native.Nat.{ℕ, ◌+◌, ◌-◌, ◌≤◌, ◌<◌}
use mathlib.Core.Path.{◌≡◌, refl, sym, ap, subst, ◌∙◌}
use mathlib.Core.Bool.{Bool, true, false, cond, true≢false}
use mathlib.Core.List.{List, [], ◌∷◌, ◌++◌, append-nil, foldl, flatten, head?}
use mathlib.Core.Option.{some}
use native.Mathlib.Omega.{arith}
use lib.Dec.{eqb, ltb, leb}
use lib.ListN.{length, length-drop}
use borrow.Author.Tests.{ltb-true, ltb-false, leb-true, leb-false}
use Rattle.rfc4737.specs.declared.Arrival.{Arrival}
use Rattle.rfc4737.specs.declared.ReorderedFigures.{ReorderedFigures}
use Rattle.rfc4737.specs.declared.Answer.{Answer}
use Rattle.rfc4737.specs.declared.Answer.TheVariants as answer
use Rattle.rfc4737.specs.Arrivals.{has, firsts, each, each_after, count}
use Rattle.rfc4737.specs.Order.{FirstArrival, next_exp, jumps}
use Rattle.rfc4737.specs.Extent.{discontinuity, extent_from}
use Rattle.rfc4737.specs.Times.{too_early, greatest_time}
use Rattle.rfc4737.specs.Answer.{reordered_answer, in_order_answer}
use Rattle.rfc4737.specs.Runs.{counts, arrived, is_duplicate, is_in_order_answer}
use Rattle.rfc4737.specs.Refusals.{outside, refusal_if, first_refusal, number_outside, time_back, state_unfit, state_full}
use Rattle.rfc4737.specs.Judge.{sent_most, arrivals_most, judge_one}
use Rattle.rfc4737.proofs.Lists.{snoc-ind, each_same}
use Rattle.rfc4737.proofs.Arrivals.{fold_more, count-each}
use Rattle.rfc4737.proofs.Due.{between, not-outside}
use Rattle.rfc4737.proofs.Folds.{answer-duplicate, answer-first, first-in-order, in-order-or-reordered}
use Rattle.receiver.specs.declared.Receiver.{Receiver}
use Rattle.receiver.specs.declared.Outcome.{Outcome}
use Rattle.receiver.specs.declared.StepAnswer.{StepAnswer}
use Rattle.receiver.specs.Limits.{window_places}
use Rattle.receiver.specs.Outcomes.{refused_outcome, accepted_outcome, lateness_from}
use Rattle.receiver.specs.Kept.{Held, with_jump}
use Rattle.receiver.specs.Step.{fresh_stream, made_for, fresh_of}
use Rattle.receiver.specs.Account.{account_refusal, account_with, account_of, jump_in, answer_in, answers_in, window_in, in_window, beyond_figures, in_form, outcome_in, account_outcome, account_outcomes}
use Rattle.receiver.specs.Demand3.{fed_to, state_after, outcome_after, receiver_outcomes, Answered, Demand3}
use Rattle.receiver.proofs.Window.{last_number}
use Rattle.receiver.proofs.Accepted.{AccountLimits, accepted-arrival, account-limits}
use Rattle.receiver.proofs.ReorderedInWindow.{dropped_in, Split, split-window, WindowSearch, search-late}
use Rattle.receiver.proofs.State.{state_with, state-fresh}
use Rattle.receiver.proofs.Fitness.{arrived-in, accepted-count}
use Rattle.receiver.proofs.Agrees.{answer-late, search-window, jump-cases, jumps-with, step-agrees}
use Rattle.receiver.proofs.HeldJumps.{held_from, held_more, Holds, held-last}

-- no refusal over the account is 10
refusal-fit : (k : ℕ) (account : List Arrival) (a : Arrival) → eqb (account_refusal k account a) state_unfit ≡ false
unfolding account_refusal judge_one
refusal-fit k account a = go (eqb (length account) arrivals_most) (outside 1 k a.number) (too_early (greatest_time account) a.time)
  where
    go : (t u v : Bool)
        → eqb (first_refusal (refusal_if t state_full ∷ first_refusal (refusal_if u number_outside ∷ refusal_if v time_back ∷ []) ∷ []))
        state_unfit ≡ false
    go true u v = refl
    go false true v = refl
    go false false true = refl
    go false false false = refl

-- the account never says 10
pub outcome-fit : (ws : List FirstArrival) (k : ℕ) (account : List Arrival) (a : Arrival)
    → eqb (outcome_in ws k account a).refusal state_unfit ≡ false
unfolding outcome_in
outcome-fit ws k account a = go (eqb (account_refusal k account a) 0)
  where
    go : (t : Bool)
        → eqb
        (cond {A = Outcome} t (accepted_outcome (in_form ws account a (answer_in account a)))
        (refused_outcome (account_refusal k account a))).refusal
        state_unfit
        ≡ false
    go true = refl
    go false = refusal-fit k account a

-- the account's outcome for an arrival that is added
outcome-added : (ws : List FirstArrival) (k : ℕ) (account : List Arrival) (a : Arrival) → account_refusal k account a ≡ 0
    → (outcome_in ws k account a).noted ≡ in_form ws account a (answer_in account a)
unfolding outcome_in
outcome-added ws k account a e = rw e

-- ---- a reordered packet over the account

-- the figures of a reordered packet's answer, else those given
abbrev figures_of : ReorderedFigures → Answer → ReorderedFigures
figures_of d (answer.Duplicate f) = d
figures_of d (answer.InOrder f) = d
figures_of d (answer.Reordered f) = f

module _ (account : List Arrival) (a : Arrival) (d : ReorderedFigures) (q : answer_in account a ≡ answer.Reordered d) where
  -- it has not arrived before
  late-new : has a.number account ≡ false
  unfolding answer_in
  late-new = go (has a.number account) refl
    where
      go : (t : Bool) → has a.number account ≡ t → has a.number account ≡ false
      go true e = let w = answer-duplicate (λ _. 0) account a e in let z : ◌≡◌ {A = ℕ} 0 1 = cc in absurd (omega arith)
      go false e = e

  -- and is below NextExp
  late-low : a.number < next_exp (firsts account)
  unfolding answer_in in_order_answer
  late-low = go (leb (next_exp (firsts account)) a.number) refl
    where
      go : (t : Bool) → leb (next_exp (firsts account)) a.number ≡ t → a.number < next_exp (firsts account)
      go true e =
          let w = answer-first (λ _. 0) account a late-new ∙ first-in-order (λ _. 0) (firsts account) a (leb-true _ _ e) in
          let z : ◌≡◌ {A = ℕ} 0 1 = cc in
          absurd (omega arith)
      go false e = leb-false _ _ e

  -- its extent is that from its discontinuity p
  late-extent : (p : FirstArrival) → discontinuity (firsts account) a.number ≡ some p
      → d.extent ≡ length (firsts account) + 1 - p.position
  unfolding reordered_answer extent_from
  late-extent p e =
      let w = rw e at (sym q ∙ answer-late account a late-new late-low) in
      ap (λ (f : ReorderedFigures). f.extent) (ap (figures_of d) w)

  -- beyond the window its true extent is above the figure
  late-above : (ds ws : List FirstArrival) → Split account ds ws → 1 ≤ a.number → in_window ws account a.number ≡ false
      → (beyond_figures ws account a).extent < d.extent
  unfolding beyond_figures lateness_from extent_from
  late-above ds ws sp low w = go (ltb a.number (last_number ds)) refl
    where
      search : WindowSearch account ds ws a.number
      search = search-late account ds ws sp a.number low late-new late-low

      go : (t : Bool) → ltb a.number (last_number ds) ≡ t → (beyond_figures ws account a).extent < d.extent
      go true t =
          let k = search.dropped (ltb-true _ _ t) in
          let f = late-extent search.at search.is in
          let x : (beyond_figures ws account a).extent ≡ length (firsts account) + 1 - search.oldest.position =
          ap (λ (ws : List FirstArrival). extent_from (length (firsts account) + 1) (head? ws)) search.window in
          let i : search.at.position < search.oldest.position = k.position in
          let m : search.oldest.position ≤ length (firsts account) = search.high in
          omega arith
      go false t =
          let k = search.kept (ltb-false _ _ t) in
          absurd (true≢false (sym k.among ∙ sym (search-window account ds ws a search) ∙ w))

-- how a reordered packet that is added is answered, over any split of the jumps
pub late-answered : (k : ℕ) (account : List Arrival) (ds ws : List FirstArrival) → Split account ds ws
    → (a : Arrival) → account_refusal k account a ≡ 0 → (d : ReorderedFigures) → answer_in account a ≡ answer.Reordered d
    → Answered ws account a d (outcome_in ws k account a).noted
unfolding in_form
late-answered k account ds ws sp a e d q =
    let noted : (outcome_in ws k account a).noted ≡ in_form ws account a (answer.Reordered d) =
    outcome-added ws k account a e ∙ ap (in_form ws account a) q in
    let n = accepted-arrival k account a e in
    record {
      exact = λ w. rw w at noted;
      beyond = λ w. rw w at noted;
      above = λ w. late-above account a d q ds ws sp n.numbered.low w;
    }

-- ---- the receiver's own rule

-- the state of the jumps of an account
abbrev held_in : List Arrival → Held
held_in account = held_from (jumps (firsts account))

-- and of the account itself
unfoldable state_of : ℕ → List Arrival → Receiver
state_of k account = state_with k account (held_in account)

-- the window is kept
holds-window : (account : List Arrival) → Holds (dropped_in account) (window_in account) (held_in account)
unfolding dropped_in window_in
holds-window account = held-last (jumps (firsts account))

-- which has at most 64 jumps
window-few : (account : List Arrival) → length (window_in account) ≤ window_places
unfolding window_in
window-few account = simp length-drop (omega arith)

-- the state of the jumps after the next arrival
held_with : (k : ℕ) (account : List Arrival) (a : Arrival)
    → foldl (with_jump (ltb (held_in account).kept window_places)) (held_in account) (jump_in k account a) ≡ held_in (account_with k account a)
held_with k account a =
    jump-cases (λ (l : List FirstArrival). foldl (with_jump (ltb (held_in account).kept window_places)) (held_in account) l
    ≡ held_from (jumps (firsts account) ++ l))
    (rw append-nil) (λ p. sym (held_more (jumps (firsts account)) p)) k account a
    ∙ sym (ap held_from (jumps-with k account a))

module _ (k : ℕ) (low : 1 ≤ k) (high : k ≤ sent_most) where
  -- the step from the state of an account
  step_of : (account : List Arrival) (a : Arrival) → AccountLimits k account
      → fed_to (state_of k account) a
      ≡ record { outcome = outcome_in (window_in account) k account a; state = state_of k (account_with k account a) }
  unfolding state_of state_with
  step_of account a h =
      step-agrees k low high account a h (dropped_in account) (window_in account) (split-window account)
      (held_in account) (holds-window account) (window-few account) (ltb (held_in account).kept window_places)
      ∙ ap (λ (h : Held). record { outcome = outcome_in (window_in account) k account a; state = state_with k (account_with k account a) h })
      (held_with k account a)

  -- fresh, it is made for K
  fresh-state : (fresh_of k).state ≡ state_of k []
  unfolding fresh_of state_of held_from firsts jumps flatten each each_after
  fresh-state = rw (not-outside 1 sent_most k low high) (state-fresh k)

  -- after any list the state is that of the account
  state-after : (fed : List Arrival) → state_after k fed ≡ state_of k (account_of k fed)
  unfolding state_after account_of
  state-after = snoc-ind (λ (fed : List Arrival). state_after k fed ≡ state_of k (account_of k fed)) more fresh-state
    where
      more : (fed : List Arrival) (a : Arrival) → state_after k fed ≡ state_of k (account_of k fed)
          → state_after k (fed ++ (a ∷ [])) ≡ state_of k (account_of k (fed ++ (a ∷ [])))
      more fed a e =
          fold_more _ _ fed a
          ∙ ap (λ (r : Receiver). (fed_to r a).state) e
          ∙ ap (λ (s : StepAnswer). s.state) (step_of (account_of k fed) a (account-limits k fed))
          ∙ ap (state_of k) (sym (fold_more (account_with k) [] fed a))

  -- so NextExp is the account's
  pub next-after : (fed : List Arrival) → (state_after k fed).stream.next ≡ next_exp (firsts (account_of k fed))
  unfolding state_of state_with
  next-after fed = ap (λ (r : Receiver). r.stream.next) (state-after fed)

  -- and each arrival is answered as the account says
  outcome-after : (earlier : List Arrival) (a : Arrival) → outcome_after k earlier a ≡ account_outcome k earlier a
  unfolding outcome_after
  outcome-after earlier a =
      ap (λ (r : Receiver). (fed_to r a).outcome) (state-after earlier)
      ∙ ap (λ (s : StepAnswer). s.outcome) (step_of (account_of k earlier) a (account-limits k earlier))

  pub demand3 : (fed : List Arrival) → Demand3 k fed
  unfolding receiver_outcomes account_outcomes state_of state_with counts
  demand3 fed =
      let account = account_of k fed in
      let s = state-after fed in
      let arrived-eq : (state_after k fed).stream.arrived ≡ arrived (answers_in account) =
      ap (λ (r : Receiver). r.stream.arrived) s ∙ sym (arrived-in account) in
      let duplicates-eq : (state_after k fed).stream.duplicates ≡ count is_duplicate (answers_in account) =
      ap (λ (r : Receiver). r.stream.duplicates) s in
      let inorder-eq : (state_after k fed).stream.inorder ≡ count is_in_order_answer (answers_in account) =
      ap (λ (r : Receiver). r.stream.inorder) s in
      let reordered-eq = in-order-or-reordered (answers_in account) in
      let accepted-eq = accepted-count account in
      let first-eq = arrived-in account in
      record {
        outcomes = each_same (outcome_after k) (account_outcome k) outcome-after fed;
        fit =
            count-each (λ (s : Outcome). eqb s.refusal state_unfit) (outcome_after k)
            (λ earlier a. rw outcome-after (outcome-fit (window_in (account_of k earlier)) k (account_of k earlier) a)) fed;
        reordered = λ earlier a later split e d q.
            subst (Answered (window_in (account_of k earlier)) (account_of k earlier) a d)
            (ap (λ (s : Outcome). s.noted) (sym (outcome-after earlier a)))
            (late-answered k (account_of k earlier) (dropped_in (account_of k earlier)) (window_in (account_of k earlier))
            (split-window (account_of k earlier)) a e d q);
        arrived = arrived-eq;
        duplicates = duplicates-eq;
        inorder = inorder-eq;
        runs = ap (λ (r : Receiver). r.stream.runs) s;
        sum = omega arith;
      }

-- as `fresh` carries it, for the receiver that it returns, which is always made for 1 to 4,096 packets
pub demand3-fresh : (k : ℕ) (fed : List Arrival) → Demand3 (fresh_of k).state.stream.sent fed
unfolding fresh_of made_for fresh_stream
demand3-fresh k = go (outside 1 sent_most k) refl
  where
    go : (t : Bool) → outside 1 sent_most k ≡ t → (fed : List Arrival) → Demand3 (cond t 1 k) fed
    go true e = demand3 1 (omega arith) (omega arith)
    go false e = let h = between 1 sent_most k e in demand3 k h.0 h.1
