-- Moving the clock: over the account of arrivals that are moved by c everything is moved by c, so that each is answered as before. The
-- same arrivals are refused, since one is too early against the greatest time exactly if it was (`refusal-moved`); so the account is the
-- moved one (`account-moved`), and the window too (`window-moved`). Positions stay, so the same discontinuities are in it
-- (`inside-moved`), and the figures beyond it are the same (`beyond-moved`). A receiver answers so too, since by demand 3 it answers as
-- the account, before and after (`moved-answers`).
-- Here k is K, kept a window, a an arrival, b an answer or the outcome of a test. Assumes nothing.
use Prim.Native.Nat.{ℕ, ◌+◌, ◌-◌}
use mathlib.Core.Path.{◌≡◌, refl, sym, ap, ◌∙◌}
use mathlib.Core.Bool.{Bool, true, false, cond, ◌||◌}
use mathlib.Core.List.{List, [], ◌∷◌, ◌++◌, map, map-append, head?}
use mathlib.Core.Option
use mathlib.Core.Option.{Option, none, some}
use lib.Dec.{eqb}
use lib.ListN.{length, drop, length-map}
use Rattle.rfc4737.specs.declared.Arrival.{Arrival}
use Rattle.rfc4737.specs.declared.Answer.{Answer}
use Rattle.rfc4737.specs.declared.Answer.TheVariants as answer
use Rattle.rfc4737.specs.Arrivals.{firsts}
use Rattle.rfc4737.specs.Order.{FirstArrival, jumps}
use Rattle.rfc4737.specs.Extent.{discontinuity}
use Rattle.rfc4737.specs.Moved.{moved_one, moved}
use Rattle.rfc4737.specs.Judge.{judge_one}
use Rattle.rfc4737.proofs.Lists.{fold-map, drop-map, each_map}
use Rattle.rfc4737.proofs.Moved.{early-greatest, firsts-moved, moved_place, jumps-moved, discontinuity-moved, extent-moved, late-moved, answer-moved}
use Rattle.receiver.specs.Limits.{window_places}
use Rattle.receiver.specs.Outcomes.{lateness_from}
use Rattle.receiver.specs.Step.{fresh_of}
use Rattle.receiver.specs.Account.{account_refusal, account_with, account_of, answer_in, window_in, stands_in, is_in, in_window, beyond_figures, in_form, outcome_in, account_outcome, account_outcomes}
use Rattle.receiver.specs.Moved.{MovedAnswers}
use Rattle.receiver.proofs.Demand3.{demand3-fresh}

module _ (c : ℕ) where
  -- ---- the account

  module _ (k : ℕ) where
    -- the refusal of an arrival
    refusal-moved : (account : List Arrival) (a : Arrival) → account_refusal k (moved c account) (moved_one c a) ≡ account_refusal k account a
    unfolding account_refusal judge_one
    refusal-moved account a = rw (length-map account (moved_one c), early-greatest c account a.time)

    -- after an arrival
    with-moved : (account : List Arrival) (a : Arrival) → account_with k (moved c account) (moved_one c a) ≡ moved c (account_with k account a)
    unfolding account_with
    with-moved account a = rw (refusal-moved account a) (go (eqb (account_refusal k account a) 0))
      where
        go : (b : Bool) → cond b (moved c account ++ (moved_one c a ∷ [])) (moved c account) ≡ moved c (cond b (account ++ (a ∷ [])) account)
        go true = sym (map-append (moved_one c) account (a ∷ []))
        go false = refl

    -- of the arrivals fed
    account-moved : (fed : List Arrival) → account_of k (moved c fed) ≡ moved c (account_of k fed)
    unfolding account_of
    account-moved fed = fold-map (moved_one c) (moved c) (account_with k) with-moved [] fed

  -- ---- the window

  abbrev moved_places : List FirstArrival → List FirstArrival
  moved_places ps = map (moved_place c) ps

  -- the jumps of an account
  jumps_in : (account : List Arrival) → jumps (firsts (moved c account)) ≡ moved_places (jumps (firsts account))
  jumps_in account = ap jumps (firsts-moved c account) ∙ jumps-moved c (firsts account)

  -- the last of them
  window-moved : (account : List Arrival) → window_in (moved c account) ≡ moved_places (window_in account)
  unfolding window_in
  window-moved account =
      let js = jumps (firsts account) in
      ap (λ (js : List FirstArrival). drop (length js - window_places) js) (jumps_in account)
      ∙ ap (λ (n : ℕ). drop (n - window_places) (moved_places js)) (length-map js (moved_place c))
      ∙ drop-map (moved_place c) (length js - window_places) js

  -- whether one stands at a position
  stands-moved : (p : ℕ) (qs : List FirstArrival) → stands_in p (moved_places qs) ≡ stands_in p qs
  unfolding stands_in
  stands-moved p [] = refl
  stands-moved p (q ∷ qs) = ap (λ (b : Bool). eqb q.position p || b) (stands-moved p qs)

  -- whether a discontinuity is one of them
  in_moved : (d : Option FirstArrival) (qs : List FirstArrival) → is_in (Option.map (moved_place c) d) (moved_places qs) ≡ is_in d qs
  unfolding is_in
  in_moved none qs = refl
  in_moved (some d) qs = stands-moved d.position qs

  -- the oldest
  head-moved : (qs : List FirstArrival) → head? (moved_places qs) ≡ Option.map (moved_place c) (head? qs)
  head-moved [] = refl
  head-moved (q ∷ qs) = refl

  -- ---- what the account says

  module _ (kept : List FirstArrival) (account : List Arrival) (a : Arrival) where
    -- whether the discontinuity is in the window
    inside-moved : in_window (moved_places kept) (moved c account) a.number ≡ in_window kept account a.number
    unfolding in_window
    inside-moved =
        ap (λ (fs : List Arrival). is_in (discontinuity fs a.number) (moved_places kept)) (firsts-moved c account)
        ∙ ap (λ (d : Option FirstArrival). is_in d (moved_places kept)) (discontinuity-moved c (firsts account) a.number)
        ∙ in_moved (discontinuity (firsts account) a.number) kept

    -- the figures beyond the window
    beyond-moved : beyond_figures (moved_places kept) (moved c account) (moved_one c a) ≡ beyond_figures kept account a
    unfolding beyond_figures lateness_from
    beyond-moved =
        rw (
          firsts-moved c account,
          length-map (firsts account) (moved_one c),
          head-moved kept,
          extent-moved c (length (firsts account) + 1) (head? kept),
          late-moved c a.time (head? kept),
        )

    -- an answer in the receiver's forms
    form-moved : (b : Answer) → in_form (moved_places kept) (moved c account) (moved_one c a) b ≡ in_form kept account a b
    unfolding in_form
    form-moved (answer.Duplicate d) = refl
    form-moved (answer.InOrder d) = refl
    form-moved (answer.Reordered d) = rw (inside-moved, beyond-moved)

    -- of an arrival
    outcome-moved : (k : ℕ) → outcome_in (moved_places kept) k (moved c account) (moved_one c a) ≡ outcome_in kept k account a
    unfolding outcome_in answer_in
    outcome-moved k =
        rw (refusal-moved k account a, answer-moved c (λ _. 0) account a, form-moved (answer_in account a))

  -- of each arrival fed
  outcomes-moved : (k : ℕ) (fed : List Arrival) → account_outcomes k (moved c fed) ≡ account_outcomes k fed
  unfolding account_outcomes
  outcomes-moved k fed = each_map (moved_one c) (account_outcome k) (account_outcome k) same fed
    where
      same : (earlier : List Arrival) (a : Arrival) → account_outcome k (moved c earlier) (moved_one c a) ≡ account_outcome k earlier a
      same earlier a =
          ap (λ (account : List Arrival). outcome_in (window_in account) k account (moved_one c a)) (account-moved k earlier)
          ∙ ap (λ (kept : List FirstArrival). outcome_in kept k (moved c (account_of k earlier)) (moved_one c a))
          (window-moved (account_of k earlier))
          ∙ outcome-moved (window_in (account_of k earlier)) (account_of k earlier) a k

-- as `fresh` carries it: of the receiver that it hands back
pub moved-answers : (k : ℕ) → MovedAnswers (fresh_of k).state.stream.sent
moved-answers k c fed =
    (demand3-fresh k (moved c fed)).outcomes ∙ outcomes-moved c (fresh_of k).state.stream.sent fed ∙ sym (demand3-fresh k fed).outcomes
