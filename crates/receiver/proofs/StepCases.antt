-- The outcome of an arrival, case by case, and the step that it makes: in each case the tests of the definition are known, so that it
-- computes. If no refusal applies, the state is fit and the number is from 1 to K (`accepted-facts`); and then a kept place is one of the
-- 64, with a position of at most the packet's (`after-place`).
-- Here r is the state, s its numbers, h the state of its jumps, a the arrival, o its outcome, p the oldest kept jump of a greater number,
-- q the oldest kept one, l the extent and late time from a jump. Assumes nothing.
use Prim.Native.Nat.{ℕ, zero, suc, ◌+◌, ◌-◌, ◌<◌, ◌≤◌}
use mathlib.Core.Bool.{Bool, true, false, not}
use mathlib.Core.List.{List, [], ◌∷◌, head?}
use mathlib.Core.Option.{none, some}
use mathlib.Core.Path.{◌≡◌, refl, sym, ap, ◌∙◌}
use native.Mathlib.Omega.{arith}
use lib.Dec.{eqb, lit<}
use lib.ListN.{get_or}
use borrow.Author.Tests.{ne_eqb, lt-ltb, le-ltb, le-leb, lt-leb, eqb-true, not-false}
use Rattle.rfc4737.specs.declared.Arrival.{Arrival}
use Rattle.rfc4737.specs.Order.{FirstArrival}
use Rattle.rfc4737.specs.Extent.{first_above}
use Rattle.rfc4737.specs.Refusals.{refusal_if, state_unfit, state_full}
use Rattle.rfc4737.specs.Judge.{arrivals_most, judge_one}
use Rattle.rfc4737.proofs.Due.{first-none, case-none}
use Rattle.rfc4737.proofs.Judged.{one_split}
use Rattle.receiver.specs.declared.Stream.{Stream}
use Rattle.receiver.specs.declared.Places.{Places}
use Rattle.receiver.specs.declared.Receiver.{Receiver}
use Rattle.receiver.specs.declared.Lateness.{Lateness}
use Rattle.receiver.specs.declared.ReceiverAnswer.TheVariants.{Duplicate, InOrder, Exact, Beyond}
use Rattle.receiver.specs.declared.Outcome.{Outcome}
use Rattle.receiver.specs.declared.StepAnswer.{StepAnswer}
use Rattle.receiver.specs.Limits.{window_places}
use Rattle.receiver.specs.Outcomes.{refused_outcome, accepted_outcome, lateness_from}
use Rattle.receiver.specs.Marks.{mark_at}
use Rattle.receiver.specs.Kept.{place_at, places_from, Held, held_of, kept_of}
use Rattle.receiver.specs.Fit.{fit, jump_fit}
use Rattle.receiver.specs.Step.{step_refusal, reordered_outcome, late_outcome, first_outcome, unrefused_outcome, outcome_of, noted_state, step_with, step_of}
use Rattle.receiver.specs.Lent.{AsStep}
use Rattle.receiver.specs.Private.{Unrefused}
use Rattle.receiver.proofs.Fits.{and-true, stream-facts, places-facts, jump-facts}
use Rattle.receiver.proofs.Search.{all-at}

-- ---- a reordered packet

module _ (s : Stream) (places : Places) (a : Arrival) where
  -- the kept jumps
  abbrev kept : List FirstArrival
  kept = kept_of (held_of s places)

  -- with no greater kept jump
  pub late-none : first_above a.number kept ≡ none → refused_outcome state_unfit ≡ late_outcome s places a
  unfolding reordered_outcome
  late-none e = rw e

  -- beyond the window
  pub late-beyond : (p q : FirstArrival) (l : Lateness) → first_above a.number kept ≡ some p → a.number < s.dropped
      → head? kept ≡ some q → l ≡ lateness_from (s.arrived + 1) a.time (some q)
      → accepted_outcome (Beyond l) ≡ late_outcome s places a
  unfolding reordered_outcome
  late-beyond p q l e d o k = simp (e, lt-ltb _ _ d, o, k)

  -- within it
  pub late-exact : (p : FirstArrival) (l : Lateness) → first_above a.number kept ≡ some p → s.dropped ≤ a.number
      → l ≡ lateness_from (s.arrived + 1) a.time (some p) → accepted_outcome (Exact l) ≡ late_outcome s places a
  unfolding reordered_outcome
  late-exact p l e d k = simp (e, le-ltb _ _ d, k)

-- the oldest kept jump stands in the first place
pub oldest-kept : (h : Held) → 0 < h.kept → head? (kept_of h) ≡ some (place_at h.places 0)
unfolding kept_of places_from
oldest-kept h k = first h.kept k
  where
    first : (n : ℕ) → 0 < n → head? (places_from h.places 0 n) ≡ some (place_at h.places 0)
    first zero k = absurd (omega arith)
    first (suc n) k = refl

-- ---- any arrival

module _ (r : Receiver) (number time : ℕ) where
  -- the facts of an arrival that is not refused by the state, its number and its time
  pub accepted-facts : step_refusal r number time ≡ 0 → Unrefused r number
  unfolding step_refusal fit
  accepted-facts e =
      let arrival : Arrival = record { number = number; time = time } in
      let one = judge_one r.stream.sent r.stream.greatest arrival in
      let full = refusal_if (eqb (r.stream.arrived + r.stream.duplicates) arrivals_most) state_full in
      let a = first-none (refusal_if (not (fit r)) state_unfit) (full ∷ one ∷ []) e in
      let g = and-true _ _ (not-false _ (case-none (not (fit r)) state_unfit (lit< tt) a.0)) in
      let n = (one_split _ _ arrival (first-none one [] (first-none full (one ∷ []) a.1).1).0).0 in
      record {
        stream = stream-facts _ g.0;
        places = places-facts _ _ g.1;
        number-low = n.0;
        number-high = n.1;
      }

  -- the facts of the jump in a kept place
  pub after-place : Unrefused r number → (place : ℕ) → place < r.stream.kept
      → (place < window_places) × (get_or r.places.positions place 0 ≤ r.stream.arrived + 1)
  unfolding kept_of place_at
  after-place a place h =
      let e : 0 + place ≡ place = omega arith in
      let k = all-at r.places (jump_fit r.stream) r.stream.kept 0 place a.places.jumps-fit h in
      let j = jump-facts r.stream (place_at r.places place) (rw e at k) in
      (omega (arith, a.places.kept_high), omega (arith, j.position-high))

  -- refused by the state, its number or its time
  pub outcome-refused : (x : ℕ) → (x ≡ 0 → ⊥) → x ≡ step_refusal r number time → refused_outcome x ≡ outcome_of r number time
  unfolding outcome_of
  outcome-refused x h e =
      let y : eqb (step_refusal r number time) 0 ≡ false = ap (λ (n : ℕ). eqb n 0) (sym e) ∙ ne_eqb _ _ h in
      simp (y, e)

  module _ (go : step_refusal r number time ≡ 0) where
    pub outcome-duplicate : mark_at r.marks number ≡ true → accepted_outcome Duplicate ≡ outcome_of r number time
    unfolding outcome_of unrefused_outcome
    outcome-duplicate m = simp (go, m)

    pub outcome-in-order : mark_at r.marks number ≡ false → r.stream.next ≤ number
        → accepted_outcome (InOrder (number - r.stream.next)) ≡ outcome_of r number time
    unfolding outcome_of unrefused_outcome first_outcome
    outcome-in-order m h = simp (go, m, le-leb _ _ h)

    pub outcome-late : (o : Outcome) → mark_at r.marks number ≡ false → number < r.stream.next
        → o ≡ late_outcome r.stream r.places (record { number = number; time = time }) → o ≡ outcome_of r number time
    unfolding outcome_of unrefused_outcome first_outcome
    outcome-late o m h e = e ∙ simp (go, m, lt-leb _ _ h)

  module _ (room : Bool) (o : Outcome) (e : o ≡ outcome_of r number time) where
    -- an outcome without a refusal is accepted
    pub said-accepted : o.refusal ≡ 0 → Unrefused r number
    unfolding outcome_of
    said-accepted z =
        accepted-facts (opened (eqb (step_refusal r number time) 0) refl (ap (λ (o : Outcome). o.refusal) (sym e) ∙ z))
      where
        opened : (t : Bool) → eqb (step_refusal r number time) 0 ≡ t → (outcome_of r number time).refusal ≡ 0 → step_refusal r number time ≡ 0
        opened true q p = eqb-true _ _ q
        opened false q p = rw q at p

    -- a refusal returns the state
    pub step-refused : (o.refusal ≡ 0 → ⊥) → ◌≡◌ {A = StepAnswer} (record { outcome = o; state = r }) (step_with room r number time)
    unfolding step_with
    step-refused h = simp (sym e, ne_eqb o.refusal 0 h)

    -- the case noted makes the state
    pub step-noted : (s : Receiver) → o.refusal ≡ 0 → s ≡ noted_state room r number time o.noted
        → ◌≡◌ {A = StepAnswer} (record { outcome = o; state = s }) (step_with room r number time)
    unfolding step_with
    step-noted s z k = simp (sym e, z, k)

-- a refused arrival leaves an equal receiver
pub refused-equal : (room : Bool) (r : Receiver) (number time : ℕ) → ((step_with room r number time).outcome.refusal ≡ 0 → ⊥)
    → (step_with room r number time).state ≡ r
unfolding step_with
refused-equal room r number time h = rw (ne_eqb _ 0 h)

-- an answer that is the step's is as the contract of a step in place says
pub as_step : (r : Receiver) (number time : ℕ) (d : StepAnswer) → d ≡ step_of r number time → AsStep r number time d.outcome d.state
as_step r number time d e = (
  ap (λ (p : StepAnswer). p.outcome) e,
  ap (λ (p : StepAnswer). p.state) e,
  λ refusal. ap (λ (p : StepAnswer). p.state) e
      ∙ refused-equal _ r number time (λ none. refusal (ap (λ (p : StepAnswer). p.outcome.refusal) e ∙ none)),
)
