-- The receiver's step and its start, after the scope's "The receiver": the outcome of an arrival, and the state after it. Assumes
-- nothing.
use Rattle.std.specs.Prelude.{ℕ, ◌+◌, ◌-◌, min, max, Bool, not, cond, leb, ltb, eqb, replicate}
use mathlib.Core.List.{List, [], ◌∷◌, head?}
use Rattle.std.proofs.Math.Option.{Option, none, some}
use Rattle.rfc4737.specs.declared.Arrival.{Arrival}
use Rattle.rfc4737.specs.Order.{FirstArrival, next_after}
use Rattle.rfc4737.specs.Extent.{first_above}
use Rattle.rfc4737.specs.Runs.{lengthened, ended}
use Rattle.rfc4737.specs.Times.{next_reference}
use Rattle.rfc4737.specs.Refusals.{outside, refusal_if, first_refusal, state_unfit, state_full}
use Rattle.rfc4737.specs.Judge.{sent_most, arrivals_most, judge_sent, judge_one}
use Rattle.receiver.specs.declared.Stream.{Stream}
use Rattle.receiver.specs.declared.Places.{Places}
use Rattle.receiver.specs.declared.Receiver.{Receiver}
use Rattle.receiver.specs.declared.ReceiverAnswer.{ReceiverAnswer}
use Rattle.receiver.specs.declared.ReceiverAnswer.TheVariants.{Duplicate, InOrder, Exact, Beyond}
use Rattle.receiver.specs.declared.Outcome.{Outcome}
use Rattle.receiver.specs.declared.StepAnswer.{StepAnswer}
use Rattle.receiver.specs.declared.FreshAnswer.{FreshAnswer}
use Rattle.receiver.specs.Limits.{window_places}
use Rattle.receiver.specs.Outcomes.{refused_outcome, accepted_outcome, lateness_from}
use Rattle.receiver.specs.Marks.{mark_words, mark_at, with_mark}
use Rattle.receiver.specs.Kept.{Held, held_of, kept_of, held_after}
use Rattle.receiver.specs.Fit.{fit}

-- the numbers of a fresh stream: its K, NextExp 1, and 0 for all others
unfoldable pub fresh_stream : ℕ → Stream
fresh_stream k =
    record {
      sent = k;
      arrived = 0;
      duplicates = 0;
      inorder = 0;
      next = 1;
      kept = 0;
      greatest = 0;
      runs = record { closed = 0; squares = 0; current = 0 };
      dropped = 0;
    }

-- a fresh receiver: no mark and no jump
unfoldable pub made_for : ℕ → Receiver
made_for k =
    record {
      stream = fresh_stream k;
      marks = replicate mark_words 0;
      places = record { positions = replicate window_places 0; numbers = replicate window_places 0; times = replicate window_places 0 };
    }

-- the answer of `fresh`: a fresh receiver for K; with refusal 4, one for K = 1
unfoldable pub fresh_of : ℕ → FreshAnswer
fresh_of k = record { refusal = judge_sent k; state = made_for (cond (outside 1 sent_most k) 1 k) }

-- ---- the outcome of an arrival

-- the refusal of an arrival by the state, its number and its time, 0 for none: unfit state 10, then 11, 6, 7
unfoldable pub step_refusal : Receiver → ℕ → ℕ → ℕ
step_refusal r number time =
    first_refusal
    (refusal_if (not (fit r)) state_unfit
    ∷ refusal_if (eqb (r.stream.arrived + r.stream.duplicates) arrivals_most) state_full
    ∷ judge_one r.stream.sent r.stream.greatest (record { number = number; time = time })
    ∷ [])

-- the outcome of an arrival a that is a reordered packet, over the stream's numbers and its kept jumps; d is the oldest kept jump with
-- a greater number. Without one the arrival is refused. If its number is below the last dropped one, it is beyond the window, with the
-- figures from the oldest kept jump; else it is exact, with the figures from d
unfoldable pub reordered_outcome : Stream → List FirstArrival → Arrival → Option FirstArrival → Outcome
reordered_outcome s kept a none = refused_outcome state_unfit
reordered_outcome s kept a (some d) =
    accepted_outcome
    (cond (ltb a.number s.dropped) (Beyond (lateness_from (s.arrived + 1) a.time (head? kept)))
    (Exact (lateness_from (s.arrived + 1) a.time (some d))))

-- the same, over the jumps kept in some places
abbrev pub late_outcome : Stream → Places → Arrival → Outcome
late_outcome s places a =
    let kept = kept_of (held_of s places) in
    reordered_outcome s kept a (first_above a.number kept)

-- the outcome of a first arrival: in order, with the jump size, if its number is at least NextExp, else reordered
unfoldable pub first_outcome : Receiver → ℕ → ℕ → Outcome
first_outcome r number time =
    cond (leb r.stream.next number) (accepted_outcome (InOrder (number - r.stream.next)))
    (late_outcome r.stream r.places (record { number = number; time = time }))

-- the outcome of an arrival without such a refusal: a duplicate if the packet is marked, else a first arrival
unfoldable pub unrefused_outcome : Receiver → ℕ → ℕ → Outcome
unrefused_outcome r number time = cond (mark_at r.marks number) (accepted_outcome Duplicate) (first_outcome r number time)

-- the outcome of an arrival
unfoldable pub outcome_of : Receiver → ℕ → ℕ → Outcome
outcome_of r number time =
    cond (eqb (step_refusal r number time) 0) (unrefused_outcome r number time) (refused_outcome (step_refusal r number time))

-- ---- the state after it

-- a duplicate changes the duplicates and the greatest time only
unfoldable pub duplicate_stream : Stream → ℕ → Stream
duplicate_stream s time =
    record {
      sent = s.sent;
      arrived = s.arrived;
      duplicates = s.duplicates + 1;
      inorder = s.inorder;
      next = s.next;
      kept = s.kept;
      greatest = next_reference s.greatest time;
      runs = s.runs;
      dropped = s.dropped;
    }

-- after an in-order arrival; h is what is held of the jumps then
unfoldable pub in_order_stream : Stream → Held → ℕ → ℕ → Stream
in_order_stream s h number time =
    record {
      sent = s.sent;
      arrived = s.arrived + 1;
      duplicates = s.duplicates;
      inorder = s.inorder + 1;
      next = next_after s.next number;
      kept = h.kept;
      greatest = next_reference s.greatest time;
      runs = lengthened s.runs;
      dropped = h.dropped;
    }

-- after a reordered packet
unfoldable pub reordered_stream : Stream → ℕ → ℕ → Stream
reordered_stream s number time =
    record {
      sent = s.sent;
      arrived = s.arrived + 1;
      duplicates = s.duplicates;
      inorder = s.inorder;
      next = next_after s.next number;
      kept = s.kept;
      greatest = next_reference s.greatest time;
      runs = ended s.runs;
      dropped = s.dropped;
    }

-- the place of a first arrival
abbrev pub placed_at : Stream → ℕ → ℕ → FirstArrival
placed_at s number time = record { position = s.arrived + 1; number = number; time = time }

-- the state after an in-order arrival with a jump size; `room` says whether there is room for a new jump
unfoldable pub in_order_state : Bool → Receiver → ℕ → ℕ → ℕ → Receiver
in_order_state room r size number time =
    let h = held_after room (held_of r.stream r.places) size (placed_at r.stream number time) in
    record { stream = in_order_stream r.stream h number time; marks = with_mark r.marks number; places = h.places }

-- the state after a reordered packet
abbrev pub reordered_state : Receiver → ℕ → ℕ → Receiver
reordered_state r number time =
    record {
      stream = reordered_stream r.stream number time;
      marks = with_mark r.marks number;
      places = r.places;
    }

-- the state after an arrival that is noted
unfoldable pub noted_state : Bool → Receiver → ℕ → ℕ → ReceiverAnswer → Receiver
noted_state room r number time Duplicate =
    record { stream = duplicate_stream r.stream time; marks = r.marks; places = r.places }
noted_state room r number time (InOrder size) = in_order_state room r size number time
noted_state room r number time (Exact l) = reordered_state r number time
noted_state room r number time (Beyond l) = reordered_state r number time

-- the step, where `room` says whether there is room for a new jump: the outcome, and the state after it; a refusal leaves it as it was
unfoldable pub step_with : Bool → Receiver → ℕ → ℕ → StepAnswer
step_with room r number time =
    let o = outcome_of r number time in
    record { outcome = o; state = cond (eqb o.refusal 0) (noted_state room r number time o.noted) r }

-- the receiver's step, for every state and arrival: there is room for a new jump while fewer than 64 are kept
abbrev pub step_of : Receiver → ℕ → ℕ → StepAnswer
step_of r number time = step_with (ltb r.stream.kept window_places) r number time

-- the same where at most `most` are kept: 0 is taken as 1, and more than 64 as 64
abbrev pub step_within : ℕ → Receiver → ℕ → ℕ → StepAnswer
step_within most r number time = step_with (ltb r.stream.kept (max 1 (min most window_places))) r number time
