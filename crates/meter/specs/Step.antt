-- The meter's step and its starts: each is the receiver's, on one of the streams. Assumes nothing.
use Rattle.std.specs.Prelude.{ℕ, ◌+◌, Bool, cond, ◌&&◌, [], ◌∷◌, leb, eqb}
use Rattle.rfc4737.specs.Refusals.{state_unfit, no_stream}
use Rattle.receiver.specs.declared.Receiver.{Receiver}
use Rattle.receiver.specs.declared.StepAnswer.{StepAnswer}
use Rattle.receiver.specs.declared.FreshAnswer.{FreshAnswer}
use Rattle.receiver.specs.Outcomes.{refused_outcome}
use Rattle.receiver.specs.Fit.{every, fit}
use Rattle.receiver.specs.Step.{made_for, fresh_of, step_with}
use Rattle.meter.specs.declared.Meter.{Meter}
use Rattle.meter.specs.declared.MeterStepAnswer.{MeterStepAnswer}
use Rattle.meter.specs.declared.MeterStartAnswer.{MeterStartAnswer}
use Rattle.meter.specs.Streams.{Side, one, two, side_of, on_stream, shared, most_kept, takes_place, receiver_of, with_stream, stream_in, with_receiver, kept_in, free}

-- a new meter: both streams fresh for K = 1, and all places free
unfoldable pub new_meter : Meter
new_meter =
    record {
      first = stream_in (made_for 1);
      second = stream_in (made_for 1);
      places = (made_for 1).places;
    }

-- whether a stream, seen as a receiver, is fit: it keeps at most 48 jumps, and is fit as a receiver
unfoldable pub fit_on_meter : Receiver → Bool
fit_on_meter r = leb r.stream.kept most_kept && fit r

-- whether a meter is fit: both streams are, and they keep at most 64 jumps together
unfoldable pub meter_fit : Meter → Bool
meter_fit m = every (fit_on_meter (receiver_of one m) ∷ fit_on_meter (receiver_of two m) ∷ leb (kept_in one m + kept_in two m) shared ∷ [])

-- ---- an arrival

-- a refused call: the meter is as it was
abbrev pub not_stepped : ℕ → Meter → MeterStepAnswer
not_stepped n m = record { outcome = refused_outcome n; state = m }

-- the receiver's step on a stream; a new jump takes a free place, or the stream's own oldest kept jump is dropped for it
unfoldable pub step_on : Side → Meter → ℕ → ℕ → MeterStepAnswer
step_on s m number time =
    let r : StepAnswer = step_with (takes_place (kept_in s m) (free m)) (receiver_of s m) number time in
    record { outcome = r.outcome; state = with_receiver s r.state m }

-- the step, for every meter, stream number and arrival: 16, then 10, then the receiver's
unfoldable pub meter_step : Meter → ℕ → ℕ → ℕ → MeterStepAnswer
meter_step m n number time =
    on_stream (side_of n) (not_stepped no_stream m)
    (λ (s : Side). cond (meter_fit m) (step_on s m number time) (not_stepped state_unfit m))

-- ---- a fresh start

-- a refused call: the meter is as it was
abbrev pub not_started : ℕ → Meter → MeterStartAnswer
not_started n m = record { refusal = n; state = m }

-- the meter with a stream as a fresh receiver for K has it, unless K is refused; its places are free then, as it keeps no jump
unfoldable pub start_on : Side → Meter → ℕ → MeterStartAnswer
start_on s m k =
    let r : FreshAnswer = fresh_of k in
    cond (eqb r.refusal 0) (record { refusal = 0; state = with_stream s (stream_in r.state) m })
    (not_started r.refusal m)

-- the fresh start, for every meter, stream number and K: 16, then 10, then the fresh receiver's 4
unfoldable pub meter_start : Meter → ℕ → ℕ → MeterStartAnswer
meter_start m n k =
    on_stream (side_of n) (not_started no_stream m)
    (λ (s : Side). cond (meter_fit m) (start_on s m k) (not_started state_unfit m))
