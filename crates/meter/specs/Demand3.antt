-- Demand 3 on a meter: a new meter that is given any list of arrivals and fresh starts, refused ones among them, replies to each as the
-- account does. Assumes nothing.
use Rattle.std.specs.Prelude.{ℕ, ◌+◌, ◌-◌, ◌≤◌, min, ◌≡◌, eqb, length, drop}
use mathlib.Core.List.{List, ◌∷◌, ◌++◌, foldl}
use Rattle.std.proofs.Math.Option.{some}
use Rattle.rfc4737.specs.declared.Arrival.{Arrival}
use Rattle.rfc4737.specs.declared.ReorderedFigures.{ReorderedFigures}
use Rattle.rfc4737.specs.declared.Answer.TheVariants as answer
use Rattle.rfc4737.specs.declared.Counts.{Counts}
use Rattle.rfc4737.specs.Arrivals.{firsts, each, count}
use Rattle.rfc4737.specs.Order.{FirstArrival, jumps}
use Rattle.rfc4737.specs.Runs.{counts}
use Rattle.rfc4737.specs.Refusals.{state_unfit}
use Rattle.receiver.specs.declared.Stream.{Stream}
use Rattle.receiver.specs.Kept.{held_of, kept_of}
use Rattle.receiver.specs.Account.{account_refusal, answer_in, answers_in}
use Rattle.receiver.specs.Demand3.{Answered}
use Rattle.meter.specs.declared.Meter.{Meter}
use Rattle.meter.specs.Streams.{Side, one, two, side_of, shared, most_kept, stream_of, receiver_of}
use Rattle.meter.specs.Step.{new_meter, meter_step, meter_start}
use Rattle.meter.specs.Account.{Call, arrives, starts, Reply, said, started, meter_account_of, account_reply}

-- the meter after a call
abbrev pub met_after : Meter → Call → Meter
met_after m (arrives n a) = (meter_step m n a.number a.time).state
met_after m (starts n k) = (meter_start m n k).state

-- its reply to a call
abbrev pub reply_of : Meter → Call → Reply
reply_of m (arrives n a) = said (meter_step m n a.number a.time).outcome
reply_of m (starts n k) = started (meter_start m n k).refusal

-- a new meter after some calls
unfoldable pub meter_after : List Call → Meter
meter_after calls = foldl met_after new_meter calls

-- a new meter's reply to a call, after the calls before it
unfoldable pub meter_reply : List Call → Call → Reply
meter_reply earlier c = reply_of (meter_after earlier) c

-- the refusal in a reply
abbrev pub refusal_said : Reply → ℕ
refusal_said (said o) = o.refusal
refusal_said (started n) = n

-- ---- a stream after the calls

-- the numbers of a stream on the meter
abbrev pub stream_numbers : Side → List Call → Stream
stream_numbers s calls = (stream_of s (meter_after calls)).stream

-- the jumps that the stream keeps there
abbrev pub kept_after : Side → List Call → List FirstArrival
kept_after s calls =
    let r = receiver_of s (meter_after calls) in
    kept_of (held_of r.stream r.places)

-- the counts of a stream by the account
abbrev pub counts_of : Side → List Call → Counts
counts_of s calls = counts (answers_in (meter_account_of calls s).accepted)

-- the jumps of a stream by the account
abbrev pub jumps_of : Side → List Call → List FirstArrival
jumps_of s calls = jumps (firsts (meter_account_of calls s).accepted)

-- what a stream holds after the calls agrees with the account
pub record Agrees (s : Side) (calls : List Call) : Type 0 where
  -- L, duplicates, in-order count, and open run, closed runs and squares are the account's
  pub arrived : (stream_numbers s calls).arrived ≡ (counts_of s calls).arrived
  pub duplicates : (stream_numbers s calls).duplicates ≡ (counts_of s calls).duplicates
  pub inorder : (stream_numbers s calls).inorder ≡ (counts_of s calls).inorder
  pub runs : (stream_numbers s calls).runs ≡ (counts_of s calls).runs
  -- duplicates, in-order and reordered packets are together the accepted arrivals
  pub sum : (stream_numbers s calls).duplicates + (stream_numbers s calls).inorder + (counts_of s calls).reordered
      ≡ length (meter_account_of calls s).accepted
  -- the jumps that it keeps are its window
  pub kept : kept_after s calls ≡ (meter_account_of calls s).window
  -- which are the last of its jumps: at least 16 or all that it has, and never over 48
  pub last : (meter_account_of calls s).window ≡ drop (length (jumps_of s calls) - length (meter_account_of calls s).window) (jumps_of s calls)
  pub least : min 16 (length (jumps_of s calls)) ≤ length (meter_account_of calls s).window
  pub most : length (meter_account_of calls s).window ≤ most_kept

-- the claim, of a list of calls
pub record MeterDemand3 (calls : List Call) : Type 0 where
  -- the refusals and answers are the account's
  pub replies : each meter_reply calls ≡ each account_reply calls
  -- refusal 10 never occurs
  pub fit : count (λ (r : Reply). eqb (refusal_said r) state_unfit) (each meter_reply calls) ≡ 0
  -- every accepted arrival that is a reordered packet over its stream's account is answered so, with the stream's window
  pub reordered : (earlier : List Call) (n : ℕ) (a : Arrival) (later : List Call)
      → calls ≡ earlier ++ (arrives n a ∷ later)
      → (s : Side)
      → side_of n ≡ some s
      → account_refusal (meter_account_of earlier s).sent (meter_account_of earlier s).accepted a ≡ 0
      → (d : ReorderedFigures)
      → answer_in (meter_account_of earlier s).accepted a ≡ answer.Reordered d
      → Answered (meter_account_of earlier s).window (meter_account_of earlier s).accepted a d
      (meter_step (meter_after earlier) n a.number a.time).outcome.noted
  -- after the list each stream is as its account
  pub streams : (s : Side) → Agrees s calls
  -- and they keep at most 64 jumps together
  pub places : length (meter_account_of calls one).window + length (meter_account_of calls two).window ≤ shared
