-- The account of a meter, made from the calls and from nothing that the meter holds: of each stream its K, its accepted
-- arrivals since its last accepted start, and its window, which is the jumps that the rule for the shared places keeps.
-- Refusals, answers and the account of the arrivals are the receiver's. Assumes nothing.
use Rattle.std.specs.Prelude.{ℕ, cond, length}
use mathlib.Core.List.{List, [], foldl}
use Rattle.rfc4737.specs.declared.Arrival.{Arrival}
use Rattle.rfc4737.specs.Order.{FirstArrival}
use Rattle.rfc4737.specs.Refusals.{outside, no_stream}
use Rattle.rfc4737.specs.Judge.{sent_most, judge_sent}
use Rattle.receiver.specs.declared.Outcome.{Outcome}
use Rattle.receiver.specs.Outcomes.{refused_outcome}
use Rattle.receiver.specs.Kept.{kept_with}
use Rattle.receiver.specs.Account.{account_with, jump_in, outcome_in}
use Rattle.meter.specs.Streams.{Side, one, two, side_of, on_stream, free_beside, takes_place}

-- a call: an arrival on a stream, or a fresh start of a stream for K
pub data Call : Type 0 where
  arrives : ℕ → Arrival → Call
  starts : ℕ → ℕ → Call

-- the stream number of a call
abbrev pub stream_number_of : Call → ℕ
stream_number_of (arrives n a) = n
stream_number_of (starts n k) = n

-- the reply to a call: the outcome of an arrival, or the refusal of a start
pub data Reply : Type 0 where
  said : Outcome → Reply
  started : ℕ → Reply

-- ---- one stream

-- the part of the account for a stream
pub record Part : Type 0 where
  pub sent : ℕ
  pub accepted : List Arrival
  pub window : List FirstArrival

-- the part of a stream that is fresh for K
abbrev pub fresh_part : ℕ → Part
fresh_part k = record { sent = k; accepted = []; window = [] }

-- a stream's part after a call on it, with `free` places free: a new jump takes a free place, or the oldest kept one is dropped for it;
-- a refused call leaves the part as it was
unfoldable pub part_after : ℕ → Part → Call → Part
part_after free h (arrives n a) =
    record {
      sent = h.sent;
      accepted = account_with h.sent h.accepted a;
      window = foldl (kept_with (takes_place (length h.window) free)) h.window (jump_in h.sent h.accepted a);
    }
part_after free h (starts n k) = cond (outside 1 sent_most k) h (fresh_part k)

-- the reply to a call on a stream
unfoldable pub reply_in : Part → Call → Reply
reply_in h (arrives n a) = said (outcome_in h.window h.sent h.accepted a)
reply_in h (starts n k) = started (judge_sent k)

-- the reply to a call on no stream
abbrev pub no_reply : Call → Reply
no_reply (arrives n a) = said (refused_outcome no_stream)
no_reply (starts n k) = started no_stream

-- ---- both streams

-- the account: a part for each stream
abbrev pub Account : Type 0
Account = Side → Part

-- how many places are free
abbrev pub free_in : Account → ℕ
free_in account = free_beside (length (account one).window) (length (account two).window)

-- the account with another part for a stream
abbrev pub with_part : Side → Part → Account → Account
with_part one h account one = h
with_part one h account two = account two
with_part two h account one = account one
with_part two h account two = h

-- the account after a call
unfoldable pub account_after : Account → Call → Account
account_after account c =
    on_stream (side_of (stream_number_of c)) account
    (λ (s : Side). with_part s (part_after (free_in account) (account s) c) account)

-- the account of the calls: at first both streams are fresh for K = 1
unfoldable pub meter_account_of : List Call → Account
meter_account_of calls = foldl account_after (λ s. fresh_part 1) calls

-- the account's reply to a call, after the calls before it
unfoldable pub account_reply : List Call → Call → Reply
account_reply earlier c = on_stream (side_of (stream_number_of c)) (no_reply c) (λ (s : Side). reply_in (meter_account_of earlier s) c)
