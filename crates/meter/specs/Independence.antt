-- Independence: one stream's calls change the other's later answers through the number of free places only. Assumes nothing.
use Rattle.std.specs.Prelude.{ℕ, zero, suc, ◌-◌, Bool, true, false, cond, ◌≡◌, length, drop}
use mathlib.Core.List.{List, [], ◌∷◌, map, flatten}
use Rattle.std.proofs.Math.Option.{Option, none, some}
use Rattle.rfc4737.specs.Arrivals.{each}
use Rattle.rfc4737.specs.Order.{FirstArrival}
use Rattle.receiver.specs.declared.ReceiverAnswer.{ReceiverAnswer}
use Rattle.receiver.specs.declared.ReceiverAnswer.TheVariants.{Duplicate, InOrder, Exact, Beyond}
use Rattle.receiver.specs.Account.{jump_in}
use Rattle.meter.specs.Streams.{Side, one, two, side_of, stream_of}
use Rattle.meter.specs.Account.{Call, arrives, starts, stream_number_of, Reply, said, started, free_in, meter_account_of}
use Rattle.meter.specs.Demand3.{meter_after, meter_reply, stream_numbers, kept_after, jumps_of}

-- whether a call is on this stream
abbrev pub is_side : Side → Option Side → Bool
is_side s none = false
is_side one (some one) = true
is_side one (some two) = false
is_side two (some one) = false
is_side two (some two) = true

-- the values of f for the calls on a stream, each after all calls before it
unfoldable pub of_own {ℓ} : {B : Type ℓ} → Side → (List Call → Call → B) → List Call → List B
of_own s f calls =
    flatten (each (λ (earlier : List Call) (c : Call). cond (is_side s (side_of (stream_number_of c))) (f earlier c ∷ []) []) calls)

-- the calls on a stream, without its neighbour's
abbrev pub own_calls : Side → List Call → List Call
own_calls s calls = of_own s (λ (earlier : List Call) (c : Call). c) calls

-- the replies to the calls on a stream
abbrev pub own_replies : Side → List Call → List Reply
own_replies s calls = of_own s meter_reply calls

-- ---- without a neighbour

-- a flag: refused, duplicate, in order with the jump size, reordered, or started afresh; without extent and late time
pub data Flag : Type 0 where
  refused : ℕ → Flag
  duplicate : Flag
  in_order : ℕ → Flag
  reordered : Flag
  fresh : Flag

-- the flag of an outcome, with its refusal
abbrev pub flag : ℕ → ReceiverAnswer → Flag
flag (suc n) w = refused (suc n)
flag zero Duplicate = duplicate
flag zero (InOrder size) = in_order size
flag zero (Exact l) = reordered
flag zero (Beyond l) = reordered

-- the flag of a reply
abbrev pub flag_of : Reply → Flag
flag_of (said o) = flag o.refusal o.noted
flag_of (started (suc n)) = refused (suc n)
flag_of (started zero) = fresh

-- "its flags, jumps, runs and counts stay what they'd be without a neighbour": for the replies to a stream's calls, and for what the
-- meter holds of the stream after them
pub record Alone (s : Side) (calls : List Call) : Type 0 where
  pub flags : map flag_of (own_replies s calls) ≡ map flag_of (each meter_reply (own_calls s calls))
  -- the kept jumps are the last of the jumps that its own calls make; the neighbour changes how many of them are kept
  pub jumps : kept_after s calls ≡ drop (length (jumps_of s (own_calls s calls)) - length (kept_after s calls)) (jumps_of s (own_calls s calls))
  -- runs, counts, K, NextExp, the greatest time and the marks are the same
  pub runs : (stream_numbers s calls).runs ≡ (stream_numbers s (own_calls s calls)).runs
  pub arrived : (stream_numbers s calls).arrived ≡ (stream_numbers s (own_calls s calls)).arrived
  pub duplicates : (stream_numbers s calls).duplicates ≡ (stream_numbers s (own_calls s calls)).duplicates
  pub inorder : (stream_numbers s calls).inorder ≡ (stream_numbers s (own_calls s calls)).inorder
  pub sent : (stream_numbers s calls).sent ≡ (stream_numbers s (own_calls s calls)).sent
  pub next : (stream_numbers s calls).next ≡ (stream_numbers s (own_calls s calls)).next
  pub greatest : (stream_numbers s calls).greatest ≡ (stream_numbers s (own_calls s calls)).greatest
  pub marks : (stream_of s (meter_after calls)).marks ≡ (stream_of s (meter_after (own_calls s calls))).marks

-- ---- through the number of free places

-- the number of free places, if there is a new jump
abbrev pub free_at : ℕ → List FirstArrival → Option ℕ
free_at free [] = none
free_at free (p ∷ ps) = some free

-- what a stream meets of its neighbour at a call of its own: the number of free places, if the call is a jump; else nothing
unfoldable pub meets : Side → List Call → Call → Option ℕ
meets s earlier (arrives n a) =
    let h = meter_account_of earlier s in
    free_at (free_in (meter_account_of earlier)) (jump_in h.sent h.accepted a)
meets s earlier (starts n k) = none

-- the claim, for two lists of calls: if a stream's own calls are the same in both, and it meets the same of its neighbour at each, its
-- replies are the same
pub record Independence : Type 0 where
  pub alone : (s : Side) (calls : List Call) → Alone s calls
  pub free : (s : Side) (calls others : List Call) → own_calls s calls ≡ own_calls s others
      → of_own s (meets s) calls ≡ of_own s (meets s) others
      → own_replies s calls ≡ own_replies s others
