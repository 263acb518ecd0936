-- A meter carries an account: each of its streams, seen as a receiver, is the state of its part of the account, and its places hold its
-- window. Every call keeps it so. Such a meter is fit, as both streams are (`carries-fit`), and has as many free places as the account
-- says (`carries-free`), so an arrival on a stream makes the receiver's step, which agrees with the account (`carries-step`). The stream
-- then keeps what the rule for the shared places says (`kept_then`), and its neighbour's kept places are not written, since both keep at
-- most 64 jumps together (`other-holds`); so the account after it is carried (`carries-after`). A stream that is started afresh keeps no
-- jump, whatever its places hold (`fresh-carried`), and its neighbour stays (`carries-started`).
-- Here s is the stream of the call, m the meter, h a part of the account, r the receiver that carries it, g says that it is carried, a is
-- the arrival, k is K, p are places, and room says whether a new jump takes a place. Assumes nothing.
use Prim.Native.Nat.{ℕ, ◌+◌, ◌-◌, ◌≤◌}
use mathlib.Core.Path.{◌≡◌, refl, sym, ap, ap₂, subst, ◌∙◌}
use mathlib.Core.Bool.{Bool, true}
use mathlib.Core.List.{List, [], ◌++◌, foldl, flatten}
use native.Mathlib.Omega.{arith}
use lib.ListN.{length}
use borrow.Author.Tests.{le-leb}
use Rattle.rfc4737.specs.declared.Arrival.{Arrival}
use Rattle.rfc4737.specs.Arrivals.{firsts, each, each_after}
use Rattle.rfc4737.specs.Order.{FirstArrival, jumps}
use Rattle.rfc4737.specs.Judge.{sent_most}
use Rattle.receiver.specs.declared.Places.{Places}
use Rattle.receiver.specs.declared.Receiver.{Receiver}
use Rattle.receiver.specs.declared.StepAnswer.{StepAnswer}
use Rattle.receiver.specs.Limits.{window_places}
use Rattle.receiver.specs.Fit.{every, fit}
use Rattle.receiver.specs.Kept.{places_from, Held, held_of, kept_of, kept_with, with_jump}
use Rattle.receiver.proofs.Window.{last_number}
use Rattle.receiver.specs.Step.{fresh_stream, made_for, step_with}
use Rattle.receiver.specs.Account.{account_with, jump_in, outcome_in}
use Rattle.receiver.proofs.Fits.{both}
use Rattle.receiver.proofs.Accepted.{AccountLimits, limits-none, limits-with}
use Rattle.receiver.proofs.ReorderedInWindow.{Split}
use Rattle.receiver.proofs.HeldJumps.{AllPlaces, Holds, holds-count, none_held}
use Rattle.receiver.proofs.State.{state_with, state-fresh}
use Rattle.receiver.proofs.Fitness.{state-fit}
use Rattle.receiver.proofs.Agrees.{jumps-with, step-agrees}
use Rattle.meter.specs.declared.StreamState.{StreamState}
use Rattle.meter.specs.declared.Meter.{Meter}
use Rattle.meter.specs.Streams.{Side, one, two, other, most_kept, free_beside, takes_place, stream_of, receiver_of, stream_in, with_stream, with_receiver, kept_in, free}
use Rattle.meter.specs.Step.{new_meter, fit_on_meter, meter_fit, step_on}
use Rattle.meter.specs.Account.{Part, fresh_part, Account, free_in, with_part}
use Rattle.meter.proofs.PlacesFacing.{own_back, held_turned, other-old, other-new, turned-frame}
use Rattle.meter.proofs.KeptJumps.{KeptOf, kept-arrival}

-- what a receiver holds of its jumps
abbrev pub held_by : Receiver → Held
held_by r = held_of r.stream r.places

-- a receiver carries a stream's part of the account
pub record CarriesPart (h : Part) (r : Receiver) : Type 0 where
  pub low : 1 ≤ h.sent
  pub high : h.sent ≤ sent_most
  pub sound : AccountLimits h.sent h.accepted
  pub dropped : List FirstArrival
  pub split : Split h.accepted dropped h.window
  pub holds : Holds dropped h.window (held_by r)
  pub state : r ≡ state_with h.sent h.accepted (held_by r)
  pub most : length h.window ≤ most_kept
  pub least : 1 ≤ length dropped → 16 ≤ length h.window

-- a meter carries an account
pub record Carries (account : Account) (m : Meter) : Type 0 where
  pub streams : (s : Side) → CarriesPart (account s) (receiver_of s m)
  pub places : length (account one).window + length (account two).window ≤ window_places

-- ---- both sides

-- what holds of a stream and of its neighbour holds of each
either : (P : Side → Type 0) (s : Side) → P s → P (other s) → (t : Side) → P t
either P one h g one = h
either P one h g two = g
either P two h g one = g
either P two h g two = h

own-part : (s : Side) (h : Part) (account : Account) → with_part s h account s ≡ h
own-part one h account = refl
own-part two h account = refl

other-part : (s : Side) (h : Part) (account : Account) → with_part s h account (other s) ≡ account (other s)
other-part one h account = refl
other-part two h account = refl

-- the free places are those beside a stream's own and its neighbour's
free_own : (s : Side) (account : Account) → free_in account ≡ free_beside (length (account s).window) (length (account (other s)).window)
free_own one account = refl
free_own two account =
    let e : length (account one).window + length (account two).window ≡ length (account two).window + length (account one).window =
    omega arith in
    ap (λ (n : ℕ). window_places - n) e

-- how many jumps both keep together, the stream's own named first, and back
together-own : (s : Side) (account : Account) → length (account one).window + length (account two).window ≤ window_places
    → length (account s).window + length (account (other s)).window ≤ window_places
together-own one account h = h
together-own two account h = omega arith

own-together : (s : Side) (account : Account) → length (account s).window + length (account (other s)).window ≤ window_places
    → length (account one).window + length (account two).window ≤ window_places
own-together one account h = h
own-together two account h = omega arith

-- ---- a receiver that carries a part

module _ (h : Part) (r : Receiver) (g : CarriesPart h r) where
  -- it keeps as many jumps
  carried-kept : r.stream.kept ≡ length h.window
  carried-kept = holds-count g.dropped h.window (held_by r) g.holds

  carried-fit : fit r ≡ true
  carried-fit =
      let w : length h.window ≤ most_kept = g.most in
      ap fit g.state
      ∙ state-fit h.sent g.low g.high h.accepted g.sound g.dropped h.window g.split (held_by r) g.holds
      (omega arith)

  -- its step, where a new jump takes a place or not
  carried_step : (room : Bool) (a : Arrival) → step_with room r a.number a.time
      ≡ record {
        outcome = outcome_in h.window h.sent h.accepted a;
        state =
            state_with h.sent (account_with h.sent h.accepted a)
            (foldl (with_jump room) (held_by r) (jump_in h.sent h.accepted a));
      }
  carried_step room a =
      let w : length h.window ≤ most_kept = g.most in
      ap (λ (q : Receiver). step_with room q a.number a.time) g.state
      ∙ step-agrees h.sent g.low g.high h.accepted a g.sound g.dropped h.window g.split (held_by r) g.holds
      (omega arith) room

-- ---- the neighbour

-- the state of its jumps, by the reversed places of a stream
other-was : (s : Side) (m : Meter)
    → held_turned (stream_of (other s) m).stream.kept (stream_of (other s) m).stream.dropped (receiver_of s m).places
    ≡ held_by (receiver_of (other s) m)
other-was s m =
    ap (λ (p : Places). record { kept = (stream_of (other s) m).stream.kept; dropped = (stream_of (other s) m).stream.dropped; places = p })
    (other-old s m)

-- also after a step
other-held : (s : Side) (r : Receiver) (m : Meter)
    → held_turned (stream_of (other s) m).stream.kept (stream_of (other s) m).stream.dropped r.places
    ≡ held_of (receiver_of (other s) m).stream (receiver_of (other s) (with_receiver s r m)).places
other-held s r m =
    ap (λ (p : Places). record { kept = (stream_of (other s) m).stream.kept; dropped = (stream_of (other s) m).stream.dropped; places = p })
    (other-new s r m)

-- ---- a meter that carries an account

module _ (account : Account) (m : Meter) (g : Carries account m) where
  pub carries-fit : meter_fit m ≡ true
  unfolding meter_fit fit_on_meter every
  carries-fit =
      let p : length (account one).window + length (account two).window ≤ window_places = g.places in
      let c : kept_in one m ≡ length (account one).window = carried-kept _ _ (g.streams one) in
      let d : kept_in two m ≡ length (account two).window = carried-kept _ _ (g.streams two) in
      let k : length (account one).window ≤ most_kept = (g.streams one).most in
      let l : length (account two).window ≤ most_kept = (g.streams two).most in
      let i : kept_in one m ≤ most_kept = omega arith in
      let j : kept_in two m ≤ most_kept = omega arith in
      let t : kept_in one m + kept_in two m ≤ window_places = omega arith in
      both (both (le-leb _ _ i) (carried-fit _ _ (g.streams one)))
      (both (both (le-leb _ _ j) (carried-fit _ _ (g.streams two))) (both (le-leb _ _ t) refl))

  -- as many places are free
  carries-free : free m ≡ free_in account
  carries-free = ap₂ free_beside (carried-kept _ _ (g.streams one)) (carried-kept _ _ (g.streams two))

  module _ (s : Side) (a : Arrival) where
    -- the stream's part, and the state of its jumps after the arrival
    abbrev h : Part
    h = account s

    abbrev room : Bool
    room = takes_place (length h.window) (free_in account)

    abbrev pub held_then : Held
    held_then = foldl (with_jump room) (held_by (receiver_of s m)) (jump_in h.sent h.accepted a)

    abbrev pub receiver_then : Receiver
    receiver_then = state_with h.sent (account_with h.sent h.accepted a) held_then

    abbrev pub part_then : Part
    part_then =
        record {
          sent = h.sent;
          accepted = account_with h.sent h.accepted a;
          window = foldl (kept_with room) h.window (jump_in h.sent h.accepted a);
        }

    -- the step on a stream
    pub carries-step : step_on s m a.number a.time
        ≡ record {
          outcome = outcome_in h.window h.sent h.accepted a;
          state = with_receiver s receiver_then m;
        }
    unfolding step_on
    carries-step =
        ap₂ (λ (k f : ℕ). let x : StepAnswer = step_with (takes_place k f) (receiver_of s m) a.number a.time in
        record { outcome = x.outcome; state = with_receiver s x.state m }) (carried-kept _ _ (g.streams s)) carries-free
        ∙ ap (λ (x : StepAnswer). record { outcome = x.outcome; state = with_receiver s x.state m })
        (carried_step _ _ (g.streams s) room a)

    -- what it keeps
    kept_then : KeptOf (g.streams s).dropped h.window (held_by (receiver_of s m)) (length (account (other s)).window)
        (jump_in h.sent h.accepted a) part_then.window held_then
    kept_then =
        rw (free_own s account)
        (kept-arrival (g.streams s).dropped h.window (held_by (receiver_of s m)) (length (account (other s)).window)
        (g.streams s).holds
        (g.streams s).most (g.streams (other s)).most (together-own s account g.places) (g.streams s).least
        (rw (g.streams s).split.parts (g.streams s).split.not-empty) h.sent h.accepted a)

    -- its jumps are split by its window
    split-then : Split part_then.accepted kept_then.dropped part_then.window
    split-then =
        let e : ((g.streams s).dropped ++ h.window) ++ jump_in h.sent h.accepted a
        ≡ jumps (firsts (account_with h.sent h.accepted a)) =
        ap (λ (l : List FirstArrival). l ++ jump_in h.sent h.accepted a) (g.streams s).split.parts
        ∙ sym (jumps-with h.sent h.accepted a) in
        record {
          parts = kept_then.parts ∙ e;
          not-empty = rw e at kept_then.not-empty;
        }

    -- the stream carries its part
    own-carried : CarriesPart part_then receiver_then
    unfolding state_with
    own-carried =
        record {
          low = (g.streams s).low;
          high = (g.streams s).high;
          sound = limits-with h.sent h.accepted a (g.streams s).sound;
          dropped = kept_then.dropped;
          split = split-then;
          holds = kept_then.holds;
          state = refl;
          most = kept_then.most;
          least = kept_then.least;
        }

    -- so does its neighbour, whose kept places are not written
    other-holds : Holds (g.streams (other s)).dropped (account (other s)).window
        (held_of (receiver_of (other s) m).stream (receiver_of (other s) (with_receiver s receiver_then m)).places)
    unfolding state_with
    other-holds =
        let t : StreamState = stream_of (other s) m in
        let c : t.stream.kept ≡ length (account (other s)).window = carried-kept _ _ (g.streams (other s)) in
        let l : length part_then.window + length (account (other s)).window ≤ window_places = kept_then.together in
        subst (Holds (g.streams (other s)).dropped (account (other s)).window) (other-held s receiver_then m)
        (turned-frame held_then.places (receiver_of s m).places t.stream.kept t.stream.dropped (length part_then.window)
        (g.streams (other s)).dropped (account (other s)).window kept_then.holds.long (g.streams s).holds.long (omega arith)
        kept_then.frame
        (subst (Holds (g.streams (other s)).dropped (account (other s)).window) (sym (other-was s m)) (g.streams (other s)).holds))

-- a receiver with other places
abbrev with_places : Receiver → Places → Receiver
with_places r p = record { stream = r.stream; marks = r.marks; places = p }

-- the neighbour's numbers and marks stay
other-stays : (s : Side) (r : Receiver) (m : Meter)
    → receiver_of (other s) (with_receiver s r m) ≡ with_places (receiver_of (other s) m) (receiver_of (other s) (with_receiver s r m)).places
other-stays one r m = refl
other-stays two r m = refl

-- a part is carried with other places, where they hold the same
same-carried : (h : Part) (r : Receiver) (g : CarriesPart h r) (p : Places) → Holds g.dropped h.window (held_of r.stream p)
    → CarriesPart h (with_places r p)
unfolding state_with
same-carried h r g p o =
    record {
      low = g.low;
      high = g.high;
      sound = g.sound;
      dropped = g.dropped;
      split = g.split;
      holds = o;
      state = ap (λ (q : Receiver). with_places q p) g.state;
      most = g.most;
      least = g.least;
    }

-- after an arrival on a stream the meter carries the account after it
pub carries-after : (account : Account) (m : Meter) (g : Carries account m) (s : Side) (a : Arrival)
    → Carries (with_part s (part_then account m g s a) account) (with_receiver s (receiver_then account m g s a) m)
carries-after account m g s a =
    record {
      streams =
          either (λ (t : Side). CarriesPart (with_part s (part_then account m g s a) account t)
          (receiver_of t (with_receiver s (receiver_then account m g s a) m))) s
          (rw (own-part s (part_then account m g s a) account, own_back s (receiver_then account m g s a) m) (own-carried account m g s a))
          (rw (other-part s (part_then account m g s a) account, other-stays s (receiver_then account m g s a) m)
          (same-carried _ _ (g.streams (other s)) _ (other-holds account m g s a)));
      places =
          own-together s (with_part s (part_then account m g s a) account)
          (rw (own-part s (part_then account m g s a) account, other-part s (part_then account m g s a) account)
          (kept_then account m g s a).together);
    }

-- ---- fresh streams

-- a fresh part is carried by a fresh receiver, whatever its unused places hold
fresh-carried : (k : ℕ) → 1 ≤ k → k ≤ sent_most → (p : Places) → AllPlaces p → CarriesPart (fresh_part k) (with_places (made_for k) p)
unfolding firsts jumps flatten each each_after kept_of places_from last_number state_with made_for fresh_stream none_held
fresh-carried k low high p l =
    record {
      low = low;
      high = high;
      sound = limits-none k;
      dropped = [];
      split = record { parts = refl; not-empty = λ h. h };
      holds = record { long = l; kept = refl; dropped = refl };
      state = ap (λ (q : Receiver). with_places q p) (state-fresh k);
      most = omega arith;
      least = λ h. absurd (omega arith);
    }

-- a new meter carries the account of no calls
pub new-carries : Carries (λ s. fresh_part 1) new_meter
unfolding new_meter made_for
new-carries = record { streams = fresh; places = omega arith }
  where
    fresh : (s : Side) → CarriesPart (fresh_part 1) (receiver_of s new_meter)
    fresh one =
        fresh-carried 1 (omega arith) (omega arith) (receiver_of one new_meter).places
        (record { positions = refl; numbers = refl; times = refl })
    fresh two =
        fresh-carried 1 (omega arith) (omega arith) (receiver_of two new_meter).places
        (record { positions = refl; numbers = refl; times = refl })

-- a stream that is started afresh
started-own : (s : Side) (k : ℕ) (m : Meter) → AllPlaces (receiver_of s m).places → 1 ≤ k → k ≤ sent_most
    → CarriesPart (fresh_part k) (receiver_of s (with_stream s (stream_in (made_for k)) m))
started-own one k m l low high = fresh-carried k low high (receiver_of one m).places l
started-own two k m l low high = fresh-carried k low high (receiver_of two m).places l

-- and its neighbour
started-other : (s : Side) (k : ℕ) (m : Meter) → receiver_of (other s) (with_stream s (stream_in (made_for k)) m) ≡ receiver_of (other s) m
started-other one k m = refl
started-other two k m = refl

-- after a start the meter carries the account after it
pub carries-started : (account : Account) (m : Meter) (g : Carries account m) (s : Side) (k : ℕ) → 1 ≤ k → k ≤ sent_most
    → Carries (with_part s (fresh_part k) account) (with_stream s (stream_in (made_for k)) m)
carries-started account m g s k low high =
    record {
      streams =
          either (λ (t : Side). CarriesPart (with_part s (fresh_part k) account t) (receiver_of t (with_stream s (stream_in (made_for k)) m))) s
          (rw (own-part s (fresh_part k) account) (started-own s k m (g.streams s).holds.long low high))
          (rw (other-part s (fresh_part k) account, started-other s k m) (g.streams (other s)));
      places =
          let w : length (account (other s)).window ≤ most_kept = (g.streams (other s)).most in
          own-together s (with_part s (fresh_part k) account)
          (rw (own-part s (fresh_part k) account, other-part s (fresh_part k) account) (omega arith));
    }
