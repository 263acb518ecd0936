-- Demand 3 holds on a meter: by one induction over the calls the meter carries the account (`calls-carry`). A call on no stream changes
-- nothing; an arrival on a stream goes by `carries-step` and `carries-after`, and a start is refused by 4 and changes nothing, or goes by
-- `carries-started`. So each reply is the account's (`reply-agrees`), which is never 10 (`never-unfit`), and a reordered packet is
-- answered as a receiver's is, for the split by the stream's window (`late-answered`). After the calls a stream's counts are those of its
-- part, and its window is the last of its jumps: all of them where none was dropped, else 16 or more (`stream-agrees`).
-- Here m is the meter, s a stream, o the stream of a call, if it is on one, n its number, c a call, k is K, h a part of the account, and g
-- says that it is carried. Assumes nothing.
use Prim.Native.Nat.{ℕ, ◌+◌, ◌-◌, ◌≤◌, min}
use mathlib.Core.Path.{◌≡◌, refl, sym, ap, subst, ◌∙◌}
use mathlib.Core.Bool.{Bool, true, false, cond}
use mathlib.Core.List.{List, [], ◌∷◌, ◌++◌}
use mathlib.Core.Option.{Option, none, some}
use native.Mathlib.Omega.{arith}
use lib.Dec.{ltb, eqb}
use lib.ListN.{length, drop, length-append}
use lib.Seq.{drop_at}
use borrow.Author.Tests.{ltb-true, ltb-false}
use Rattle.rfc4737.specs.declared.Arrival.{Arrival}
use Rattle.rfc4737.specs.Arrivals.{firsts, count}
use Rattle.rfc4737.specs.Order.{jumps}
use Rattle.rfc4737.specs.Runs.{counts, arrived, is_duplicate, is_in_order_answer}
use Rattle.rfc4737.specs.Refusals.{outside, refusal_if, sent_outside, state_unfit}
use Rattle.rfc4737.specs.Judge.{sent_most}
use Rattle.rfc4737.proofs.Lists.{snoc-ind, each_same}
use Rattle.rfc4737.proofs.Arrivals.{fold_more, count-each}
use Rattle.rfc4737.proofs.Due.{between}
use Rattle.rfc4737.proofs.Folds.{in-order-or-reordered}
use Rattle.receiver.specs.declared.Receiver.{Receiver}
use Rattle.receiver.specs.Step.{made_for, fresh_of}
use Rattle.receiver.specs.Account.{answers_in, outcome_in}
use Rattle.receiver.specs.Demand3.{Answered}
use Rattle.receiver.proofs.State.{state_with}
use Rattle.receiver.proofs.Fitness.{arrived-in, accepted-count}
use Rattle.receiver.proofs.Demand3.{outcome-fit, late-answered}
use Rattle.meter.specs.declared.Meter.{Meter}
use Rattle.meter.specs.declared.MeterStepAnswer.{MeterStepAnswer}
use Rattle.meter.specs.declared.MeterStartAnswer.{MeterStartAnswer}
use Rattle.meter.specs.Streams.{Side, one, two, side_of, receiver_of, stream_in, with_stream}
use Rattle.meter.specs.Step.{meter_step, not_started, start_on}
use Rattle.meter.specs.Account.{Call, arrives, starts, stream_number_of, Reply, said, started, Part, fresh_part, part_after, reply_in, Account, with_part, account_after, meter_account_of, account_reply}
use Rattle.meter.specs.Demand3.{met_after, reply_of, meter_after, meter_reply, refusal_said, stream_numbers, Agrees, MeterDemand3}
use Rattle.meter.proofs.CallsByStream.{account_for, reply_for}
use Rattle.meter.proofs.Meters.{step-fit, step_by, start-by}
use Rattle.meter.proofs.Carries.{CarriesPart, Carries, carries-fit, carries-step, carries-after, new-carries, carries-started}

-- ---- one call

-- a part put back is no change
same-part : (s : Side) (account : Account) → with_part s (account s) account ≡ account
same-part s account = λ i t. same s t i
  where
    same : (s t : Side) → with_part s (account s) account t ≡ account t
    same one one = refl
    same one two = refl
    same two one = refl
    same two two = refl

module _ (account : Account) (m : Meter) (g : Carries account m) where
  arrival-reply : (n : ℕ) (a : Arrival) → reply_of m (arrives n a) ≡ reply_for (side_of n) account (arrives n a)
  unfolding reply_in
  arrival-reply n a =
      step_by m n a.number a.time (carries-fit account m g) (λ o d. said d.outcome ≡ reply_for o account (arrives n a)) refl
      (λ s. ap (λ (d : MeterStepAnswer). said d.outcome) (carries-step account m g s a))

  arrival-carries : (n : ℕ) (a : Arrival) → Carries (account_for (side_of n) account (arrives n a)) (met_after m (arrives n a))
  unfolding part_after
  arrival-carries n a =
      step_by m n a.number a.time (carries-fit account m g) (λ o d. Carries (account_for o account (arrives n a)) d.state) g
      (λ s. subst (λ (d : MeterStepAnswer). Carries (account_for (some s) account (arrives n a)) d.state)
      (sym (carries-step account m g s a))
      (carries-after account m g s a))

  start-on : (s : Side) (k : ℕ) → start_on s m k
      ≡ cond (outside 1 sent_most k) (not_started sent_outside m) (record { refusal = 0; state = with_stream s (stream_in (made_for k)) m })
  unfolding start_on fresh_of
  start-on s k = go (outside 1 sent_most k)
    where
      go : (t : Bool)
          → cond {A = MeterStartAnswer} (eqb (refusal_if t sent_outside) 0)
          (record { refusal = 0; state = with_stream s (stream_in (made_for (cond t 1 k))) m })
          (not_started (refusal_if t sent_outside) m)
          ≡ cond t (not_started sent_outside m) (record { refusal = 0; state = with_stream s (stream_in (made_for k)) m })
      go true = refl
      go false = refl

  start-reply : (n k : ℕ) → reply_of m (starts n k) ≡ reply_for (side_of n) account (starts n k)
  unfolding reply_in
  start-reply n k =
      start-by m n k (carries-fit account m g) (λ o d. started d.refusal ≡ reply_for o account (starts n k)) refl
      (λ s. ap (λ (d : MeterStartAnswer). started d.refusal) (start-on s k) ∙ go s (outside 1 sent_most k))
    where
      go : (s : Side) (t : Bool)
          → started (cond {A = MeterStartAnswer} t (not_started sent_outside m)
          (record { refusal = 0; state = with_stream s (stream_in (made_for k)) m })).refusal
          ≡ started (refusal_if t sent_outside)
      go s true = refl
      go s false = refl

  start-carries : (n k : ℕ) → Carries (account_for (side_of n) account (starts n k)) (met_after m (starts n k))
  unfolding part_after
  start-carries n k =
      start-by m n k (carries-fit account m g) (λ o d. Carries (account_for o account (starts n k)) d.state) g
      (λ s. subst (λ (d : MeterStartAnswer). Carries (account_for (some s) account (starts n k)) d.state) (sym (start-on s k))
      (go s (outside 1 sent_most k) refl))
    where
      go : (s : Side) (t : Bool) → outside 1 sent_most k ≡ t
          → Carries (with_part s (cond t (account s) (fresh_part k)) account)
          (cond {A = MeterStartAnswer} t (not_started sent_outside m)
          (record { refusal = 0; state = with_stream s (stream_in (made_for k)) m })).state
      go s true e = subst (λ (acc : Account). Carries acc m) (sym (same-part s account)) g
      go s false e = let w = between 1 sent_most k e in carries-started account m g s k w.0 w.1

  call-reply : (c : Call) → reply_of m c ≡ reply_for (side_of (stream_number_of c)) account c
  call-reply (arrives n a) = arrival-reply n a
  call-reply (starts n k) = start-reply n k

  call-carries : (c : Call) → Carries (account_for (side_of (stream_number_of c)) account c) (met_after m c)
  call-carries (arrives n a) = arrival-carries n a
  call-carries (starts n k) = start-carries n k

-- ---- all calls

-- after any calls the meter carries their account
pub calls-carry : (calls : List Call) → Carries (meter_account_of calls) (meter_after calls)
unfolding meter_account_of meter_after account_after
calls-carry = snoc-ind (λ (calls : List Call). Carries (meter_account_of calls) (meter_after calls)) more new-carries
  where
    more : (calls : List Call) (c : Call) → Carries (meter_account_of calls) (meter_after calls)
        → Carries (meter_account_of (calls ++ (c ∷ []))) (meter_after (calls ++ (c ∷ [])))
    more calls c g =
        let a : meter_account_of (calls ++ (c ∷ [])) ≡ account_for (side_of (stream_number_of c)) (meter_account_of calls) c =
        fold_more _ _ calls c in
        let b : meter_after (calls ++ (c ∷ [])) ≡ met_after (meter_after calls) c = fold_more _ _ calls c in
        subst (λ (acc : Account). Carries acc (meter_after (calls ++ (c ∷ [])))) (sym a)
        (subst (Carries (account_for (side_of (stream_number_of c)) (meter_account_of calls) c)) (sym b)
        (call-carries (meter_account_of calls) (meter_after calls) g c))

-- each call is replied to as the account says
pub reply-agrees : (earlier : List Call) (c : Call) → meter_reply earlier c ≡ account_reply earlier c
unfolding meter_reply account_reply
reply-agrees earlier c = call-reply (meter_account_of earlier) (meter_after earlier) (calls-carry earlier) c

-- the account never says 10
never-unfit : (account : Account) (o : Option Side) (c : Call) → eqb (refusal_said (reply_for o account c)) state_unfit ≡ false
unfolding reply_in
never-unfit account none (arrives n a) = refl
never-unfit account none (starts n k) = refl
never-unfit account (some s) (arrives n a) = outcome-fit (account s).window (account s).sent (account s).accepted a
never-unfit account (some s) (starts n k) = go (outside 1 sent_most k)
  where
    go : (t : Bool) → eqb (refusal_if t sent_outside) state_unfit ≡ false
    go true = refl
    go false = refl

-- the case noted of an arrival on a stream
noted-agrees : (earlier : List Call) (n : ℕ) (a : Arrival) (s : Side) → side_of n ≡ some s
    → (meter_step (meter_after earlier) n a.number a.time).outcome.noted
    ≡ (outcome_in (meter_account_of earlier s).window (meter_account_of earlier s).sent (meter_account_of earlier s).accepted a).noted
noted-agrees earlier n a s e =
    let account = meter_account_of earlier in
    let m = meter_after earlier in
    let g = calls-carry earlier in
    ap (λ (d : MeterStepAnswer). d.outcome.noted) (sym (step-fit m n a.number a.time s e (carries-fit account m g))
    ∙ carries-step account m g s a)

-- what a stream holds after the calls
stream-agrees : (s : Side) (calls : List Call) → Agrees s calls
unfolding counts state_with
stream-agrees s calls =
    let h : Part = meter_account_of calls s in
    let g : CarriesPart h (receiver_of s (meter_after calls)) = (calls-carry calls).streams s in
    let arrived-eq : (stream_numbers s calls).arrived ≡ arrived (answers_in h.accepted) =
    ap (λ (r : Receiver). r.stream.arrived) g.state ∙ sym (arrived-in h.accepted) in
    let duplicates-eq : (stream_numbers s calls).duplicates ≡ count is_duplicate (answers_in h.accepted) =
    ap (λ (r : Receiver). r.stream.duplicates) g.state in
    let inorder-eq : (stream_numbers s calls).inorder ≡ count is_in_order_answer (answers_in h.accepted) =
    ap (λ (r : Receiver). r.stream.inorder) g.state in
    let reordered-eq = in-order-or-reordered (answers_in h.accepted) in
    let accepted-eq = accepted-count h.accepted in
    let first-eq = arrived-in h.accepted in
    let all : length (jumps (firsts h.accepted)) ≡ length g.dropped + length h.window =
    ap length (sym g.split.parts) ∙ length-append g.dropped h.window in
    record {
      arrived = arrived-eq;
      duplicates = duplicates-eq;
      inorder = inorder-eq;
      runs = ap (λ (r : Receiver). r.stream.runs) g.state;
      sum = omega arith;
      kept = g.holds.kept;
      last =
          let n : length g.dropped ≡ length (jumps (firsts h.accepted)) - length h.window = omega arith in
          sym (ap (drop (length (jumps (firsts h.accepted)) - length h.window)) (sym g.split.parts)
          ∙ drop_at g.dropped h.window (length (jumps (firsts h.accepted)) - length h.window) n);
      least = at_least (length g.dropped) (length h.window) (length (jumps (firsts h.accepted))) all g.least;
      most = g.most;
    }
  where
    at_least : (d w n : ℕ) → n ≡ d + w → (1 ≤ d → 16 ≤ w) → min 16 n ≤ w
    at_least d w n e l = go (ltb 0 d) refl
      where
        go : (t : Bool) → ltb 0 d ≡ t → min 16 n ≤ w
        go true q = let k : 16 ≤ w = l (ltb-true _ _ q) in omega arith
        go false q = let k : d ≤ 0 = ltb-false _ _ q in omega arith

pub demand3 : (calls : List Call) → MeterDemand3 calls
unfolding account_reply
demand3 calls =
    record {
      replies = each_same meter_reply account_reply reply-agrees calls;
      fit =
          count-each (λ (r : Reply). eqb (refusal_said r) state_unfit) meter_reply
          (λ earlier c. rw reply-agrees (never-unfit (meter_account_of earlier) (side_of (stream_number_of c)) c)) calls;
      reordered = λ earlier n a later split s e z d q.
          let g : CarriesPart (meter_account_of earlier s) (receiver_of s (meter_after earlier)) = (calls-carry earlier).streams s in
          subst (Answered (meter_account_of earlier s).window (meter_account_of earlier s).accepted a d) (sym (noted-agrees earlier n a s e))
          (late-answered (meter_account_of earlier s).sent (meter_account_of earlier s).accepted g.dropped
          (meter_account_of earlier s).window g.split a z d q);
      streams = λ s. stream-agrees s calls;
      places = (calls-carry calls).places;
    }
