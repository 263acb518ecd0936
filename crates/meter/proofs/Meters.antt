-- The rule of a meter case by case, as the code meets it: where the tests before are known, the definition computes to the case. Each
-- stream of a fit meter keeps at most 48 jumps, so beside its neighbour it can keep 16 or more, and a new jump takes a place exactly while
-- it keeps fewer than it can (`room-beside`); so the receiver's step that keeps at most that many is the step on the stream
-- (`step_kept`). A refused call leaves an equal meter (`step-refused`, `start-refused`): either the meter itself is handed back, or a
-- receiver that the refused step left equal is put back where it was. Here m is the meter, n the number of a stream, s the stream, o the
-- stream if there is one, k is K, r a receiver or what `fresh` gave, x the step's answer, own and beside are the jumps that a stream and
-- its neighbour keep, and t and u are outcomes of tests. Assumes nothing.
use Prim.Native.Nat.{ℕ, zero, suc, ◌+◌, ◌-◌, ◌≤◌, ◌<◌, min, max}
use mathlib.Core.Path.{◌≡◌, refl, sym, ap, subst, ◌∙◌}
use mathlib.Core.Bool.{Bool, true, false, cond, ◌&&◌, true≢false}
use mathlib.Core.List.{List, []}
use mathlib.Core.Option.{Option, none, some}
use native.Mathlib.Omega.{arith}
use lib.Dec.{leb, ltb, eqb}
use lib.ListN.{replicate}
use borrow.Author.Tests.{leb-true, ltb-false, lt-ltb, le-ltb, eq-eqb, ne_eqb}
use Rattle.rfc4737.specs.Refusals.{outside, sent_outside, state_unfit, no_stream}
use Rattle.rfc4737.specs.Judge.{sent_most}
use Rattle.rfc4737.proofs.Due.{between, not-outside}
use Rattle.receiver.specs.declared.Stream.{Stream}
use Rattle.receiver.specs.declared.Places.{Places}
use Rattle.receiver.specs.declared.Receiver.{Receiver}
use Rattle.receiver.specs.declared.StepAnswer.{StepAnswer}
use Rattle.receiver.specs.declared.FreshAnswer.{FreshAnswer}
use Rattle.receiver.specs.Limits.{window_places}
use Rattle.receiver.specs.Outcomes.{refused_outcome}
use Rattle.receiver.specs.Marks.{mark_words}
use Rattle.receiver.specs.Parts.{oldest_first, whole}
use Rattle.receiver.specs.Fit.{every, fit}
use Rattle.receiver.specs.Step.{fresh_stream, made_for, fresh_of, step_refusal, outcome_of, step_with, step_within}
use Rattle.receiver.proofs.Fits.{and-true}
use Rattle.receiver.proofs.StepCases.{refused-equal}
use Rattle.meter.specs.declared.Meter.{Meter}
use Rattle.meter.specs.declared.MeterStepAnswer.{MeterStepAnswer}
use Rattle.meter.specs.declared.MeterStartAnswer.{MeterStartAnswer}
use Rattle.meter.specs.Streams.{Side, one, two, side_of, other, shared, most_kept, free_beside, takes_place, facing, receiver_of, stream_in, with_stream, with_receiver, kept_in, free}
use Rattle.meter.specs.Lent.{AsMeterStep, AsMeterStart}
use Rattle.meter.specs.Private.{few_kept}
use Rattle.meter.specs.Whole.{whole_meter}
use Rattle.meter.specs.Step.{fit_on_meter, meter_fit, not_stepped, step_on, meter_step, not_started, start_on, meter_start}
use Rattle.meter.proofs.PlacesFacing.{put_back, facing-back}
use Rattle.meter.proofs.KeptJumps.{takes}

-- ---- the stream of a number

-- none has a number outside 1 to 2
pub side-outside : (n : ℕ) → outside 1 2 n ≡ true → side_of n ≡ none
unfolding side_of
side-outside n e = simp (ne_eqb n 1 (apart 1 (omega arith) (omega arith)), ne_eqb n 2 (apart 2 (omega arith) (omega arith)))
  where
    apart : (m : ℕ) → 1 ≤ m → m ≤ 2 → n ≡ m → ⊥
    apart m low high d = true≢false (sym e ∙ not-outside 1 2 n (omega arith) (omega arith))

pub side-one : (n : ℕ) → n ≡ 1 → side_of n ≡ some one
unfolding side_of
side-one n a = simp (eq-eqb n 1 a)

pub side-two : (n : ℕ) → n ≡ 2 → side_of n ≡ some two
unfolding side_of
side-two n a = rw a

-- any other is one's
pub side-known : (n : ℕ) → outside 1 2 n ≡ false → (s : Side) × (side_of n ≡ some s)
side-known n e = go n (between 1 2 n e).0 (between 1 2 n e).1
  where
    go : (n : ℕ) → 1 ≤ n → n ≤ 2 → (s : Side) × (side_of n ≡ some s)
    go zero a h = absurd (omega arith)
    go (suc zero) a h = (one, side-one 1 refl)
    go (suc (suc zero)) a h = (two, side-two 2 refl)
    go (suc (suc (suc n))) a h = absurd (omega arith)

-- ---- fit meters

-- the tests of a fit meter in another order: how many jumps are kept, and then each stream
spread : (a b d f g : Bool) → (a && f) && ((b && g) && (d && true)) ≡ ((a && (b && d)) && (f && g))
spread false b d f g = refl
spread true false d false g = refl
spread true false d true g = refl
spread true true false false g = refl
spread true true true false g = refl
spread true true false true false = refl
spread true true false true true = refl
spread true true true true false = refl
spread true true true true true = refl

-- two tests in the other order
turned-and : (a b : Bool) → (a && b) ≡ (b && a)
turned-and true true = refl
turned-and true false = refl
turned-and false true = refl
turned-and false false = refl

module _ (m : Meter) where
  -- so few jumps are kept
  abbrev few : Bool
  few = few_kept (kept_in one m) (kept_in two m)

  -- a meter is fit exactly if they keep few jumps and both are fit as receivers
  pub fit_parts : (few && (fit (receiver_of one m) && fit (receiver_of two m))) ≡ meter_fit m
  unfolding meter_fit every fit_on_meter
  fit_parts =
      sym (spread (leb (kept_in one m) most_kept) (leb (kept_in two m) most_kept) (leb (kept_in one m + kept_in two m) shared)
      (fit (receiver_of one m)) (fit (receiver_of two m)))

  -- the neighbour first
  fit-beside : (s : Side) → (few && (fit (receiver_of (other s) m) && fit (receiver_of s m))) ≡ meter_fit m
  fit-beside one = ap (λ (t : Bool). few && t) (turned-and (fit (receiver_of two m)) (fit (receiver_of one m))) ∙ fit_parts
  fit-beside two = fit_parts

  -- few jumps are at most 48 each
  pub few-each : few ≡ true → (s : Side) → kept_in s m ≤ most_kept
  few-each e one = leb-true _ _ (and-true (leb (kept_in one m) most_kept) _ e).0
  few-each e two = leb-true _ _ (and-true (leb (kept_in two m) most_kept) _ (and-true (leb (kept_in one m) most_kept) _ e).1).0

  -- the receivers of both, whatever the marks
  pub fit-one : fit (whole m.first.stream [] (oldest_first false m.places.positions) (oldest_first false m.places.numbers)
      (oldest_first false m.places.times))
      ≡ fit (receiver_of one m)
  unfolding fit oldest_first
  fit-one = refl

  pub fit-two : fit (whole m.second.stream [] (oldest_first true m.places.positions) (oldest_first true m.places.numbers)
      (oldest_first true m.places.times))
      ≡ fit (receiver_of two m)
  unfolding fit oldest_first
  fit-two = refl

-- ---- the step on a stream

-- a new jump takes a place while the stream keeps fewer than it can beside its neighbour
room-beside : (own beside : ℕ) → beside ≤ most_kept
    → ltb own (max 1 (min (min most_kept (shared - beside)) window_places)) ≡ takes_place own (free_beside own beside)
room-beside own beside h = go (takes_place own (free_beside own beside)) refl
  where
    go : (t : Bool) → takes_place own (free_beside own beside) ≡ t → ltb own (max 1 (min (min most_kept (shared - beside)) window_places)) ≡ t
    go true e =
        let a = takes own beside e in
        let l : own < most_kept = a.0 in
        let k : own + beside < window_places = a.1 in
        let m : own < max 1 (min (min most_kept (shared - beside)) window_places) = omega arith in
        lt-ltb _ _ m
    go false e =
        let l : min most_kept (shared - beside) ≤ own = least (ltb own most_kept) refl e in
        let m : max 1 (min (min most_kept (shared - beside)) window_places) ≤ own = omega arith in
        le-ltb _ _ m
      where
        least : (t : Bool) → ltb own most_kept ≡ t → t && ltb 0 (free_beside own beside) ≡ false → min most_kept (shared - beside) ≤ own
        least true q f = let k : shared - (own + beside) ≤ 0 = ltb-false _ _ f in omega arith
        least false q f = let k : most_kept ≤ own = ltb-false _ _ q in omega arith

-- the free places beside a stream and its neighbour
free-beside : (s : Side) (m : Meter) → free_beside (kept_in s m) (kept_in (other s) m) ≡ free m
free-beside one m = refl
free-beside two m =
    let e : kept_in two m + kept_in one m ≡ kept_in one m + kept_in two m = omega arith in
    ap (λ (n : ℕ). shared - n) e

-- the receiver's step, keeping at most `most` jumps, is the step on a stream of a fit meter
step_kept : (s : Side) (m : Meter) (number time most : ℕ) (x : StepAnswer)
    → kept_in (other s) m ≤ most_kept
    → most ≡ min most_kept (shared - kept_in (other s) m)
    → x ≡ step_within most (receiver_of s m) number time
    → ◌≡◌ {A = MeterStepAnswer} (record { outcome = x.outcome; state = with_receiver s x.state m }) (step_on s m number time)
unfolding step_on
step_kept s m number time most x few e known =
    let room : ltb (kept_in s m) (max 1 (min (min most_kept (shared - kept_in (other s) m)) window_places)) ≡ takes_place (kept_in s m) (free m) =
    room-beside (kept_in s m) (kept_in (other s) m) few ∙ ap (takes_place (kept_in s m)) (free-beside s m) in
    let done : x ≡ step_with (takes_place (kept_in s m) (free m)) (receiver_of s m) number time =
    known
    ∙ ap (λ (n : ℕ). step_within n (receiver_of s m) number time) e
    ∙ ap (λ (t : Bool). step_with t (receiver_of s m) number time) room in
    ap (λ (y : StepAnswer). record { outcome = y.outcome; state = with_receiver s y.state m }) done

-- a meter of parts in which stream 2 was written, its places counted from the last down
pub second-put : (m : Meter) (s : Stream) (marks : List ℕ) (p : Places)
    → whole_meter m.first.stream s m.first.marks marks p
    ≡ with_receiver two (record { stream = s; marks = marks; places = facing two p }) m
second-put m s marks p = sym (ap (λ (q : Places). whole_meter m.first.stream s m.first.marks marks q) (facing-back p))

-- ---- the cases of a step

module _ (m : Meter) (n number time : ℕ) where
  pub step-nowhere : side_of n ≡ none → not_stepped no_stream m ≡ meter_step m n number time
  unfolding meter_step
  step-nowhere e = rw e

  step-unfit : (s : Side) → side_of n ≡ some s → meter_fit m ≡ false → not_stepped state_unfit m ≡ meter_step m n number time
  unfolding meter_step
  step-unfit s e f = rw (e, f)

  pub step-fit : (s : Side) → side_of n ≡ some s → meter_fit m ≡ true → step_on s m number time ≡ meter_step m n number time
  unfolding meter_step
  step-fit s e f = rw (e, f)

  -- what holds of the refusal on no stream, and of the step on each, holds of the step of a fit meter, by the stream of its number
  pub step_by : meter_fit m ≡ true → (P : Option Side → MeterStepAnswer → Type 0) → P none (not_stepped no_stream m)
      → ((s : Side) → P (some s) (step_on s m number time)) → P (side_of n) (meter_step m n number time)
  step_by f P nowhere on = go (side_of n) refl
    where
      go : (o : Option Side) → side_of n ≡ o → P o (meter_step m n number time)
      go none e = subst (P none) (step-nowhere e) nowhere
      go (some s) e = subst (P (some s)) (step-fit s e f) (on s)

  -- a stream that is unfit refuses its step by itself, and so does the meter then
  unfit-refused : (s : Side) → fit (receiver_of s m) ≡ false → step_on s m number time ≡ not_stepped state_unfit m
  unfolding step_on step_with outcome_of step_refusal
  unfit-refused s e = rw e (ap (λ (x : Meter). record { outcome = refused_outcome state_unfit; state = x }) (put_back s m))

  -- where few jumps are kept and the neighbour is fit, the step is the stream's, fit or not
  module _ (s : Side) (e : side_of n ≡ some s) (k : few_kept (kept_in one m) (kept_in two m) ≡ true) (b : fit (receiver_of (other s) m) ≡ true)
    where
      own-fit : fit (receiver_of s m) ≡ meter_fit m
      own-fit = rw (k, b) at (fit-beside m s)

      pub step-own : step_on s m number time ≡ meter_step m n number time
      step-own = go (fit (receiver_of s m)) refl
        where
          go : (t : Bool) → fit (receiver_of s m) ≡ t → step_on s m number time ≡ meter_step m n number time
          go true q = step-fit s e (sym own-fit ∙ q)
          go false q = unfit-refused s q ∙ step-unfit s e (sym own-fit ∙ q)

      -- the step on its parts: x is the receiver's, and m' the meter with what it leaves
      pub stepped : (most : ℕ) (x : StepAnswer) (m' : Meter) → most ≡ min most_kept (shared - kept_in (other s) m)
          → x ≡ step_within most (receiver_of s m) number time → m' ≡ with_receiver s x.state m
          → ◌≡◌ {A = MeterStepAnswer} (record { outcome = x.outcome; state = m' }) (meter_step m n number time)
      stepped most x m' q known w =
          ap (λ (y : Meter). record { outcome = x.outcome; state = y }) w
          ∙ step_kept s m number time most x (few-each m k (other s)) q known
          ∙ step-own

  -- too many jumps are kept
  pub step-many : (s : Side) → side_of n ≡ some s → few_kept (kept_in one m) (kept_in two m) ≡ false
      → not_stepped state_unfit m ≡ meter_step m n number time
  step-many s e k = step-unfit s e (sym (rw k at (fit_parts m)))

  -- the neighbour is unfit
  pub step-beside : (s : Side) → side_of n ≡ some s → few_kept (kept_in one m) (kept_in two m) ≡ true → fit (receiver_of (other s) m) ≡ false
      → not_stepped state_unfit m ≡ meter_step m n number time
  step-beside s e k b = step-unfit s e (sym (rw (k, b) at (fit-beside m s)))

  -- the stream's step, as it is made beside its neighbour
  pub beside-stepped : (s : Side) → side_of n ≡ some s → few_kept (kept_in one m) (kept_in two m) ≡ true → (x : StepAnswer) (m' : Meter)
      → x ≡ cond (fit (receiver_of (other s) m))
      (step_within (min most_kept (shared - kept_in (other s) m)) (receiver_of s m) number time)
      (record { outcome = refused_outcome state_unfit; state = receiver_of s m })
      → m' ≡ with_receiver s x.state m
      → ◌≡◌ {A = MeterStepAnswer} (record { outcome = x.outcome; state = m' }) (meter_step m n number time)
  beside-stepped s e k x m' known w = go (fit (receiver_of (other s) m)) refl known
    where
      go : (t : Bool) → fit (receiver_of (other s) m) ≡ t
          → x ≡ cond t (step_within (min most_kept (shared - kept_in (other s) m)) (receiver_of s m) number time)
          (record { outcome = refused_outcome state_unfit; state = receiver_of s m })
          → ◌≡◌ {A = MeterStepAnswer} (record { outcome = x.outcome; state = m' }) (meter_step m n number time)
      go true b q = stepped s e k b (min most_kept (shared - kept_in (other s) m)) x m' refl q w
      go false b q =
          ap (λ (y : Meter). record { outcome = x.outcome; state = y }) w
          ∙ ap (λ (y : StepAnswer). record { outcome = y.outcome; state = with_receiver s y.state m }) q
          ∙ ap (λ (y : Meter). record { outcome = refused_outcome state_unfit; state = y }) (put_back s m)
          ∙ step-beside s e k b

  -- a refused arrival leaves an equal meter
  abbrev Leaves : MeterStepAnswer → Type 0
  Leaves d = (d.outcome.refusal ≡ 0 → ⊥) → d.state ≡ m

  on-leaves : (s : Side) → Leaves (step_on s m number time)
  unfolding step_on
  on-leaves s h =
      ap (λ (r : Receiver). with_receiver s r m) (refused-equal (takes_place (kept_in s m) (free m)) (receiver_of s m) number time h)
      ∙ put_back s m

  pub step-refused : ((meter_step m n number time).outcome.refusal ≡ 0 → ⊥) → (meter_step m n number time).state ≡ m
  step-refused = go (side_of n) refl (meter_fit m) refl
    where
      go : (o : Option Side) → side_of n ≡ o → (t : Bool) → meter_fit m ≡ t → Leaves (meter_step m n number time)
      go none e t f = subst Leaves (step-nowhere e) (λ h. refl)
      go (some s) e true f = subst Leaves (step-fit s e f) (on-leaves s)
      go (some s) e false f = subst Leaves (step-unfit s e f) (λ h. refl)

  -- an answer that is the step's is as the contract of a step in place says
  pub as-step : (d : MeterStepAnswer) → d ≡ meter_step m n number time → AsMeterStep m n number time d.outcome d.state
  as-step d e = (
    ap (λ (p : MeterStepAnswer). p.outcome) e,
    ap (λ (p : MeterStepAnswer). p.state) e,
    λ refusal. ap (λ (p : MeterStepAnswer). p.state) e
        ∙ step-refused (λ none. refusal (ap (λ (p : MeterStepAnswer). p.outcome.refusal) e ∙ none)),
  )

-- ---- the cases of a start

module _ (m : Meter) (n k : ℕ) where
  pub start-nowhere : side_of n ≡ none → not_started no_stream m ≡ meter_start m n k
  unfolding meter_start
  start-nowhere e = rw e

  pub start-unfit : (s : Side) → side_of n ≡ some s → meter_fit m ≡ false → not_started state_unfit m ≡ meter_start m n k
  unfolding meter_start
  start-unfit s e f = rw (e, f)

  start-fit : (s : Side) → side_of n ≡ some s → meter_fit m ≡ true → start_on s m k ≡ meter_start m n k
  unfolding meter_start
  start-fit s e f = rw (e, f)

  -- the start of a fit meter, by the stream of its number
  pub start-by : meter_fit m ≡ true → (P : Option Side → MeterStartAnswer → Type 0) → P none (not_started no_stream m)
      → ((s : Side) → P (some s) (start_on s m k)) → P (side_of n) (meter_start m n k)
  start-by f P nowhere on = go (side_of n) refl
    where
      go : (o : Option Side) → side_of n ≡ o → P o (meter_start m n k)
      go none e = subst (P none) (start-nowhere e) nowhere
      go (some s) e = subst (P (some s)) (start-fit s e f) (on s)

  module _ (s : Side) (e : side_of n ≡ some s) (f : meter_fit m ≡ true) where
    -- K is refused
    pub start_outside : outside 1 sent_most k ≡ true → not_started sent_outside m ≡ meter_start m n k
    unfolding meter_start start_on fresh_of
    start_outside h = rw (e, f, h)

    -- or not
    pub start-done : outside 1 sent_most k ≡ false
        → ◌≡◌ {A = MeterStartAnswer} (record {
          refusal = 0;
          state = with_stream s
              (record { stream = fresh_stream k; marks = replicate mark_words 0 }) m;
        }) (meter_start m n k)
    unfolding meter_start start_on fresh_of made_for
    start-done h = rw (e, f, h)

  -- a refused start leaves an equal meter
  abbrev StartLeaves : MeterStartAnswer → Type 0
  StartLeaves d = (d.refusal ≡ 0 → ⊥) → d.state ≡ m

  on-start-leaves : (s : Side) → StartLeaves (start_on s m k)
  unfolding start_on
  on-start-leaves s = fresh (fresh_of k) (eqb (fresh_of k).refusal 0)
    where
      fresh : (r : FreshAnswer) (t : Bool)
          → StartLeaves (cond {A = MeterStartAnswer} t (record { refusal = 0; state = with_stream s (stream_in r.state) m })
          (not_started r.refusal m))
      fresh r true h = absurd (h refl)
      fresh r false h = refl

  pub start-refused : ((meter_start m n k).refusal ≡ 0 → ⊥) → (meter_start m n k).state ≡ m
  start-refused = go (side_of n) refl (meter_fit m) refl
    where
      go : (o : Option Side) → side_of n ≡ o → (t : Bool) → meter_fit m ≡ t → StartLeaves (meter_start m n k)
      go none e t f = subst StartLeaves (start-nowhere e) (λ h. refl)
      go (some s) e true f = subst StartLeaves (start-fit s e f) (on-start-leaves s)
      go (some s) e false f = subst StartLeaves (start-unfit s e f) (λ h. refl)

  -- an answer that is the start's is as the contract of a start in place says
  pub as-start : (d : MeterStartAnswer) → d ≡ meter_start m n k → AsMeterStart m n k (refused_outcome d.refusal) d.state
  as-start d e = (
    ap (λ (p : MeterStartAnswer). refused_outcome p.refusal) e,
    ap (λ (p : MeterStartAnswer). p.state) e,
    λ refusal. ap (λ (p : MeterStartAnswer). p.state) e
        ∙ start-refused (λ none. refusal (ap (λ (p : MeterStartAnswer). p.refusal) e ∙ none)),
  )
