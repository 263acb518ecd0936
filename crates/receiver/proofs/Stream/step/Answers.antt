-- The outcome decided is the step's, and the parts written make its state: with a refusal nothing is written (`step-refused`); else the
-- case noted says what is written, and a law of StatesWritten that this is the step's state (`step-noted`). What is called may be called
-- since an arrival that is not refused finds a fit state (`said-accepted`), whose numbers are small.
use Rattle.std.proofs.Common.{true, refl, arith}
use Rattle.std.proofs.lemmas.Result.{err_from_is_err_and}
use Rattle.rfc4737.proofs.Refused.{number-above}
use Rattle.receiver.proofs.StepCases.{said-accepted, step-refused, step-noted}
use Rattle.receiver.proofs.StatesWritten.{duplicate-written, in-order-written, jump-written, late-written}
use Rattle.receiver.proofs.Stream.step.Goals as goal

pub returns-in_err-noted : goal.returns-in_err-noted
returns-in_err-noted c =
    let p = err_from_is_err_and c.from_residual.result c.from_residual.ensures.1 in
    rw (p.1, p.2)
    (step-refused _ _ _ _ _ c.in_err-noted.ensures (λ z. omega (arith, number-above c.in_err-noted.field-0.0)))

pub count_duplicate-requires : goal.count_duplicate-requires
count_duplicate-requires c =
    let a = said-accepted _ _ _ true _ c.in_ok-noted.ensures refl in
    omega (arith, a.stream.accepted-high)

pub mark-requires : goal.mark-requires
mark-requires c =
    let a = said-accepted _ _ _ true _ c.in_ok-noted.ensures refl in
    (a.number-low, omega (arith, a.number-high, a.stream.sent-high))

pub count_in_order-requires : goal.count_in_order-requires
count_in_order-requires c =
    let a = said-accepted _ _ _ true _ c.in_ok-noted.ensures refl in
    (a.stream, omega (arith, a.number-high, a.stream.sent-high))

pub overflow_cast-jump : goal.overflow_cast-jump
overflow_cast-jump c =
    let a = said-accepted _ _ _ true _ c.in_ok-noted.ensures refl in
    rw c.count_in_order.ensures (record { fits = omega (arith, a.stream.arrived-high, a.stream.sent-high) })

pub overflow_cast-jump-then-size-ne0 : goal.overflow_cast-jump-then-size-ne0
overflow_cast-jump-then-size-ne0 c =
    let a = said-accepted _ _ _ true _ c.in_ok-noted.ensures refl in
    record { fits = omega (arith, a.number-high, a.stream.sent-high) }

pub keep-requires : goal.keep-requires
keep-requires c =
    let a = said-accepted _ _ _ true _ c.in_ok-noted.ensures refl in
    rw c.count_in_order.ensures (a.places.kept_high, (omega (arith, c.room.ensures), omega (arith, c.room.ensures)))

pub mark-requires-in-Exact : goal.mark-requires-in-Exact
mark-requires-in-Exact c =
    let a = said-accepted _ _ _ true _ c.in_ok-noted.ensures refl in
    (a.number-low, omega (arith, a.number-high, a.stream.sent-high))

pub count_reordered-requires : goal.count_reordered-requires
count_reordered-requires c =
    let a = said-accepted _ _ _ true _ c.in_ok-noted.ensures refl in
    (a.stream, omega (arith, a.number-high, a.stream.sent-high))

pub returns-in-Duplicate : goal.returns-in-Duplicate
returns-in-Duplicate c =
    step-noted _ _ _ _ _ c.in_ok-noted.ensures _ refl
    (rw c.in-Duplicate.is (duplicate-written _ _ _ _ _ c.count_duplicate.ensures))

pub returns-then-size-ne0 : goal.returns-then-size-ne0
returns-then-size-ne0 c =
    let h = rw (c.count_in_order.ensures, c.room.ensures) at c.keep.ensures.jumps in
    step-noted _ _ _ _ _ (rw c.in-InOrder.is at c.in_ok-noted.ensures) _ refl
    (jump-written _ _ _ _ _ _ _ c.mark.ensures c.count_in_order.ensures _ _ c.if-size-ne0.true h c.keep.ensures.numbers)

pub returns-else-size-ne0 : goal.returns-else-size-ne0
returns-else-size-ne0 c =
    step-noted _ _ _ _ _ (rw c.in-InOrder.is at c.in_ok-noted.ensures) _ refl
    (in-order-written _ _ _ _ _ _ _ c.mark.ensures c.count_in_order.ensures c.if-size-ne0.false)

pub returns-in-Exact : goal.returns-in-Exact
returns-in-Exact c =
    step-noted _ _ _ _ _ c.in_ok-noted.ensures _ refl
    (late-written _ _ _ _ _ _ _ c.in-Exact.is c.count_reordered.ensures c.mark-in-Exact.ensures)
