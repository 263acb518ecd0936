-- Each return is a case of the definition, in its order. Past the first test there is no refusal, so the number lies in 1 to K and the state
-- is fit, which `is_marked` and `note_reordered` ask for.
use Rattle.std.proofs.Common.{sym, ◌∙◌, arith}
use Rattle.std.proofs.lemmas.Result.{err_from_is_err_and}
use Rattle.rfc4737.proofs.Refused.{number-above}
use Rattle.receiver.specs.Step.{step_refusal}
use Rattle.receiver.specs.Fit.{fit}
use Rattle.receiver.proofs.StepCases.{accepted-facts, outcome-refused, outcome-duplicate, outcome-in-order, outcome-late}
use Rattle.receiver.proofs.Stream.decide.Goals as goal

pub returns-in_err-check : goal.returns-in_err-check
unfolding step_refusal fit
returns-in_err-check c =
    let p = err_from_is_err_and c.from_residual.result c.from_residual.ensures.1 in
    rw (p.1, p.2)
    (outcome-refused _ _ _ _ (λ z. omega (arith, number-above c.in_err-check.field-0.0)) c.in_err-check.ensures)

pub is_marked-requires : goal.is_marked-requires
is_marked-requires c =
    let a = accepted-facts _ _ _ (sym c.in_ok-check.ensures) in
    (a.number-low, omega (arith, a.number-high, a.stream.sent-high))

pub returns-then-is_marked : goal.returns-then-is_marked
unfolding step_refusal fit
returns-then-is_marked c = outcome-duplicate _ _ _ (sym c.in_ok-check.ensures) (sym c.is_marked.ensures ∙ c.if-is_marked.true)

pub returns-then-self-number : goal.returns-then-self-number
unfolding step_refusal fit
returns-then-self-number c =
    outcome-in-order _ _ _ (sym c.in_ok-check.ensures) (sym c.is_marked.ensures ∙ c.if-is_marked.false) c.if-self-number.true

pub note_reordered-requires : goal.note_reordered-requires
note_reordered-requires c = accepted-facts _ _ _ (sym c.in_ok-check.ensures)

pub returns : goal.returns
unfolding step_refusal fit
returns c =
    outcome-late _ _ _ (sym c.in_ok-check.ensures) _ (sym c.is_marked.ensures ∙ c.if-is_marked.false) c.if-self-number.false
    c.note_reordered.ensures
