-- Each return is a case of the definition, in its order.
use Rattle.std.proofs.Common.{◌≡◌, true, sym, ◌∙◌, arith}
use borrow.Author.Tests.{eq-eqb, ne_eqb}
use Rattle.rfc4737.proofs.Due.{first_one}
use Rattle.receiver.specs.Step.{step_refusal}
use Rattle.receiver.specs.Fit.{fit}
use Rattle.receiver.proofs.Fits.{and-true, stream-facts}
use Rattle.receiver.proofs.Stream.check.Goals as goal

pub returns-then-not-is_fit_with : goal.returns-then-not-is_fit_with
unfolding step_refusal
returns-then-not-is_fit_with c = simp (sym c.is_fit_with.ensures ∙ c.if-not-is_fit_with.true)

pub overflow_add-self : goal.overflow_add-self
unfolding fit
overflow_add-self c =
    let h = stream-facts _ (and-true _ _ (sym c.is_fit_with.ensures ∙ c.if-not-is_fit_with.false)).0 in
    record { fits = omega (arith, h.accepted-high) }

pub returns-then-self-eq-PACKETS : goal.returns-then-self-eq-PACKETS
unfolding step_refusal
returns-then-self-eq-PACKETS c =
    simp (sym c.is_fit_with.ensures ∙ c.if-not-is_fit_with.false, eq-eqb _ _ c.if-self-eq-PACKETS.true)

pub returns : goal.returns
unfolding step_refusal
returns c =
    simp (sym c.is_fit_with.ensures ∙ c.if-not-is_fit_with.false, ne_eqb _ _ c.if-self-eq-PACKETS.false)
    (c.judge_one.ensures ∙ sym (first_one _))
