-- The step is that with the number found, also where NextExp is that of no fit state and the number is found from 0.
use Rattle.std.proofs.Common.{ap, ◌∙◌}
use Rattle.receiver.specs.declared.StepAnswer.{StepAnswer}
use Rattle.shortnumbers.specs.Steps.{short_step}
use Rattle.shortnumbers.proofs.Steps.{step-found}
use Rattle.shortnumbers.proofs.short_step.Goals as goal

pub returns : goal.returns
unfolding short_step
returns c =
    let e =
    step-found c.args.range c.args.r.now c.args.short c.args.time c.greatest_by.result c.full_number-number.result c.greatest_by.ensures.1
    c.full_number-number.ensures.number in
    let p = c.step_in_place.ensures in
    (p.0 ∙ ap (λ (d : StepAnswer). d.outcome) e, p.1 ∙ ap (λ (d : StepAnswer). d.state) e, p.2)
