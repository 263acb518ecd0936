use Rattle.shortnumbers.specs.Steps.{short_step}
use Rattle.shortnumbers.proofs.Steps.{every-step}
use Rattle.shortnumbers.proofs.step_8.Goals as goal

pub returns-clause-value : goal.returns-clause-value
unfolding short_step
returns-clause-value c =
    let p = c.short_step-outcome.ensures in
    rw (p.0, p.1)

pub returns-clause-everywidth : goal.returns-clause-everywidth
returns-clause-everywidth c = every-step
