-- What the step returns is the definition's, and a refused one leaves an equal receiver.
use Rattle.receiver.specs.Parts.{oldest_first}
use Rattle.receiver.proofs.StepCases.{as_step}
use Rattle.receiver.proofs.step_in_place.Goals as goal

pub returns : goal.returns
unfolding oldest_first
returns c = rw c.of.ensures (as_step c.args.r.now c.args.number c.args.time _ c.step.ensures)
