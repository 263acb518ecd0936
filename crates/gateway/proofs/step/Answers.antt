-- What is said and the state are those of the receiver's step.
use Rattle.receiver.proofs.StepCases.{as_step}
use Rattle.gateway.proofs.step.Goals as goal

pub returns : goal.returns
returns c = as_step c.args.r.now c.args.number c.args.time c.step-s.result c.step-s.ensures
