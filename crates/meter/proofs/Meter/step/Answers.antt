use Rattle.meter.proofs.Meters.{as-step}
use Rattle.meter.proofs.Meter.step.Goals as goal

pub returns-clause-refused : goal.returns-clause-refused
returns-clause-refused c = rw c.of.ensures (as-step c.args.self _ _ _ _ c.advance-answer.ensures).2
