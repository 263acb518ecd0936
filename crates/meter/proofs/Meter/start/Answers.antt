use Rattle.meter.proofs.Meters.{as-start}
use Rattle.meter.proofs.Meter.start.Goals as goal

pub returns-clause-refused : goal.returns-clause-refused
returns-clause-refused c = rw c.number_in.ensures (as-start c.args.self _ _ _ c.restart-started.ensures).2
