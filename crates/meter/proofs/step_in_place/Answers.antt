use Rattle.meter.proofs.Meters.{as-step}
use Rattle.meter.proofs.step_in_place.Goals as goal

pub returns : goal.returns
returns c = rw c.of.ensures (as-step c.args.m.now _ _ _ _ c.advance.ensures)
