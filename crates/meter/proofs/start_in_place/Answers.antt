use Rattle.meter.proofs.Meters.{as-start}
use Rattle.meter.proofs.start_in_place.Goals as goal

pub returns : goal.returns
returns c = rw c.number_in.ensures (as-start c.args.m.now _ _ _ c.restart.ensures)
