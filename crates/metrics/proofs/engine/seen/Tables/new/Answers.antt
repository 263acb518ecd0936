-- Assumes nothing.
use mathlib.Core.Path.{refl}
use Rattle.metrics.proofs.engine.seen.Tables.new.Goals as goal

pub returns : goal.returns
returns c = rw c.new.ensures refl
