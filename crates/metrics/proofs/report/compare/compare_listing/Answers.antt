-- Assumes nothing.
use mathlib.Core.Path.{refl}
use Rattle.metrics.proofs.report.compare.compare_listing.Goals as goal

pub returns : goal.returns
returns c = c.take_all.ensures.compared refl
