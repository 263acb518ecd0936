-- Assumes nothing.
use Rattle.metrics.specs.Rows.{rows_short}
use mathlib.Core.Path.{refl}
use Rattle.metrics.proofs.figures.rows.rows_short.Goals as goal

pub returns : goal.returns
unfolding rows_short
returns c = refl
