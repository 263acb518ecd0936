-- Assumes nothing.
use Rattle.rfc4737.specs.Arrivals.{count}
use Rattle.rfc4737.specs.Runs.{arrived, counts, runs}
use mathlib.Core.Path.{refl}
use Rattle.metrics.proofs.figures.no_counts.Goals as goal

pub returns : goal.returns
unfolding counts arrived count runs
returns c = refl
