-- Assumes nothing.
use Rattle.rfc4737.specs.Ratios.{quotient}
use mathlib.Core.Path.{refl}
use Rattle.metrics.proofs.figures.quotients.quotient.Goals as goal

pub returns : goal.returns
unfolding quotient
returns c = refl
