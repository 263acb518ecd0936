-- Assumes nothing.
use Rattle.metrics.specs.Private.Needs.{needs_with}
use Rattle.metrics.proofs.figures.needs.Sizes.needs_with.Goals as goal

pub returns : goal.returns
unfolding needs_with
returns c = (rw c.max.ensures, c.count_need.ensures)
