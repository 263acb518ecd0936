-- Assumes nothing.
use Rattle.metrics.specs.Figures.{sample_counts}
use Rattle.metrics.proofs.counts.Goals as goal

pub returns : goal.returns
unfolding sample_counts
returns c = rw (← c.new-file.ensures, c.new-file.result.laid.laid, c.counts_of.ensures)
