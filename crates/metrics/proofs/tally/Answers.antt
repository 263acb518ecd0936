-- Assumes nothing.
use Rattle.metrics.specs.Figures.{sample_tally}
use Rattle.metrics.proofs.tally.Goals as goal

pub returns : goal.returns
unfolding sample_tally
returns c = rw (← c.new-file.ensures, c.new-file.result.laid.laid, c.tally_of.ensures)
