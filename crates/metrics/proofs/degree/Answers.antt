-- Assumes nothing.
use Rattle.metrics.specs.Figures.{degree_counts, sample_degree}
use Rattle.metrics.specs.Private.Steps.{ratio_by}
use Rattle.rfc4737.specs.Ratios.{degree, n_reordered, share}
use Rattle.metrics.proofs.degree.Goals as goal

pub returns : goal.returns
unfolding degree_counts sample_degree degree share n_reordered ratio_by
returns c = rw (c.ratio_of.ensures, c.n_reordered-c.ensures)
