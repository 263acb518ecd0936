-- Assumes nothing.
use Rattle.metrics.specs.Figures.{sample_needs}
use Rattle.metrics.proofs.greatest_needs.Goals as goal

pub returns : goal.returns
unfolding sample_needs
returns c =
    rw (
      ← c.new-file.ensures,
      c.new-file.result.laid.laid,
      c.greatest_need.ensures,
      c.greatest_need-2.ensures,
      c.greatest_need-3.ensures,
    )
