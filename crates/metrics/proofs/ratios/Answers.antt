-- Assumes nothing.
use Rattle.metrics.specs.Figures.{sample_ratios}
use Rattle.metrics.specs.Private.Steps.{ratios_by, shares_of}
use Rattle.rfc4737.specs.Ratios.{n_reordered, ratios, share}
use Rattle.metrics.proofs.ratios.Goals as goal

pub returns : goal.returns
unfolding sample_ratios ratios_by ratios share n_reordered shares_of
returns c =
    rw (← c.new-file.ensures, c.ratios_of.ensures, c.shares_of-shares.ensures, c.new-file.result.laid.laid)
