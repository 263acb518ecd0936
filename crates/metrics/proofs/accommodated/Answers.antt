-- The first count is what a buffer of the first size accommodates (`first_count`). Assumes nothing.
use Rattle.metrics.proofs.Accommodation.{first_count}
use Rattle.metrics.specs.Figures.{sample_accommodated}
use Rattle.metrics.proofs.accommodated.Goals as goal

pub returns : goal.returns
unfolding sample_accommodated
returns c =
    let n = c.needs_of-needs.ensures in
    rw (← c.new-file.ensures, c.new-file.result.laid.laid, n.many, first_count _ _ _ _ _ _ n)
