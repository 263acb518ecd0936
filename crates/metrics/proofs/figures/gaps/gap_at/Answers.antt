-- Assumes nothing.
use Rattle.metrics.proofs.Discovered.{gap_other}
use Rattle.metrics.proofs.figures.gaps.gap_at.Goals as goal

pub returns-then-discoverers-place-eq0 : goal.returns-then-discoverers-place-eq0
returns-then-discoverers-place-eq0 c =
    let p = c.requires in λ l m. gap_other l _ m _ p.0 p.1 c.if-discoverers-place-eq0.true
