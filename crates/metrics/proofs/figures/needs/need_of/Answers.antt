-- A record that is not reordered needs nothing (`need-none`). Assumes nothing.
use Rattle.metrics.proofs.Accommodation.{need-none}
use Rattle.metrics.proofs.figures.needs.need_of.Goals as goal

pub returns-in_default : goal.returns-in_default
returns-in_default c =
    (need-none _ _ _ _ c.requires.classed c.in_default.not-Reordered, c.requires.totalled)

pub late_need-requires : goal.late_need-requires
late_need-requires c = rw c.in-Reordered.is at c.requires
