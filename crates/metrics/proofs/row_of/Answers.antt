-- Each case has its own row. Assumes nothing.
use Rattle.metrics.specs.Rows.{row_of}
use Rattle.metrics.proofs.row_of.Goals as goal

pub returns-in-Duplicate : goal.returns-in-Duplicate
unfolding row_of
returns-in-Duplicate c = rw c.in-Duplicate.is

pub returns-in-InOrder : goal.returns-in-InOrder
unfolding row_of
returns-in-InOrder c = rw c.in-InOrder.is

pub returns-in-Reordered : goal.returns-in-Reordered
unfolding row_of
returns-in-Reordered c = rw (c.in-Reordered.is, c.by_direction.ensures, c.amount.ensures)
