-- Assumes nothing.
use Rattle.metrics.proofs.GapLists.{number-none}
use Rattle.metrics.proofs.figures.gaps.gap_number.Goals as goal

pub returns-in_default : goal.returns-in_default
returns-in_default c = λ l m. rw c.in_default.is (number-none l)
