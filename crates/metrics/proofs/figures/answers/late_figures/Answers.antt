-- Assumes nothing.
use Rattle.metrics.proofs.AnswersByClass.{late-never}
use Rattle.metrics.proofs.figures.answers.late_figures.Goals as goal

pub returns-in_default : goal.returns-in_default
returns-in_default c = λ fs n. late-never _ _ c.in_default.not-Reordered

pub overflow_sub-at : goal.overflow_sub-at
overflow_sub-at c = (rw c.in-Reordered.is at c.requires.2).0

pub returns : goal.returns
returns c = λ fs n. rw c.in-Reordered.is (λ alone. c.offset.ensures fs n alone, c.largest.ensures fs n)
