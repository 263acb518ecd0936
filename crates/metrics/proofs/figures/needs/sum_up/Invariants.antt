-- Below the index each count is the sum up to it, from the index on the counts are as they were, and `sum` is that of those passed.
use Rattle.metrics.proofs.Accommodation.{SummedTo}
use Rattle.metrics.proofs.figures.needs.sum_up.Given as goal

abbrev pub invariant-loop-count : goal.invariant-loop-count
invariant-loop-count l = SummedTo l.initial.counts l.counts l.sum l.count-index
