-- The numbers from index p to before `count` are above s.
use Rattle.metrics.specs.Private.Tables.{Above}
use Rattle.metrics.proofs.engine.largest_n.largest_by_links.Given as goal

abbrev pub invariant-loop-p : goal.invariant-loop-p
invariant-loop-p l = Above l.numbers l.s l.p l.count

abbrev pub decreases-loop-p : goal.decreases-loop-p
decreases-loop-p l = l.p
