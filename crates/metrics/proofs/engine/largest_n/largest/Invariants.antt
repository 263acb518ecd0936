-- The numbers from index p on are above s.
use Rattle.metrics.specs.Private.Tables.{Above}
use Rattle.metrics.proofs.engine.largest_n.largest.Given as goal

abbrev pub invariant-loop-p : goal.invariant-loop-p
invariant-loop-p l = Above l.numbers l.s l.p l.count
