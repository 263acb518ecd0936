-- The loop's invariant: the table has the packets that arrived before record i + 1, and the tree and the pairs are those of the first
-- arrivals before it.
use Rattle.rfc4737.specs.Arrivals.{firsts}
use Rattle.sample.specs.Decode.{decode}
use Rattle.metrics.specs.Records.{before}
use Rattle.disorder.specs.Private.{PairTree}
use Rattle.disorder.proofs.DisorderInFile.{SeenTable}
use Rattle.disorder.proofs.pairs.disorder_in.Given as goal

abbrev pub invariant-loop-i : goal.invariant-loop-i
invariant-loop-i l =
    SeenTable (decode l.file) l.i l.seen × PairTree l.layout.sent (firsts (before (decode l.file) l.i)) l.counts l.p
