-- If the tree had some first arrivals with their total, then it has those before p with theirs.
use Rattle.metrics.specs.Private.Engine.{SizeTree}
use Rattle.metrics.specs.Private.Tables.{NumberTable}
use Rattle.metrics.specs.Sample.{size_of}
use Rattle.rfc4737.specs.declared.Arrival.{Arrival}
use Rattle.sample.specs.Decode.{decode}
use mathlib.Core.List.{List}
use Rattle.metrics.proofs.engine.byte_offset.PairTree.fill.Given as goal

abbrev pub invariant-loop-p : goal.invariant-loop-p
invariant-loop-p l = (fs : List Arrival) → NumberTable fs l.numbers l.count
    → SizeTree (size_of (decode l.file.file.now)) fs (record { sums = l.initial.self.sums; filled = l.initial.self.filled; total = l.initial.total })
    → SizeTree (size_of (decode l.file.file.now)) fs (record { sums = l.self.sums; filled = l.p; total = l.total })
