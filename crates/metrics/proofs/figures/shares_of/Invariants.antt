-- Tables and shares are those of the arrivals passed.
use Rattle.metrics.specs.Private.Steps.{ShareTables}
use Rattle.metrics.specs.Records.{before}
use Rattle.metrics.specs.Sample.{size_of}
use Rattle.sample.specs.Decode.{decode}
use Rattle.metrics.proofs.figures.shares_of.Given as goal

abbrev pub invariant-loop-i : goal.invariant-loop-i
invariant-loop-i l = ShareTables l.low l.high (size_of (decode l.file.file.now)) (before (decode l.file.file.now) l.i) l.numbers l.links l.shares
