-- Tables and tree are those of the arrivals passed, and needs and counts are those of their answers.
use Rattle.metrics.specs.Private.Needs.{NeedState, NeedsOf}
use Rattle.metrics.specs.Records.{answers_to}
use Rattle.sample.specs.Decode.{decode}
use Rattle.metrics.proofs.figures.needs.needs_of.Given as goal

abbrev pub invariant-loop-i : goal.invariant-loop-i
invariant-loop-i l = NeedState (decode l.file.file.now) l.i l.tables l.tree l.state
    × NeedsOf l.measure l.sizes.low l.sizes.shift (answers_to (decode l.file.file.now) l.i) l.needs l.counts
