-- The tables follow the records passed, and their discoverers are noted.
use Rattle.metrics.specs.Private.Steps.{DiscoverersAt}
use Rattle.metrics.specs.Private.Tables.{SeenAt}
use Rattle.metrics.specs.Records.{answers_to, before}
use Rattle.sample.specs.Decode.{decode}
use Rattle.metrics.proofs.figures.gaps.note_to.Given as goal

abbrev pub invariant-loop-i : goal.invariant-loop-i
invariant-loop-i l = SeenAt (before (decode l.file.file.now) l.i) l.seen l.state × DiscoverersAt (answers_to (decode l.file.file.now) l.i) l.discoverers
