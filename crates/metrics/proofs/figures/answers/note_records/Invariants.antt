-- The tables follow the records passed.
use Rattle.metrics.specs.Private.Tables.{TablesAt}
use Rattle.metrics.specs.Records.{before}
use Rattle.sample.specs.Decode.{decode}
use Rattle.metrics.proofs.figures.answers.note_records.Given as goal

abbrev pub invariant-loop-i : goal.invariant-loop-i
invariant-loop-i l = TablesAt (before (decode l.file.file.now) l.i) l.tables l.state
