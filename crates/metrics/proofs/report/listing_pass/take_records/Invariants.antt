-- The engine is after the records passed, with their counts, and their lines are taken.
use Rattle.metrics.specs.Private.Engine.{EngineState}
use Rattle.metrics.specs.Private.Taken.{PassedTo}
use Rattle.metrics.specs.Records.{answers_to}
use Rattle.rfc4737.specs.Runs.{counts}
use Rattle.sample.specs.Decode.{decode}
use mathlib.Core.Path.{◌≡◌}
use Rattle.metrics.proofs.report.listing_pass.take_records.Given as goal

abbrev pub invariant-loop-i : goal.invariant-loop-i
invariant-loop-i l = EngineState (decode l.file.file.now) l.i l.engine × (l.counts ≡ counts (answers_to (decode l.file.file.now) l.i))
    × PassedTo (decode l.file.file.now) l.file.layout l.text l.comparing l.i l.at l.initial.out l.out
