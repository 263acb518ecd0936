-- The tables follow the arrivals passed, and the tally is that of their answers.
use Rattle.metrics.specs.Private.Tables.{SeenAt}
use Rattle.metrics.specs.Records.{answers_to, before}
use Rattle.rfc4737.specs.Tally.{tally}
use Rattle.sample.specs.Decode.{decode}
use mathlib.Core.Path.{◌≡◌}
use Rattle.metrics.proofs.figures.tally_of.Given as goal

abbrev pub invariant-loop-i : goal.invariant-loop-i
invariant-loop-i l = SeenAt (before (decode l.file.file.now) l.i) l.seen l.state × (l.tally ≡ tally (answers_to (decode l.file.file.now) l.i))
