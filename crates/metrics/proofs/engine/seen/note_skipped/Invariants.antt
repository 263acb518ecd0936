-- The entries from `from` to before the packet are filled.
use Rattle.metrics.specs.Private.Tables.{Filled}
use Rattle.metrics.proofs.engine.seen.note_skipped.Given as goal

abbrev pub invariant-loop-packet : goal.invariant-loop-packet
invariant-loop-packet l = Filled l.from l.packet l.position l.initial.skipped l.skipped
