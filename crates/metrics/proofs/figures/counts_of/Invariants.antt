-- Packets seen, NextExp and counts are those of the arrivals passed.
use Rattle.metrics.proofs.CountsBySeen.{SeenPackets}
use Rattle.metrics.specs.Records.{answers_to, before}
use Rattle.rfc4737.specs.Runs.{counts}
use Rattle.sample.specs.Decode.{decode}
use mathlib.Core.Path.{◌≡◌}
use Rattle.metrics.proofs.figures.counts_of.Given as goal

abbrev pub invariant-loop-i : goal.invariant-loop-i
invariant-loop-i l = SeenPackets (before (decode l.file.file.now) l.i) l.seen l.next × (l.c ≡ counts (answers_to (decode l.file.file.now) l.i))
