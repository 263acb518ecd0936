-- The loop's invariant: the bounds are such bounds (`Between`). The measure is their distance.
use Rattle.std.proofs.Common.{◌-◌}
use Rattle.sample.specs.Decode.{decode}
use Rattle.metrics.specs.Sample.{answers_of}
use Rattle.buffering.specs.Private.{Between}
use Rattle.buffering.proofs.least.Given as goal

abbrev pub invariant-loop-bounds : goal.invariant-loop-bounds
invariant-loop-bounds l = Between l.measure l.part l.whole (answers_of (decode l.file)) l.bounds

abbrev pub decreases-loop-bounds : goal.decreases-loop-bounds
decreases-loop-bounds l = l.bounds.high - l.bounds.low
