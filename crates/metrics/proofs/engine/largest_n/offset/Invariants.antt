-- The sum is the byte offset over the positions passed, given that it is 0 over the first `from`, and at most 65,535 for each; so it fits.
use Prim.Native.Nat.{◌*◌, ◌≤◌}
use Rattle.metrics.proofs.Reordered.{OffsetTo}
use Rattle.metrics.specs.Sample.{size_of}
use Rattle.sample.specs.Decode.{decode}
use Rattle.metrics.proofs.engine.largest_n.offset.Given as goal

abbrev pub invariant-loop-p : goal.invariant-loop-p
invariant-loop-p l = (l.sum ≤ 65535 * l.p) × OffsetTo l.numbers l.count l.s (size_of (decode l.file.file.now)) l.from l.p l.sum
