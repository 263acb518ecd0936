-- The engine is after the records passed, and their rows are put.
use Prim.Native.Nat.{◌-◌}
use Rattle.metrics.specs.Private.Engine.{EngineState}
use Rattle.metrics.specs.Rows.{rows_of}
use Rattle.metrics.specs.Sample.{answers_of}
use Rattle.octets.specs.Memory.{over, part}
use Rattle.sample.specs.Decode.{decode}
use mathlib.Core.Path.{◌≡◌}
use Rattle.metrics.proofs.figures.rows.put_rows.Given as goal

abbrev pub invariant-loop-i : goal.invariant-loop-i
invariant-loop-i l = EngineState (decode l.file.file.now) l.i l.engine × (l.rows ≡ over (rows_of (part l.from (l.i - l.from) (answers_of (decode l.file.file.now)))) l.initial.rows)
