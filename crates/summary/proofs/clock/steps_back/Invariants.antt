-- `summary::clock::steps_back`: whether the clock steps back in all arrivals is whether it does in those from record i + 1 on, if it showed
-- `last` before it.
use Rattle.std.proofs.Common.{◌≡◌, drop}
use Rattle.rfc4737.specs.Times.{steps_back}
use Rattle.sample.specs.Decode.{decode}
use Rattle.metrics.specs.Sample.{sample_arrivals}
use Rattle.summary.proofs.clock.steps_back.Given as goal

abbrev pub invariant-loop-i : goal.invariant-loop-i
invariant-loop-i l = steps_back 0 (sample_arrivals (decode l.file)) ≡ steps_back l.last (drop l.i (sample_arrivals (decode l.file)))
