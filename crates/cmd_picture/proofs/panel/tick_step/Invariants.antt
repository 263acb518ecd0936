-- `cmd_picture::panel::tick_step` meets its contract. Invariant: the power of ten is 1 to 10^18, so that five times it fits. Measure: what
-- is left of the span. Assumes nothing.
use Rattle.std.proofs.Common.{◌≤◌}
use Rattle.cmd_picture.proofs.panel.tick_step.Given as goal

abbrev pub invariant-loop-rest : goal.invariant-loop-rest
invariant-loop-rest l = (1 ≤ l.ten) × (l.ten ≤ 1000000000000000000)

abbrev pub decreases-loop-rest : goal.decreases-loop-rest
decreases-loop-rest l = l.rest
