-- One more at the index of the first size that is at least the need (`counted-in`), and nothing if there is none (`counted-out`). Assumes
-- nothing.
use Rattle.metrics.proofs.Accommodation.{counted-in, counted-out}
use native.Mathlib.Omega.{arith}
use Rattle.metrics.proofs.figures.needs.Sizes.count_need.Goals as goal

pub overflow_add-counts : goal.overflow_add-counts
overflow_add-counts c = omega (arith, c.requires.1 c.step_of-step.result c.if-step.true)

pub returns-then-step : goal.returns-then-step
returns-then-step c =
    let a = c.args in
    counted-in a.self.low a.self.shift a.need _ c.requires.0 _ c.step_of-step.ensures c.if-step.true

pub returns-else-step : goal.returns-else-step
returns-else-step c =
    let a = c.args in
    counted-out a.self.low a.self.shift a.need _ c.requires.0 _ c.step_of-step.ensures c.if-step.false
