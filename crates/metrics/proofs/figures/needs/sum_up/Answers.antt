-- Assumes nothing.
use Rattle.metrics.proofs.Accommodation.{summed-next, summed-start, summed-sum}
use native.Mathlib.Omega.{arith}
use Rattle.metrics.proofs.figures.needs.sum_up.Goals as goal

pub loop-count-init : goal.loop-count-init
loop-count-init c = summed-start _ c.requires.0

pub overflow_add-sum : goal.overflow_add-sum
overflow_add-sum c =
    let l = c.loop-count in
    omega (arith, summed-sum _ _ _ _ l.invariant (omega arith), c.requires.1 l.count-index (omega arith))

pub loop-count-preserved : goal.loop-count-preserved
loop-count-preserved c = summed-next _ _ _ _ c.loop-count.invariant (omega arith)

pub returns : goal.returns
returns c = let i = c.loop-count.invariant in (i.places, λ j few. i.done j (omega (arith, few)))
