-- A duplicate leaves the needs (`after-duplicate`), any other packet adds its own (`after-in-order`, `after-reordered`). Assumes nothing.
use Rattle.metrics.proofs.Accommodation.{after-duplicate, after-in-order, after-reordered}
use Rattle.rfc4737.specs.Arrivals.{count}
use Rattle.metrics.proofs.figures.needs.Sizes.needs_after.Goals as goal

pub returns-in-Duplicate : goal.returns-in-Duplicate
returns-in-Duplicate c = λ m count l a k e h. after-duplicate m _ _ l _ _ count _ a (rw c.in-Duplicate.is at k) h

pub returns-in-InOrder : goal.returns-in-InOrder
returns-in-InOrder c =
    λ m count l a k e h. rw c.needs_with.ensures.0 (after-in-order m _ _ l _ _ count _ _ a
    (rw c.in-InOrder.is at k) e _ c.needs_with.ensures.1 h)

pub returns-in-Reordered : goal.returns-in-Reordered
returns-in-Reordered c =
    λ m count l a k e h. rw c.needs_with-in-Reordered.ensures.0 (after-reordered m _ _ l _ _ count _ _ a
    (rw c.in-Reordered.is at k) e _ c.needs_with-in-Reordered.ensures.1 h)
