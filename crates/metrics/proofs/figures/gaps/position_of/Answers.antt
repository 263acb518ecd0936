-- Assumes nothing.
use Rattle.rfc4737.specs.Gaps.{position_of}
use mathlib.Core.Logic.{inl, inr}
use Rattle.metrics.proofs.figures.gaps.position_of.Goals as goal

pub returns-in-Duplicate : goal.returns-in-Duplicate
unfolding position_of
returns-in-Duplicate c = λ a k. rw (k.is, c.in-Duplicate.is)

pub returns-in-InOrder : goal.returns-in-InOrder
unfolding position_of
returns-in-InOrder c = λ a k. elim c.in-InOrder.is [
  | inl e ↦ rw (k.is, e.1)
  | inr e ↦ rw (k.is, e.1)
]
