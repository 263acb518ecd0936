-- Assumes nothing.
use Rattle.metrics.proofs.AnswersByClass.{late-never}
use native.Mathlib.Omega.{arith}
use Rattle.metrics.proofs.engine.byte_offset.PairTree.late_figures.Goals as goal

pub returns-in_default : goal.returns-in_default
returns-in_default c = (omega arith, λ fs n t. (t, late-never _ _ c.in_default.not-Reordered))

pub returns : goal.returns
returns c =
    let l = c.largest_by_links.ensures in (
      l.0,
      λ fs n t. let made = c.offset.ensures fs n t in (made.0, rw c.in-Reordered.is (l.1 fs n, made.1)),
    )
