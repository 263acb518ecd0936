-- Assumes nothing.
use Rattle.metrics.specs.Private.Steps.{ratio_by}
use borrow.Author.Tests.{eq-eqb, ne_eqb}
use Rattle.metrics.proofs.figures.quotients.ratio_of.Goals as goal

pub returns-then-whole-eq0 : goal.returns-then-whole-eq0
unfolding ratio_by
returns-then-whole-eq0 c = simp (eq-eqb _ _ c.if-whole-eq0.true)

pub returns : goal.returns
unfolding ratio_by
returns c = simp (ne_eqb _ _ c.if-whole-eq0.false, c.quotient.ensures)
