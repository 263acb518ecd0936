-- The three cases of `class_by`. Assumes nothing.
use Rattle.metrics.specs.Private.Tables.{class_by}
use borrow.Author.Tests.{eq-eqb, le-leb, lt-leb, ne_eqb}
use Rattle.metrics.proofs.engine.seen.Seen.class_of.Goals as goal

pub returns-then-first-ne0 : goal.returns-then-first-ne0
unfolding class_by
returns-then-first-ne0 c = simp (ne_eqb _ 0 c.if-first-ne0.true)

pub returns-then-next-number : goal.returns-then-next-number
unfolding class_by
returns-then-next-number c = simp (eq-eqb _ 0 c.if-first-ne0.false, le-leb _ _ c.if-next-number.true)

pub returns : goal.returns
unfolding class_by
returns c = simp (eq-eqb _ 0 c.if-first-ne0.false, lt-leb _ _ c.if-next-number.false)
