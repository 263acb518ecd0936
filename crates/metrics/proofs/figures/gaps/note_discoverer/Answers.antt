-- An answer that is not reordered leaves the table (`marked-same`); a reordered one changes it only where 0 is (`marked-late`). Assumes
-- nothing.
use Rattle.metrics.proofs.AnswersByClass.{late-none}
use Rattle.metrics.proofs.OneArrivalMore.{marked-late, marked-same}
use borrow.Author.Tests.{eq-eqb, ne_eqb}
use Rattle.metrics.proofs.figures.gaps.note_discoverer.Goals as goal

pub returns-in_default : goal.returns-in_default
returns-in_default c = λ l a k m. marked-same l a _ (late-none _ _ a k c.in_default.not-Reordered) m

pub returns-then-discoverers-place-eq0 : goal.returns-then-discoverers-place-eq0
returns-then-discoverers-place-eq0 c = λ l a k m.
    let is = c.in-Reordered.is in
    let p = c.requires in
    rw (eq-eqb _ 0 c.if-discoverers-place-eq0.true) at (marked-late l a _ _ _ (rw is at k) (rw is at p.2) p.1 m)

pub returns-else-discoverers-place-eq0 : goal.returns-else-discoverers-place-eq0
returns-else-discoverers-place-eq0 c = λ l a k m.
    let is = c.in-Reordered.is in
    let p = c.requires in
    rw (ne_eqb _ 0 c.if-discoverers-place-eq0.false) at (marked-late l a _ _ _ (rw is at k) (rw is at p.2) p.1 m)
