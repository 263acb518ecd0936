-- The three cases of `kind_by`. Assumes nothing.
use Rattle.metrics.specs.Private.Steps.{kind_by}
use borrow.Author.Tests.{le-leb, lt-leb}
use native.Mathlib.Omega.{arith}
use Rattle.metrics.proofs.figures.kind_of.Goals as goal

pub returns-then-next-number : goal.returns-then-next-number
unfolding kind_by
returns-then-next-number c =
    let a = c.args in
    rw (c.requires.1 c.if-next-number.true) (simp (le-leb a.next a.number c.if-next-number.true))

pub returns-then-seen-at : goal.returns-then-seen-at
unfolding kind_by
returns-then-seen-at c = rw c.if-seen-at.true

pub returns : goal.returns
unfolding kind_by
returns c = rw c.if-seen-at.false (simp (lt-leb c.args.next c.args.number (omega arith)))
