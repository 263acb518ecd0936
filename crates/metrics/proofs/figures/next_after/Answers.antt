-- Assumes nothing.
use Rattle.rfc4737.specs.Order.{next_after}
use borrow.Author.Tests.{le-leb, lt-leb}
use native.Mathlib.Omega.{arith}
use Rattle.metrics.proofs.figures.next_after.Goals as goal

pub returns-then-next-number : goal.returns-then-next-number
unfolding next_after
returns-then-next-number c = simp (le-leb c.args.next c.args.number (omega arith))

pub returns : goal.returns
unfolding next_after
returns c = simp (lt-leb c.args.next c.args.number (omega arith))
