use Rattle.std.proofs.Common.{refl}
use borrow.Author.Tests.{le-leb, lt-leb}
use Rattle.rfc4737.specs.Order.{next_after}
use Rattle.receiver.proofs.numbers.next_after.Goals as goal

pub returns-then-next-number : goal.returns-then-next-number
unfolding next_after
returns-then-next-number c = simp (le-leb _ _ c.if-next-number.true)

pub returns-else-next-number : goal.returns-else-next-number
unfolding next_after
returns-else-next-number c = simp (lt-leb _ _ c.if-next-number.false)
