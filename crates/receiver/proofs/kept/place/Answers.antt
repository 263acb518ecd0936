use Rattle.std.proofs.Common.{arith}
use Rattle.receiver.specs.Parts.{place_from}
use Rattle.receiver.proofs.kept.place.Goals as goal

pub returns-then-down : goal.returns-then-down
unfolding place_from
returns-then-down c = (rw c.if-down.true, omega arith)

pub returns-else-down : goal.returns-else-down
unfolding place_from
returns-else-down c = (rw c.if-down.false, c.requires)
