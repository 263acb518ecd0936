-- with the value carried after the first i places the list is as it was with the new one after the last
use Rattle.std.proofs.Common.{◌≡◌, ◌+◌}
use Rattle.receiver.specs.Parts.{oldest_first}
use Rattle.receiver.proofs.Shift.{held_at}
use Rattle.receiver.proofs.kept.push_16.Given as goal

abbrev pub invariant-loop-i : goal.invariant-loop-i
invariant-loop-i l = held_at l.i l.carried (oldest_first l.down l.values) ≡ held_at (l.last + 1) l.value (oldest_first l.down l.fn.values)
