use Rattle.std.proofs.Common.{◌≤◌, length, max}
use Rattle.decimal.proofs.Leading.{Passed}
use Rattle.decimal.proofs.reading.number_at.Given as goal

-- the octets from `at` to `end` are digits
abbrev pub invariant-loop-end : goal.invariant-loop-end
invariant-loop-end l = Passed l.s l.at l.value l.end × (l.end ≤ max l.at (length l.s))
