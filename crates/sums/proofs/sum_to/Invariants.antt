use Rattle.std.proofs.Common.{◌≡◌, ◌+◌, ◌%◌, ◌^◌, ◌<◌, length}
use Rattle.sums.specs.Tree.{parts_to}
use Rattle.sums.proofs.sum_to.Given as goal

-- the sum, and what index i and the indices after it hold, are all modulo 2^32
abbrev pub invariant-loop-i : goal.invariant-loop-i
invariant-loop-i l =
    (l.i < length l.tree) × (l.sum < 2 ^ 32)
    × ((l.sum + parts_to l.i l.tree l.i) % 2 ^ 32 ≡ parts_to l.number l.tree l.number % 2 ^ 32)

abbrev pub decreases-loop-i : goal.decreases-loop-i
decreases-loop-i l = l.i
