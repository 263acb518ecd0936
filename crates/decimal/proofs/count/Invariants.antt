use Rattle.std.proofs.Common.{◌≡◌, ◌+◌, length}
use Rattle.decimal.specs.Decimal.{decimal_of}
use Rattle.decimal.proofs.count.Given as goal

-- the digits that were cut and those of the rest are together those of v
abbrev pub invariant-loop-rest : goal.invariant-loop-rest
invariant-loop-rest l = l.cut + length (decimal_of l.rest) ≡ length (decimal_of l.v)

abbrev pub decreases-loop-rest : goal.decreases-loop-rest
decreases-loop-rest l = l.rest
