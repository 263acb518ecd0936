use Rattle.std.proofs.Common.{◌≡◌, ◌≤◌, length}
use Rattle.octets.specs.Memory.{splice}
use Rattle.decimal.specs.Decimal.{decimal_of}
use Rattle.decimal.proofs.Backward.{lowest}
use Rattle.decimal.proofs.write_decimal.Given as goal

-- memory with the last i digits of the rest still to be written is all digits of v
abbrev pub invariant-loop-i : goal.invariant-loop-i
invariant-loop-i l = (l.i ≤ length l.initial.out) × (splice 0 (lowest l.i l.rest) l.out ≡ decimal_of l.v)

abbrev pub decreases-loop-i : goal.decreases-loop-i
decreases-loop-i l = l.i
