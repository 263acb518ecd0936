-- The number of each case of an answer, for C and for lists of flags, and the amount of a late time. Assumes nothing.
use Rattle.std.specs.Prelude.{ℕ}
use Rattle.rfc4737.specs.declared.Answer.{Answer}
use Rattle.rfc4737.specs.declared.Answer.TheVariants.{Duplicate, InOrder, Reordered}
use Rattle.rfc4737.specs.declared.LateTime.{LateTime}
use Rattle.rfc4737.specs.declared.LateTime.TheVariants.{After, Before}

-- 0: in order; so a refused answer, "in order" with zeros, is all zeros
abbrev pub in_order_number : ℕ
in_order_number = 0

-- 1: reordered, and late after its discontinuity's arrival
abbrev pub reordered_after_number : ℕ
reordered_after_number = 1

-- 2: reordered, and late before its discontinuity's arrival
abbrev pub reordered_before_number : ℕ
reordered_before_number = 2

-- 3: a duplicate, the copy of an earlier arrival
abbrev pub duplicate_number : ℕ
duplicate_number = 3

-- `after` or `before`, by the direction of a late time
abbrev pub by_direction : ℕ → ℕ → LateTime → ℕ
by_direction after before (After t) = after
by_direction after before (Before t) = before

-- the number of a reordered packet with this late time
abbrev pub reordered_number : LateTime → ℕ
reordered_number late = by_direction reordered_after_number reordered_before_number late

-- the number of an answer's case
abbrev pub answer_number : Answer → ℕ
answer_number (InOrder d) = in_order_number
answer_number (Reordered d) = reordered_number d.late
answer_number (Duplicate d) = duplicate_number

-- the amount of a late time, in either direction
abbrev pub amount_of : LateTime → ℕ
amount_of (After t) = t
amount_of (Before t) = t
