-- The number of each case of what a receiver notes: those of an answer, and two more for its own case, one for each direction
-- of its late time. Assumes nothing.
use Rattle.std.specs.Prelude.{ℕ}
use Rattle.rfc4737.specs.Numbering.{in_order_number, reordered_number, duplicate_number, by_direction}
use Rattle.receiver.specs.declared.ReceiverAnswer.{ReceiverAnswer}
use Rattle.receiver.specs.declared.ReceiverAnswer.TheVariants.{Duplicate, InOrder, Exact, Beyond}

-- 4: reordered beyond the window, and late after the arrival of the window's oldest jump
abbrev pub beyond_after_number : ℕ
beyond_after_number = 4

-- 5: reordered beyond the window, and late before that arrival
abbrev pub beyond_before_number : ℕ
beyond_before_number = 5

-- the number of the case of what is noted
abbrev pub noted_number : ReceiverAnswer → ℕ
noted_number (InOrder jump) = in_order_number
noted_number (Exact l) = reordered_number l.late
noted_number Duplicate = duplicate_number
noted_number (Beyond l) = by_direction beyond_after_number beyond_before_number l.late
