-- Bounds of the figures of a sample, and so of the number of their digits. Assumes nothing.
use Rattle.std.specs.Prelude.{ℕ, ◌^◌, ◌<◌, ◌≤◌}
use Rattle.rfc4737.specs.declared.Answer.{Answer}
use Rattle.rfc4737.specs.declared.Answer.TheVariants.{Duplicate, InOrder, Reordered}
use Rattle.rfc4737.specs.declared.Counts.{Counts}
use Rattle.rfc4737.specs.declared.LateTime.{LateTime}
use Rattle.rfc4737.specs.declared.LateTime.TheVariants.{After, Before}
use Rattle.rfc4737.specs.declared.ReorderedFigures.{ReorderedFigures}
use Rattle.rfc4737.specs.Reordered.{offset_most}
use Rattle.rfc4737.specs.Runs.{squares_most}
use Rattle.rfc4737.specs.Times.{back_most}

-- n has at most four digits. K, A and every record, number, position, extent, jump size, largest n and count of a sample are at most
-- 4,096, and so have at most four
abbrev pub FourDigits : ℕ → Type 0
FourDigits n = n < 10 ^ 4

-- a late time: after, it has 64 bits and at most 20 digits; before, it is at most 1,000
abbrev pub TimeWithin : LateTime → Type 0
TimeWithin (After t) = t < 2 ^ 64
TimeWithin (Before t) = t ≤ back_most

-- the figures of a reordered packet: the byte offset, at most 268,365,825, has at most nine digits
pub record LateWithin (f : ReorderedFigures) : Type 0 where
  pub position : FourDigits f.position
  pub extent : FourDigits f.extent
  pub late : TimeWithin f.late
  pub offset : f.offset ≤ offset_most
  pub largest : FourDigits f.largest

-- the figures of an answer
abbrev pub AnswerWithin : Answer → Type 0
AnswerWithin (Duplicate f) = FourDigits f.first
AnswerWithin (InOrder f) = FourDigits f.position × FourDigits f.jump
AnswerWithin (Reordered f) = LateWithin f

-- the counts of a sample: the sum of squares, at most 16,777,216, has at most eight digits
pub record CountsWithin (c : Counts) : Type 0 where
  pub arrived : FourDigits c.arrived
  pub reordered : FourDigits c.reordered
  pub duplicates : FourDigits c.duplicates
  pub inorder : FourDigits c.inorder
  pub closed : FourDigits c.runs.closed
  pub squares : c.runs.squares ≤ squares_most
  pub current : FourDigits c.runs.current
