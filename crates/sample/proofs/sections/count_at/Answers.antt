-- The code's test is that of `reading_to`.
use Rattle.std.proofs.Common.{Some, ap}
use borrow.Author.Tests.{lt-ltb, le-ltb}
use Rattle.sample.specs.Decode.{count_at}
use Rattle.sample.specs.Private.{reading_to}
use Rattle.sample.proofs.sections.count_at.Goals as goal

pub returns-then-file-at : goal.returns-then-file-at
unfolding reading_to
returns-then-file-at c = simp (lt-ltb _ _ c.if-file-at.true)

pub returns : goal.returns
unfolding reading_to count_at
returns c = simp (le-ltb _ _ c.if-file-at.false) (ap Some c.number_at.ensures)
