-- The code's test is that of `reading_to`.
use borrow.Author.Tests.{lt-ltb, le-ltb}
use Rattle.sample.specs.Private.{reading_to}
use Rattle.sample.proofs.sections.place_in.Goals as goal

pub returns-then-file-place : goal.returns-then-file-place
unfolding reading_to
returns-then-file-place c = simp (lt-ltb _ _ c.if-file-place.true)

pub returns : goal.returns
unfolding reading_to
returns c = simp (le-ltb _ _ c.if-file-place.false)
