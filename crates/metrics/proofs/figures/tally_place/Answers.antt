-- Assumes nothing.
use Rattle.rfc4737.specs.Tally.{tally_most, tally_place}
use borrow.Author.Tests.{le-leb, lt-leb}
use native.Mathlib.Omega.{arith}
use Rattle.metrics.proofs.figures.tally_place.Goals as goal

pub returns-then-extent-le-TALLY_MOST : goal.returns-then-extent-le-TALLY_MOST
unfolding tally_place
returns-then-extent-le-TALLY_MOST c = simp (le-leb c.args.extent tally_most (omega arith))

pub returns : goal.returns
unfolding tally_place
returns c = simp (lt-leb c.args.extent tally_most (omega arith))
