-- An index is below the length of the tally (`place-lt`). Assumes nothing.
use Prim.Native.Nat.{◌+◌, ◌-◌}
use Rattle.metrics.proofs.AnswersByClass.{late-none}
use Rattle.metrics.proofs.OneArrivalMore.{tally-other}
use Rattle.rfc4737.proofs.Folds.{place-lt}
use Rattle.rfc4737.specs.Tally.{one_more_at, tally_after}
use native.Mathlib.Omega.{arith}
use Rattle.metrics.proofs.figures.tally_after.Goals as goal

pub returns-in_default : goal.returns-in_default
returns-in_default c = λ a k. tally-other _ a (late-none _ _ a k c.in_default.not-Reordered)

pub overflow_sub-count : goal.overflow_sub-count
overflow_sub-count c = let p = rw c.in-Reordered.is at c.requires.3 in omega (arith, p)

pub offset_bounds-tally-place : goal.offset_bounds-tally-place
offset_bounds-tally-place c =
    omega (arith, c.tally_place-place.ensures, place-lt (c.args.count + 1 - c.in-Reordered.at))

pub bounds-tally-place : goal.bounds-tally-place
bounds-tally-place c =
    omega (arith, c.tally_place-place.ensures, place-lt (c.args.count + 1 - c.in-Reordered.at))

pub bounds-tally-place-2 : goal.bounds-tally-place-2
bounds-tally-place-2 c =
    omega (arith, c.tally_place-place.ensures, place-lt (c.args.count + 1 - c.in-Reordered.at))

pub overflow_add-tally : goal.overflow_add-tally
overflow_add-tally c = omega (arith, c.requires.1 c.tally_place-place.result)

pub returns : goal.returns
unfolding tally_after one_more_at
returns c = λ a k. rw (k.is, c.in-Reordered.is, c.tally_place-place.ensures)
