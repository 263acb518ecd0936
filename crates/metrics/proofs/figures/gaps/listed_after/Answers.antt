-- The last discontinuity stays (`last-stays`) or moves on (`last-moves`). Assumes nothing.
use Rattle.metrics.proofs.GapLists.{last-moves, last-stays}
use mathlib.Core.Path.{refl}
use native.Mathlib.Omega.{arith}
use Rattle.metrics.proofs.figures.gaps.listed_after.Goals as goal

pub returns-then-discoverers-count-eq0 : goal.returns-then-discoverers-count-eq0
returns-then-discoverers-count-eq0 c =
    let is = c.in-Some.is in
    let p = rw is at c.requires.0 in
    (rw is refl, last-stays _ _ _ _ c.requires.1 p.0 c.if-discoverers-count-eq0.true)

pub returns : goal.returns
returns c =
    let is = c.in-Some.is in
    let p = rw is at c.requires.0 in
    (rw is refl, last-moves _ _ (omega (arith, p.0)) c.if-discoverers-count-eq0.false)
