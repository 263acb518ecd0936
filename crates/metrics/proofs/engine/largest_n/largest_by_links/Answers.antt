-- Where the number before p is above s, so are those that its link passes over (`above-link`), at least itself and at most as many as there
-- are; where it is not, or p is 0, the largest n is `count` less p (`largest-back`). Assumes nothing.
use Rattle.metrics.proofs.Links.{above-link}
use Rattle.metrics.proofs.Reordered.{above-none, largest-back}
use mathlib.Core.Path.{refl}
use native.Mathlib.Omega.{arith}
use Rattle.metrics.proofs.engine.largest_n.largest_by_links.Goals as goal

pub returns-then-number-s : goal.returns-then-number-s
returns-then-number-s c = (omega arith, largest-back _ _ _ _ c.loop-p.invariant (λ low. c.if-number-s.true))

pub loop-p-init : goal.loop-p-init
loop-p-init c = above-none _ _ refl

pub loop-p-preserved : goal.loop-p-preserved
loop-p-preserved c =
    above-link _ _ _ _ _ _ _ _ c.requires.1 (omega arith) c.if-number-s.false refl refl c.loop-p.invariant

pub returns : goal.returns
returns c = (omega arith, largest-back _ _ _ _ c.loop-p.invariant (λ low. absurd (omega arith)))
