-- Assumes nothing.
use Prim.Native.Nat.{◌-◌}
use Rattle.metrics.proofs.Discovered.{last-before, last-here, last_none}
use Rattle.metrics.proofs.OneArrivalMore.{known_some}
use Rattle.metrics.specs.Private.Steps.{known, last_to}
use mathlib.Core.Path.{ap, sym, ◌∙◌, ◌≡◌}
use native.Mathlib.Omega.{arith}
use Rattle.metrics.proofs.figures.gaps.last_to.Goals as goal

pub loop-q-init : goal.loop-q-init
loop-q-init c = (omega arith, ap (last_to c.args.discoverers.now) (omega arith))

pub returns-then-discoverers-q-ne0 : goal.returns-then-discoverers-q-ne0
returns-then-discoverers-q-ne0 c =
    let e = c.loop-q.invariant.1 ∙ last-here _ _ (omega arith) c.if-discoverers-q-ne0.true in
    sym (ap known e ∙ known_some _ (λ (z : c.loop-q.q - 1 ≡ 0). omega arith))

pub loop-q-preserved : goal.loop-q-preserved
loop-q-preserved c = (omega arith, c.loop-q.invariant.1 ∙ last-before _ _ (omega arith) c.if-discoverers-q-ne0.false)

pub returns : goal.returns
returns c = sym (ap known (c.loop-q.invariant.1 ∙ last_none _ _ (omega arith)))
