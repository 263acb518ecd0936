-- One back is above s too (`above-back`), or the largest n is known (`largest-back`). Assumes nothing.
use Prim.Native.Nat.{◌-◌}
use Rattle.metrics.proofs.Reordered.{above-back, above-none, largest-back}
use mathlib.Core.Path.{refl, ◌∙◌, ◌≡◌}
use native.Mathlib.Omega.{arith}
use Rattle.metrics.proofs.engine.largest_n.largest.Goals as goal

pub loop-p-init : goal.loop-p-init
loop-p-init c = above-none _ _ refl

pub returns-then-numbers-p : goal.returns-then-numbers-p
returns-then-numbers-p c =
    let p = c.loop-p in
    λ fs n. let e : c.args.count - 1 - (p.p - 1) ≡ c.args.count - p.p = omega arith in
    e ∙ largest-back _ _ _ _ p.invariant (λ low. c.if-numbers-p.true) fs n

pub loop-p-preserved : goal.loop-p-preserved
loop-p-preserved c = above-back _ _ (omega arith) c.if-numbers-p.false c.loop-p.invariant

pub returns : goal.returns
returns c =
    λ fs n. let e : c.args.count ≡ c.args.count - c.loop-p.p = omega arith in
    e ∙ largest-back _ _ _ _ c.loop-p.invariant (λ low. absurd (omega arith)) fs n
