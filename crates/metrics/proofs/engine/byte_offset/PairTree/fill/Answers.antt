-- The next first arrival is `size-tree-more`; a total fits, with at most 65,535 for each. Assumes nothing.
use Rattle.metrics.proofs.DigitBounds.{size-most}
use Rattle.metrics.proofs.Pairs.{size-tree-more, total-small}
use mathlib.Core.Path.{refl, ◌≡◌}
use native.Mathlib.Omega.{arith}
use Rattle.metrics.proofs.engine.byte_offset.PairTree.fill.Goals as goal

pub loop-p-init : goal.loop-p-init
loop-p-init c = λ fs n t. t

pub overflow_add-total : goal.overflow_add-total
overflow_add-total c =
    let k = c.requires in
    let t = c.loop-p.invariant k.fs k.numbered k.totalled in
    omega (arith, total-small _ (size-most c.args.file.now.file.now c.args.file.now.octets) k.fs (omega (arith, k.numbered.all, k.few)) _ t, c.size_of-size.ensures.1, k.few)

pub loop-p-preserved : goal.loop-p-preserved
loop-p-preserved c =
    let k = c.requires in
    λ fs n t.
    size-tree-more _ (size-most c.args.file.now.file.now c.args.file.now.octets) fs (omega (arith, n.all, k.few)) _ _ _ _ _ _ (omega (arith, n.all))
    (n.at c.loop-p.p (omega (arith, n.all))) (k.packets.inside c.loop-p.p (omega arith)).0 c.size_of-size.ensures.0
    (c.loop-p.invariant fs n t) c.add.ensures

pub returns : goal.returns
returns c = λ fs n t.
    let e : c.loop-p.p ≡ c.args.count = omega (arith, t.some, n.all) in (rw e at (c.loop-p.invariant fs n t), refl)
