-- The next position is `offset-greater` or `offset-same`, and after the last the sum is the byte offset over all (`offset-all`). Assumes
-- nothing.
use Rattle.metrics.proofs.Reordered.{offset-all, offset-greater, offset-same}
use Rattle.metrics.specs.Sample.{size_of}
use Rattle.sample.specs.Decode.{decode}
use mathlib.Core.Path.{refl, sym}
use native.Mathlib.Omega.{arith}
use Rattle.metrics.proofs.engine.largest_n.offset.Goals as goal
use Rattle.metrics.proofs.engine.largest_n.offset.Goals.{then-s-number, else-s-number}

pub loop-p-init : goal.loop-p-init
loop-p-init c = (omega arith, λ fs h zero. sym zero)

pub size_of-sum-requires : goal.size_of-sum-requires
size_of-sum-requires c = let n = c.requires.1.inside c.loop-p.p (omega arith) in (omega (arith, n), omega (arith, n))

pub overflow_add-sum : goal.overflow_add-sum
overflow_add-sum c = omega (arith, c.size_of-sum.ensures.1)

pub loop-p-preserved : goal.loop-p-preserved
loop-p-preserved c =
    let l = c.loop-p in
    let a = c.args in
    let size = size_of (decode c.args.file.now.file.now) in (
      elim c.if-s-number.branch [
        | then-s-number w ↦ omega (arith, w.sum-is, w.size_of-sum.ensures.1)
        | else-s-number w ↦ omega (arith, w.sum-is)
      ],
      elim c.if-s-number.branch [
        | then-s-number w ↦ rw w.sum-is (offset-greater _ _ _ _ _ (omega arith) refl size a.from _ _ w.if-s-number.true w.size_of-sum.ensures.0
            l.invariant.1)
        | else-s-number w ↦ rw w.sum-is (offset-same _ _ _ _ _ (omega arith) refl size a.from _ w.if-s-number.false l.invariant.1)
      ],
    )

pub returns : goal.returns
returns c = offset-all _ _ _ (size_of (decode c.args.file.now.file.now)) c.args.from _ _ (omega arith) c.loop-p.invariant.1
