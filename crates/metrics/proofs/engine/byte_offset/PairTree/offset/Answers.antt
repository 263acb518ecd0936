-- The total without the sum up to the packet's pair is its byte offset (`offset-summed`). Assumes nothing.
use Prim.Native.Nat.{ℕ, ◌-◌}
use Rattle.metrics.proofs.DigitBounds.{size-most}
use Rattle.metrics.proofs.Pairs.{offset-summed, total-sum}
use mathlib.Core.Path.{ap, ◌∙◌}
use native.Mathlib.Omega.{arith}
use Rattle.metrics.proofs.engine.byte_offset.PairTree.offset.Goals as goal

pub overflow_sub-result : goal.overflow_sub-result
overflow_sub-result c =
    let k = c.requires.0 in
    let f = c.fill.ensures k.fs k.numbered k.totalled in
    omega (
      arith,
      c.sum_to.ensures.value,
      total-sum _ (size-most c.args.file.now.file.now c.args.file.now.octets) k.fs (omega (arith, k.numbered.all, k.few)) _ c.args.s (f.1 ∙ k.numbered.all) c.requires.2 f.0,
    )

pub returns : goal.returns
returns c = λ fs n t.
    let f = c.fill.ensures fs n t in (
      f.0,
      λ new.
          ap (λ (m : ℕ). c.fill.new.self.total - m) c.sum_to.ensures.value
          ∙ offset-summed _ (size-most c.args.file.now.file.now c.args.file.now.octets) fs (omega (arith, n.all, c.requires.0.few)) _ c.args.s (f.1 ∙ n.all) c.requires.1 c.requires.2 f.0 new,
    )
