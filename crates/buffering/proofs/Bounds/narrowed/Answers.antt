-- `buffering::Bounds::narrowed` meets its contract: if the first size is enough, it is the least (`closed`); else the size before the first
-- that is enough is too small (`before-not`), so it is below the high one (`before-inside`), and the first that is enough is the new high
-- one unless it is past the old (`closed-above`, `closed-between`). Assumes nothing.
use Rattle.std.proofs.Common.{arith, ℕ, ◌+◌, ◌^◌, ◌<◌}
use lib.Pow.{pow_pos}
use Rattle.metrics.proofs.Accommodation.{steps-arrived, steps-count}
use Rattle.buffering.proofs.Sizes.{closed, closed-above, closed-between, first-is, before-not, before-inside, after_is, one-after}
use Rattle.buffering.proofs.Bounds.narrowed.Goals as goal

pub returns-then-at-eq0 : goal.returns-then-at-eq0
returns-then-at-eq0 c =
    let s = c.accommodated_steps-steps.ensures in (
      closed _ _ _ _ _ c.requires.1
          (first-is _ _ _ _ _ _ _ _ (steps-arrived _ _ _ _ _ s) (steps-count _ _ _ _ _ s) _ c.first_reached-at.ensures c.if-at-eq0.true),
      omega (arith, c.requires.0),
    )

pub overflow_mul-below : goal.overflow_mul-below
overflow_mul-below c =
    let s = c.accommodated_steps-steps.ensures in
    let inside =
    before-inside _ _ _ _ _ _ _ _ (steps-arrived _ _ _ _ _ s) (steps-count _ _ _ _ _ s) _ c.first_reached-at.ensures _ c.requires.1
    c.if-at-eq0.false in
    rw c.power_of-width.ensures (record { fits = omega (arith, inside) })

pub overflow_add-below : goal.overflow_add-below
overflow_add-below c =
    let s = c.accommodated_steps-steps.ensures in
    let inside =
    before-inside _ _ _ _ _ _ _ _ (steps-arrived _ _ _ _ _ s) (steps-count _ _ _ _ _ s) _ c.first_reached-at.ensures _ c.requires.1
    c.if-at-eq0.false in
    rw c.power_of-width.ensures (record { fits = omega (arith, inside) })

pub overflow_add-next : goal.overflow_add-next
overflow_add-next c =
    let s = c.accommodated_steps-steps.ensures in
    let inside =
    before-inside _ _ _ _ _ _ _ _ (steps-arrived _ _ _ _ _ s) (steps-count _ _ _ _ _ s) _ c.first_reached-at.ensures _ c.requires.1
    c.if-at-eq0.false in
    rw c.power_of-width.ensures (record { fits = omega (arith, inside) })

pub overflow_sub-high-2 : goal.overflow_sub-high-2
overflow_sub-high-2 c =
    let s = c.accommodated_steps-steps.ensures in
    let inside =
    before-inside _ _ _ _ _ _ _ _ (steps-arrived _ _ _ _ _ s) (steps-count _ _ _ _ _ s) _ c.first_reached-at.ensures _ c.requires.1
    c.if-at-eq0.false in
    rw c.power_of-width.ensures (omega (arith, inside))

pub returns-then-high-below : goal.returns-then-high-below
returns-then-high-below c =
    let s = c.accommodated_steps-steps.ensures in
    let a = steps-arrived _ _ _ _ _ s in
    let k = steps-count _ _ _ _ _ s in
    let inside = before-inside _ _ _ _ _ _ _ _ a k _ c.first_reached-at.ensures _ c.requires.1 c.if-at-eq0.false in
    rw c.power_of-width.ensures (
      closed-above _ _ _ _ _ c.requires.1 _ (before-not _ _ _ _ _ _ _ _ a k _ c.first_reached-at.ensures c.if-at-eq0.false),
      omega (arith, inside, c.requires.0),
    )

-- a size with a power of two more is greater
pow_more : (n shift : ℕ) → n < n + 2 ^ shift
pow_more n shift = omega (arith, pow_pos shift)

pub returns : goal.returns
returns c =
    let s = c.accommodated_steps-steps.ensures in
    let a = steps-arrived _ _ _ _ _ s in
    let k = steps-count _ _ _ _ _ s in
    let f = c.first_reached-at.ensures in
    let n = c.if-at-eq0.false in
    let wide = rw c.power_of-width.ensures at c.if-high-below.false in
    let inside = before-inside _ _ _ _ _ _ _ _ a k _ f _ c.requires.1 n in
    let few = one-after _ _ _ _ _ _ _ _ a k _ f _ c.shift_for-shift.ensures.1 wide in
    rw c.power_of-width.ensures (
      closed-between _ _ _ _ _ c.requires.1 _ _ (omega arith) (pow_more _ _) (before-not _ _ _ _ _ _ _ _ a k _ f n)
          (after_is _ _ _ _ _ _ _ _ a k _ f n few),
      omega (arith, inside, wide, c.requires.0),
    )
