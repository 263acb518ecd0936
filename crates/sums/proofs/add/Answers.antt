use Rattle.std.proofs.Common.{ℕ, arith, refl}
use Rattle.sums.proofs.Lowest.{rest-low, rest-next}
use Rattle.sums.proofs.PartlyAdded.{partly_none, partly-next, partly-all, added-nowhere}
use Rattle.sums.proofs.add.Goals as goal

pub returns-then-number-eq0 : goal.returns-then-number-eq0
returns-then-number-eq0 c = added-nowhere _ _ _ (λ j. (c.type_inv.tree j).fits) c.if-number-eq0.true

pub loop-i-init : goal.loop-i-init
loop-i-init c =
    let fits = λ (j : ℕ). (c.type_inv.tree j).fits in
    (omega arith, omega (arith, rest-low c.args.number), partly_none _ _ _ fits, fits)

pub loop-i-preserved : goal.loop-i-preserved
loop-i-preserved c =
    let h = c.loop-i.invariant in
    rw c.rest.ensures (
      omega (arith, rest-low c.loop-i.i),
      omega (arith, rest-next c.loop-i.i),
      partly-next _ _ _ h.3 c.loop-i.i _ _ h.0 h.1 (omega arith) refl h.2,
      h.3,
    )

pub returns : goal.returns
returns c = partly-all _ _ _ c.loop-i.invariant.3 _ _ c.loop-i-test.false c.loop-i.invariant.2
