-- A need past `low` has the first index past its distance from `low` (`step_past`), which is 1 if the shift is 64 or more. Assumes nothing.
use Prim.Native.Nat.{◌-◌}
use Rattle.metrics.proofs.Accommodation.{step-far, step_past}
use native.Mathlib.Omega.{arith}
use Rattle.metrics.proofs.figures.needs.Sizes.step_of.Goals as goal

pub returns-then-self-ge64 : goal.returns-then-self-ge64
returns-then-self-ge64 c =
    let a = c.args.self in
    let n = c.args.need in
    step-far a.low a.shift n (n - a.low - 1) (omega arith) (omega arith) c.if-self-ge64.true

pub returns : goal.returns
returns c =
    let a = c.args.self in
    let n = c.args.need in
    step_past a.low a.shift n (n - a.low - 1) (omega arith)
