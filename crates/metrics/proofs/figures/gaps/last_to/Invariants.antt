-- The last discontinuity up to p is that below q.
use Prim.Native.Nat.{◌-◌, ◌≤◌}
use Rattle.metrics.specs.Private.Steps.{last_to}
use mathlib.Core.Path.{◌≡◌}
use Rattle.metrics.proofs.figures.gaps.last_to.Given as goal

abbrev pub invariant-loop-q : goal.invariant-loop-q
invariant-loop-q l = (1 ≤ l.q) × (last_to l.discoverers l.p ≡ last_to l.discoverers (l.q - 1))
