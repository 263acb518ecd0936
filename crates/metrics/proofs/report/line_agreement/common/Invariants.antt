-- The texts have i octets in common plus those that their rests have.
use Prim.Native.Nat.{◌+◌}
use Rattle.metrics.specs.Agreement.{common}
use lib.ListN.{drop}
use mathlib.Core.Path.{◌≡◌}
use Rattle.metrics.proofs.report.line_agreement.common.Given as goal

abbrev pub invariant-loop-i : goal.invariant-loop-i
invariant-loop-i l = common l.one l.other ≡ l.i + common (drop l.i l.one) (drop l.i l.other)
