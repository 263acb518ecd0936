-- The next answer adds what its class says (`counts-more`). Assumes nothing.
use Prim.Native.Nat.{ℕ, ◌*◌, ◌^◌, ◌≤◌}
use Rattle.listing.specs.DigitBounds.{FourDigits}
use Rattle.metrics.proofs.OneArrivalMore.{counts-more}
use Rattle.rfc4737.specs.Runs.{counts, ended, lengthened, runs_after}
use mathlib.Core.Path.{sym}
use native.Mathlib.Nat.{mul-le-mul}
use native.Mathlib.Omega.{arith}
use Rattle.metrics.proofs.figures.counts_after.Goals as goal

square : {n : ℕ} → FourDigits n → n * n ≤ 10 ^ 4 * 10 ^ 4
square {n} h = mul-le-mul {n₁ = n} {m₁ = n} {n₂ = 10 ^ 4} {m₂ = 10 ^ 4} (omega arith) (omega arith)

pub returns-in-Duplicate : goal.returns-in-Duplicate
unfolding counts runs_after
returns-in-Duplicate c = λ l n a e k. rw (k.is, c.in-Duplicate.is, e) (sym (counts-more l _))

pub returns-in-InOrder : goal.returns-in-InOrder
unfolding counts runs_after lengthened
returns-in-InOrder c = λ l n a e k. rw (k.is, c.in-InOrder.is, e) (sym (counts-more l _))

pub returns-in-Reordered : goal.returns-in-Reordered
unfolding counts runs_after ended
returns-in-Reordered c = λ l n a e k. rw (k.is, c.in-Reordered.is, e) (sym (counts-more l _))
