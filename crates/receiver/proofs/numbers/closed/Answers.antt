-- The square of a run of at most 4,096 is at most 16,777,216.
use Rattle.std.proofs.Common.{arith, refl, rules}
use Rattle.rfc4737.specs.Runs.{ended}
use Rattle.receiver.proofs.Squares.{square-high}
use Rattle.receiver.proofs.numbers.closed.Goals as goal

pub returns : goal.returns
unfolding ended
returns c = refl
