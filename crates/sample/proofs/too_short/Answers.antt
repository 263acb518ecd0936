-- The code's three tests are those of `lists_short`.
use Rattle.std.proofs.Common.{arith}
use Rattle.std.proofs.lemmas.Bool.Decides.{nat_tests}
use Rattle.sample.specs.Calls.{lists_short}
use Rattle.sample.proofs.too_short.Goals as goal

pub returns-then-numbers-arrivals : goal.returns-then-numbers-arrivals
unfolding lists_short
returns-then-numbers-arrivals c = grind (arith, nat_tests)

pub returns-else-numbers-arrivals : goal.returns-else-numbers-arrivals
unfolding lists_short
returns-else-numbers-arrivals c = grind (arith, nat_tests)
