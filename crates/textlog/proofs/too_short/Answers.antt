-- The code's two tests are those of `log_lists_short`.
use Rattle.std.proofs.Common.{arith}
use Rattle.std.proofs.lemmas.Bool.Decides.{nat_tests}
use Rattle.textlog.specs.Calls.{log_lists_short}
use Rattle.textlog.proofs.too_short.Goals as goal

pub returns-then-numbers-arrivals : goal.returns-then-numbers-arrivals
unfolding log_lists_short
returns-then-numbers-arrivals c = grind (arith, nat_tests)

pub returns-else-numbers-arrivals : goal.returns-else-numbers-arrivals
unfolding log_lists_short
returns-else-numbers-arrivals c = grind (arith, nat_tests)
