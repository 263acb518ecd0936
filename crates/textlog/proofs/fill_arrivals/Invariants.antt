-- The lists hold the values of the first i arrivals, and those left are in the lines from `at` on.
use Rattle.textlog.proofs.Filling.{Filled}
use Rattle.textlog.proofs.fill_arrivals.Given as goal

abbrev pub invariant-loop-i : goal.invariant-loop-i
invariant-loop-i g l = Filled g.N.Numbers.full l.log l.initial.numbers l.initial.times l.greatest l.at l.i l.numbers l.times
