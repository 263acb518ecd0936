use Rattle.fragments.specs.Arrivals.{pieces}
use Rattle.fragments.proofs.Coverage.{Unended}
use Rattle.fragments.proofs.cover.ends_covered.Given as goal

-- none of the arrivals from m on is a last fragment that ends at the reach or before
abbrev pub invariant-loop-m : goal.invariant-loop-m
invariant-loop-m l = Unended (pieces l.arrivals) l.s l.run l.reach l.m
