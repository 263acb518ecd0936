use Rattle.fragments.specs.Arrivals.{pieces}
use Rattle.fragments.proofs.Coverage.{OnePass}
use Rattle.fragments.proofs.cover.reach_of.Given as goal

-- the packet is covered up to the reach, and no arrival before has its octet
abbrev pub invariant-loop-place : goal.invariant-loop-place
invariant-loop-place l = OnePass (pieces l.arrivals) l.s l.run l.reach l.place-index
