use Rattle.std.proofs.Common.{◌≡◌, take, drop, ◌++◌}
use Rattle.fragments.specs.Arrivals.{pieces}
use Rattle.fragments.specs.Order.{expected, flags}
use Rattle.fragments.specs.Usable.{usable}
use Rattle.fragments.proofs.Seen.{SeenTo}
use Rattle.fragments.proofs.flags.fill_flags_and_used.Given as goal

-- both lists have the values of the first i arrivals, then the notes
abbrev pub invariant-loop-i : goal.invariant-loop-i
invariant-loop-i l = record {
  flagged : l.flagged ≡ take l.i (flags (pieces l.arrivals)) ++ drop l.i l.initial.flagged;
  used : l.used ≡ take l.i (usable (pieces l.arrivals)) ++ drop l.i l.initial.used;
  expected : l.expected ≡ expected (take l.i (pieces l.arrivals));
  seen : SeenTo (pieces l.arrivals) l.i l.seen;
}
