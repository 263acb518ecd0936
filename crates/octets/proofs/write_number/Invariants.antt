use Rattle.std.proofs.Common.{◌≡◌, length, drop, ◌++◌}
use Rattle.octets.specs.BigEndian.{be_octets}
use Rattle.octets.proofs.write_number.Given as goal

-- what is left in i octets, and those written behind them
abbrev pub invariant-loop-i : goal.invariant-loop-i
invariant-loop-i l = be_octets l.i l.rest ++ drop l.i l.out ≡ be_octets (length l.initial.out) l.v
