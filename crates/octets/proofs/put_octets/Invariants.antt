use Rattle.std.proofs.Common.{◌≡◌, take}
use Rattle.octets.specs.Memory.{splice}
use Rattle.octets.proofs.put_octets.Given as goal

-- the first octets of s are written
abbrev pub invariant-loop-i : goal.invariant-loop-i
invariant-loop-i l = l.out ≡ splice l.at (take l.i l.s) l.initial.out
