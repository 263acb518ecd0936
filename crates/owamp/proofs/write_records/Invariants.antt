use Rattle.std.proofs.Common.{◌≡◌, take}
use Rattle.octets.specs.Memory.{splice}
use Rattle.sample.specs.Format.{item_octets}
use Rattle.owamp.specs.Calls.{record_octets, arrivals_of_file}
use Rattle.owamp.proofs.write_records.Given as goal

-- the buffer begins with the records of the first i arrivals
abbrev pub invariant-loop-i : goal.invariant-loop-i
invariant-loop-i l = l.out ≡ splice 0 (item_octets record_octets (take l.i (arrivals_of_file l.file))) l.initial.out
