-- After the count stand the octets of the arrivals so far; all else is as where the loop began.
use Rattle.std.proofs.Common.{◌≡◌, ◌+◌, ◌*◌, length, take}
use Rattle.octets.specs.Memory.{splice}
use Rattle.rfc4737.specs.Judge.{arrivals_from}
use Rattle.sample.specs.Format.{arrival_width, items_at, item_octets, arrival_octets}
use Rattle.sample.proofs.sections.write_arrivals.Given as goal

abbrev pub invariant-loop-number : goal.invariant-loop-number
invariant-loop-number l =
    record {
      next : l.start ≡ items_at l.at + arrival_width * length l.yielded;
      written : l.out ≡ splice (items_at l.at) (item_octets arrival_octets (take (length l.yielded) (arrivals_from l.numbers l.times))) l.initial.out;
    }
