-- After the count stand the octets of the sizes so far; all else is as where the loop began.
use Rattle.std.proofs.Common.{◌≡◌, ◌+◌, ◌*◌, take}
use Rattle.octets.specs.Memory.{splice}
use Rattle.sample.specs.Format.{size_width, items_at, item_octets, size_octets}
use Rattle.sample.proofs.sections.write_sizes.Given as goal

abbrev pub invariant-loop-size : goal.invariant-loop-size
invariant-loop-size l =
    record {
      next : l.start ≡ items_at l.at + size_width * l.size-index;
      written : l.out ≡ splice (items_at l.at) (item_octets size_octets (take l.size-index l.sizes)) l.initial.out;
    }
