-- The list holds the sizes from index i on; all else is as it was.
use Rattle.std.proofs.Common.{◌≡◌, drop}
use Rattle.octets.specs.BigEndian.{be_value}
use Rattle.octets.specs.Memory.{splice}
use Rattle.sample.specs.Format.{size_width, items_in}
use Rattle.sample.proofs.fill.fill_sizes.Given as goal

abbrev pub invariant-loop-i : goal.invariant-loop-i
invariant-loop-i l = l.sizes ≡ splice l.i (drop l.i (items_in size_width be_value l.count (drop l.at l.file))) l.initial.sizes
