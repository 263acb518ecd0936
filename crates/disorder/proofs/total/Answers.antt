-- `disorder::total` meets its contract. The check lays the file out, so that `disorder_of` can be asked. That the total is the sum of
-- byte offsets and the least number of exchanges, and that moving the clock does not change it, are laws. Assumes nothing.
use Rattle.std.proofs.Common.{refl}
use Rattle.octets.specs.Below.{Octets}
use Rattle.metrics.proofs.FoundInFile.{laid}
use Rattle.disorder.specs.Sample.{sample_disorder}
use Rattle.disorder.proofs.Disorder.{offsets-count-pairs, wrong-least}
use Rattle.disorder.proofs.DisorderInFile.{sums-offsets}
use Rattle.disorder.proofs.Moved.{disorder-moved}
use Rattle.disorder.proofs.total.Goals as goal

pub disorder_of-requires : goal.disorder_of-requires
disorder_of-requires c = rw c.check-layout.ensures.value (laid _ (λ i. (c.type_inv.file i).fits))

pub returns : goal.returns
unfolding sample_disorder
returns c =
    let octets : Octets c.args.file.now = λ i. (c.type_inv.file i).fits in
    let h = laid _ octets in
    record {
      total = rw (c.check-layout.ensures.value, c.disorder_of.ensures) refl;
      sums = sums-offsets _ _ h;
      offsets = offsets-count-pairs;
      least = wrong-least;
      moved = disorder-moved _ octets;
    }
