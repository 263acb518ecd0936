-- `disorder::pairs::disorder_of` meets its contract: a part of a table of zeros is zeros. Assumes nothing.
use Rattle.std.proofs.Common.{arith, ◌+◌}
use Rattle.std.proofs.lemmas.List.{take-replicate}
use Rattle.metrics.specs.Records.{number_places}
use Rattle.disorder.proofs.pairs.disorder_of.Goals as goal

pub disorder_in-requires : goal.disorder_in-requires
disorder_in-requires c =
    (c.requires, take-replicate (c.args.layout.sent + 1) number_places 0 (omega (arith, c.requires.sent_few)))
